use Rattle.sp_config.specs.declared.attr.Attr.TheVariants.{AccessType}
use Rattle.sp_json.proofs.AttributeLemmas.{filter_map_more}
use Rattle.sp_json.proofs.attributes.settings_among.Goals as goal

pub loop-attr-preserved : goal.loop-attr-preserved
loop-attr-preserved c =
    filter_map_more _ c.args.attrs.now c.loop-attr.attr-index AccessType _ _ _ c.loop-attr-test.true
    c.loop-attr.invariant c.in_ok-setting.ensures c.in_ok-push_some.ensures
