use Rattle.std.proofs.Common.{◌≡◌, ◌∙◌, ◌+◌, ◌-◌, ◌<◌, List, true, ap, arith, drop, length, subst, sym}
use Rattle.serde_json.specs.Data.{put}
use Rattle.sp_message.specs.Property.{are_properties}
use Rattle.sp_message.specs.declared.property.Property.{Property}
use Rattle.sp_json.specs.Properties.{properties_members, value_data}
use Rattle.sp_json.proofs.PropertiesBack.{put_next}
use Rattle.sp_json.proofs.properties.properties_value.Goals as goal

pub loop-at-preserved : goal.loop-at-preserved
loop-at-preserved c =
    let rows = c.as_slice-rows.result.now in
    let i = c.loop-at.at - 1 in
    let d = c.index-rows-at.result in
    let lt : i < length rows = omega (arith, c.loop-at.invariant.is_within, c.loop-at-test.true) in
    let next : i + 1 ≡ c.loop-at.at = omega (arith, c.loop-at-test.true) in
    let rules : are_properties rows ≡ true =
    subst (λ (ps : List Property). are_properties ps ≡ true) (sym c.as_slice-rows.ensures.value)
    c.as_slice-rows.ensures.form in
    record {
      is_within = omega (arith, lt);
      are_put =
          c.in_ok-put_property.ensures
          ∙ (ap (put d.name (value_data d.value))
          (c.loop-at.invariant.are_put ∙ ap (λ k. properties_members (drop k rows)) (sym next))
          ∙ (ap (λ (p : Property). put p.name (value_data p.value) (properties_members (drop (i + 1) rows)))
          c.index-rows-at.is
          ∙ put_next rows i d lt rules));
    }
