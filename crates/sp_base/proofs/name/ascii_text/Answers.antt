use Rattle.sp_base.proofs.Names.{is_name-utf8}
use Rattle.sp_base.proofs.name.ascii_text.Goals as goal

pub unreachable-requires : goal.unreachable-requires
unreachable-requires c = c.in-Err.ensures.cases.0 (is_name-utf8 c.args.bytes.now c.requires)
