use Rattle.std.proofs.Common.{◌≡◌, take}
use Rattle.sp_config.proofs.settings.copy_all.Given as goal

abbrev pub invariant-loop-setting : goal.invariant-loop-setting
invariant-loop-setting l = l.copies.items ≡ take l.setting-index l.rows
