use Rattle.std.proofs.Common.{◌≡◌, drop}
use Rattle.sp_config.specs.Settings.{rise_above}
use Rattle.sp_config.proofs.settings.rise.Given as goal

abbrev pub invariant-loop-setting : goal.invariant-loop-setting
invariant-loop-setting l = rise_above 0 l.rows ≡ rise_above l.last (drop l.setting-index l.rows)
