use Rattle.std.proofs.Common.{◌≡◌, take}
use Rattle.sp_config.specs.Settings.{with_settings}
use Rattle.sp_config.proofs.attributes.Attributes.set_all.Given as goal

abbrev pub invariant-loop-setting : goal.invariant-loop-setting
invariant-loop-setting l = l.self ≡ with_settings (take l.setting-index l.settings) l.fn.self
