use Rattle.std.proofs.Common.{ap}
use Rattle.std.specs.Option.{option_map}
use Rattle.sp_config.specs.declared.setting.Setting.{Setting}
use Rattle.sp_config.specs.Names.{name_of}
use Rattle.sp_config.proofs.settings.Settings.bad_attribute.Goals as goal

pub returns-in-Some : goal.returns-in-Some
returns-in-Some c = ap (option_map (λ (s : Setting). name_of s.attr)) c.in-Some.ensures
