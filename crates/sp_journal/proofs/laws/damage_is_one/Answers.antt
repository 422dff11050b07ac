use Rattle.sp_journal.proofs.OneFate.{damaged_version, damaged_unborn, one_damage}
use Rattle.sp_journal.proofs.laws.damage_is_one.Goals as goal

pub returns : goal.returns
returns c file at damaged = (
  λ other also. one_damage at file other damaged also,
  λ found other. damaged_version at file found damaged other,
  λ unborn. damaged_unborn at file damaged unborn,
)
