use Rattle.sp_core.proofs.restart_tests.done.Goals as goal

pub apply-told-requires : goal.apply-told-requires
apply-told-requires c = (
  c.in_ok-caller.caller,
  c.in_ok-event.event,
  (c.in-Ok.ensures c.in_ok-event.event c.from_ref.ensures.value).ready,
)
