use Rattle.sp_core.proofs.tests.take.Goals as goal

pub apply-requires : goal.apply-requires
apply-requires c = (
  c.in_ok-ann.ann,
  c.in_ok-event.event,
  (c.in-Ok.ensures c.in_ok-event.event c.from_ref.ensures.value).ready,
)
