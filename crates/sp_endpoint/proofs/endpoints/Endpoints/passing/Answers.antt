use Rattle.sp_endpoint.specs.Endpoints.{numbered}
use Rattle.sp_endpoint.proofs.Lookup.{passing_more}
use Rattle.sp_selector.specs.Takes.{passes}
use Rattle.sp_endpoint.proofs.endpoints.Endpoints.passing.Goals as goal

pub loop-number-preserved : goal.loop-number-preserved
loop-number-preserved c =
    passing_more (λ e. passes e.selector c.args.message.now.properties) (λ n. numbered n c.args.self.now.items)
    c.args.numbers.now
    c.loop-number.number-index c.number-item.result c.loop-number.found.items _ c.find_passing.result
    c.loop-number-test.true c.number-item.is c.loop-number.invariant c.find_passing.ensures c.in_ok-push_some.ensures
