use Rattle.std.proofs.Common.{◌==◌, rules, tests}
use Rattle.std.proofs.lemmas.Iterator.{YieldsList-from_slice}
use Rattle.std.proofs.lemmas.Iterator.Consumers.{YieldsList-at, YieldsList-from_filter, nth_from_yields_List}
use Rattle.sp_access.proofs.flows.Flows.nth_flow.Goals as goal

pub returns : goal.returns
returns c =
    nth_from_yields_List c.nth.result c.nth.new.self c.args.place c.nth.ensures.ran
    (YieldsList-from_filter _ (λ f. f.endpoint == c.args.endpoint)
    (YieldsList-at c.filter.ensures.source (YieldsList-from_slice c.args.self.now.flows (search rules)))
    c.filter.ensures.closure (λ x r q k. search (rules, tests)))
