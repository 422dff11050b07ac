use Rattle.std.proofs.Common.{rules, ◌≡◌, ◌==◌, ◌<◌, ◌∙◌, List, ap, not, subst, sym}
use Rattle.std.specs.Prelude.{All, AllPairs, filter}
use Rattle.std.proofs.lemmas.Fn.{filter_same}
use Rattle.std.proofs.lemmas.List.Elements.{All-filter}
use Rattle.std.proofs.lemmas.List.Kept.{AllPairs-filter}
use Rattle.sp_access.specs.Flow.{FlowView}
use Rattle.sp_access.specs.Flows.{without_flow}
use Rattle.sp_access.proofs.Places.{Below}
use Rattle.sp_access.proofs.flows.Flows.unbind.Goals as goal
use Rattle.sp_access.proofs.flows.Flows.unbind.Goals.{After-retain}

-- the others are kept
kept : (c : After-retain) → c.retain.new.self.items ≡ without_flow c.args.f c.self.inside.rows.items
kept c = filter_same _ (λ (f : FlowView). not (f.number == c.args.f)) _ (λ x b f k. search rules) c.self.inside.rows.items c.retain.new.self.items c.retain.ensures.items

pub invariant_of-self : goal.invariant_of-self
invariant_of-self c =
    let stays = λ (f : FlowView). not (f.number == c.args.f) in
    let low = λ (f : FlowView). f.number < c.self.inside.next in
    record {
      rise = subst (AllPairs Below) (sym (kept c)) (AllPairs-filter Below stays c.self.inside.rows.items c.self.invariant.rise);
      below = subst (All low) (sym (kept c)) (All-filter stays low c.self.inside.rows.items c.self.invariant.below);
    }

pub returns-clause-flows : goal.returns-clause-flows
returns-clause-flows c = kept c ∙ ap (λ r. without_flow c.args.f r.flows) c.self.view_is
