use Rattle.std.proofs.Common.{rules, refl, subst, sym, ◌≡◌, ◌<◌, ◌∙◌, List, [], ◌∷◌, false, arith}
use Rattle.std.specs.Prelude.{All, AllPairs, filter}
use Rattle.std.proofs.lemmas.Fn.{filter_same}
use Rattle.std.proofs.lemmas.List.Elements.{All-nil}
use Rattle.sp_access.specs.Flow.{FlowView}
use Rattle.sp_access.proofs.Places.{Below}
use Rattle.sp_access.proofs.flows.Flows.unbind_all.Goals as goal
use Rattle.sp_access.proofs.flows.Flows.unbind_all.Goals.{After-retain}

-- none is kept
none : (fs : List FlowView) → filter (λ f. false) fs ≡ []
none [] = refl
none (f ∷ fs) = none fs

gone : (c : After-retain) → c.retain.new.self.items ≡ []
gone c = filter_same _ (λ (f : FlowView). false) _ (λ x b f k. search rules) c.self.inside.rows.items c.retain.new.self.items c.retain.ensures.items
    ∙ none c.self.inside.rows.items

pub invariant_of-self : goal.invariant_of-self
invariant_of-self c =
    let low = λ (f : FlowView). f.number < c.self.inside.next in
    record {
      rise = subst (AllPairs Below) (sym (gone c)) (λ i j d lt le. absurd (omega (arith, le)));
      below = subst (All low) (sym (gone c)) (All-nil low);
    }

pub returns-clause-flows : goal.returns-clause-flows
returns-clause-flows c = gone c
