use Rattle.std.proofs.Common.{◌≡◌, ◌≤◌, ◌%◌, ◌∙◌, ◌==◌, ℕ, Option, length, option_map, ap, arith, rules, sym}
use Rattle.std.specs.List.{slice_get}
use Rattle.std.proofs.lemmas.List.Sums.{length-filter}
use Rattle.std.proofs.lemmas.Option.{slice_get_past}
use Rattle.sp_access.specs.Activity.{flows_of}
use Rattle.sp_access.specs.Flow.{FlowView}
use Rattle.sp_access.proofs.flows.Flows.in_place.Goals as goal

pub returns-then-flows-eq0 : goal.returns-then-flows-eq0
returns-then-flows-eq0 c =
    let flows = flows_of c.args.self.now.flows c.args.endpoint in
    let none : length flows ≡ 0 = length-filter (λ (f : FlowView). f.endpoint == c.args.endpoint) c.args.self.now.flows ∙ sym c.count-flows.ensures ∙ search rules in
    sym (ap (λ (o : Option FlowView). option_map (λ f. f.number) o) (slice_get_past flows (c.args.partition % length flows) (past (length flows) (c.args.partition % length flows) none)))
  where
    past : (n m : ℕ) → n ≡ 0 → n ≤ m
    past n m is = omega (arith, is)

pub returns : goal.returns
returns c =
    let flows = flows_of c.args.self.now.flows c.args.endpoint in
    c.nth_of.ensures
    ∙ ap (λ (n : ℕ). option_map (λ (f : FlowView). f.number) (slice_get flows (c.args.partition % n)))
    (c.count-flows.ensures ∙ sym (length-filter (λ (f : FlowView). f.endpoint == c.args.endpoint) c.args.self.now.flows))
