use Rattle.sp_base.specs.declared.refusal.Refusal.TheVariants.{UnknownEndpoint}
use Rattle.sp_endpoint.specs.Endpoint.{EndpointView}
use Rattle.sp_event.specs.declared.answer.Reply.TheVariants as replies
use Rattle.sp_event.specs.declared.answer.Tally.{Tally}
use Rattle.sp_ledger.specs.Answer.{answer_on, gave, tally_answer}
use Rattle.sp_ledger.specs.Ledger.{Ledger}
use Rattle.sp_ledger.specs.Tally.{tally_in}
use Rattle.std.proofs.Common.{ap, sym, ◌∙◌}
use Rattle.std.specs.Option.{option_copied}
use Rattle.std.specs.Prelude.{List, None, Option, Some, ℕ, ◌≡◌}
use Rattle.sp_core.proofs.state.Core.tally_of.Goals as goal

-- the tally of all, and of the endpoint of a name that was found
of_all : (L : Ledger) (asked : Option (List ℕ)) (t : Tally) → asked ≡ None → t ≡ tally_in L.copies None →
    tally_answer L asked ≡ gave (replies.Tally t)
of_all L asked t none is = ap (tally_answer L) none ∙ ap (λ (x : Tally). gave (replies.Tally x)) (sym is)

of_one : (L : Ledger) (asked : Option (List ℕ)) (name : List ℕ) (found : Option EndpointView) (e : EndpointView) (t : Tally) →
    asked ≡ Some name → Some e ≡ Rattle.sp_endpoint.specs.Endpoints.named name L.endpoints → t ≡ tally_in L.copies (Some e.number) →
    tally_answer L asked ≡ gave (replies.Tally t)
of_one L asked name found e t some is told =
    ap (tally_answer L) some
    ∙ (ap (λ (f : Option EndpointView). answer_on f (UnknownEndpoint name) (λ x. replies.Tally (tally_in L.copies (Some x.number)))) (sym is)
    ∙ ap (λ (x : Tally). gave (replies.Tally x)) (sym told))

pub returns-in_default : goal.returns-in_default
returns-in_default c L s = of_all L c.args.endpoint.now c.in_ok-tally.field-0 (c.in_default.is) (c.in_ok-tally.ensures L s)

pub returns : goal.returns
returns c L s =
    of_one L c.args.endpoint.now c.in-Some.name (option_copied c.find.result) c.in-Some-find.found.now c.in_ok-tally-2.field-0 (c.in-Some.is)
    (sym (ap option_copied c.in-Some-find.is) ∙ c.find.ensures L s)
    (c.in_ok-tally-2.ensures L s ∙ ap (λ (e : EndpointView). tally_in L.copies (Some e.number)) c.found.view_is)
