use Rattle.sp_endpoint.specs.Endpoint.{EndpointView}
use Rattle.sp_ending.proofs.Reaching.{number_left}
use Rattle.sp_ledger.specs.Endings.{facts_of, target_of}
use Rattle.sp_settle.specs.Questions.{end_of}
use Rattle.std.proofs.Common.{ap, sym, ◌∙◌}
use Rattle.std.specs.Prelude.{Option, option_map}
use Rattle.sp_ending.proofs.draft.Draft.end.Goals as goal

pub move_into-requires-clause-next : goal.move_into-requires-clause-next
move_into-requires-clause-next c =
    let may = c.requires.may in
    let dead = c.dead_queue-queue.ensures may.1 (may.2.endpoints ∙ sym may.3.endpoints) in
    let how = c.how.ensures may.0 may.1 may.2.copies (may.2.messages ∙ sym may.3.messages) may.3 in
    let asked = ap (λ (q : Option EndpointView).
    end_of c.args.why (facts_of may.1 c.args.copy.now) (option_map (target_of may.1) q)) (sym dead) in
    number_left may.0 may.1 c.args.self.now may.3 c.args.copy.now may.4 c.args.why (asked ∙ (sym how ∙ c.in-Move.is))
