use Rattle.std.proofs.Common.{◌∙◌, ◌-◌, sym, ap, arith}
use Rattle.std.proofs.lemmas.Result.{err_from_is_err_and}
use Rattle.sp_selector.specs.Parser.{◌>>=◌, Chain_after, reads}
use Rattle.sp_selector.specs.Tree.{Binary, expression}
use Rattle.sp_selector.proofs.Chains.{chain_goes_on, fails_with}
use Rattle.sp_selector.proofs.parse.+parse.Goals as goal

pub chain_after-returns-in_err-right : goal.chain_after-returns-in_err-right
chain_after-returns-in_err-right t c =
    let goes = chain_goes_on c.loop-room.room c.args.chain (expression c.loop-room.left) c.loop-room.tokens.now c.in-Some.operator c.in-Some.more.now (omega arith) c.in-Some.ensures in
    let p = err_from_is_err_and c.from_residual.result c.from_residual.ensures.1 in
    rw (p.1, p.2) (fails_with c.in_err-right.field-0.0 _ _ _ (sym c.loop-room.invariant.same ∙ goes) c.in_err-right.ensures)

pub chain_after-loop-room-preserved : goal.chain_after-loop-room-preserved
chain_after-loop-room-preserved t c =
    let n = c.loop-room.room - 1 in
    let goes = chain_goes_on c.loop-room.room c.args.chain (expression c.loop-room.left) c.loop-room.tokens.now c.in-Some.operator c.in-Some.more.now (omega arith) c.in-Some.ensures in
    record {
      same = ap (λ e. reads n (Chain_after c.args.chain e) c.in_ok-right.rest.now) c.in_ok-left.ensures
          ∙ sym (goes ∙ ap (λ r. r >>= λ x. reads n (Chain_after c.args.chain (Binary c.in-Some.operator (expression c.loop-room.left) x.0)) x.1) c.in_ok-right.ensures)
          ∙ c.loop-room.invariant.same;
      less = omega arith;
    }
