use Rattle.std.proofs.lemmas.List.{take_rest}
use Rattle.std.proofs.lemmas.Result.{on_ok_weaker}
use Rattle.sp_endpoint.proofs.Renewals.{renewed_pairs}
use Rattle.sp_endpoint.proofs.renewal.renew.Goals as goal

pub returns-clause-own : goal.returns-clause-own
returns-clause-own c held =
    let from = c.args.from.now in
    let to = c.args.to.now in
    let same = c.common-same.result in
    on_ok_weaker c.put_in.result
    (renewed_pairs c.args.tree.now c.take_out.new.tree c.put_in.new.tree c.args.number from to _ _ same
    c.common-same.ensures.same
    (take_rest from same) (take_rest to same) held c.take_out.ensures)
    c.put_in.ensures
