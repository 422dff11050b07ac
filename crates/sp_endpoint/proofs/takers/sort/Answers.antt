use Rattle.std.proofs.Common.{rules}
use Rattle.std.proofs.lemmas.List.Sorted.{answers_always}
use Rattle.sp_endpoint.proofs.Order.{before, name_of, sorted_by_name, weak_by_name}
use Rattle.sp_endpoint.proofs.takers.sort.Goals as goal

pub returns : goal.returns
returns c =
    sorted_by_name _ _
    (c.in_ok-sort_by.ensures.sorted (before name_of) weak_by_name (answers_always _ _ _ (λ f a r g h. search rules)))
    (c.in_ok-sort_by.ensures.stable (before name_of) weak_by_name (answers_always _ _ _ (λ f a r g h. search rules)))
