use Rattle.std.proofs.Common.{◌≡◌, ℕ, ◌||◌, length, suc, take, true}
use Rattle.std.specs.Option.{option_map_or}
use Rattle.sp_tree.specs.Nodes.{by_prefix, by_text, endpoints_of, finds, has_number, some_below}
use Rattle.sp_tree.proofs.Changes.{Rest}
use Rattle.sp_tree.proofs.tree.Tree.+collect.Given as goal

abbrev pub decreases-collect : goal.decreases-collect
decreases-collect l = option_map_or (λ t. suc (length t.now)) l.topic 0

abbrev pub invariant-loop-len : goal.invariant-loop-len
invariant-loop-len l =
    (e : ℕ) → has_number l.into.items e ≡ (has_number l.fn.into.items e || (has_number (endpoints_of l.self true l.exception l.at).items e || (finds l.self l.exception (by_text l.self l.at l.cut.level.now) (Rest l.cut.rest) e || some_below (λ n. finds l.self l.exception (by_prefix l.self l.at (take n l.cut.level.now)) (Rest l.cut.rest) e) l.len)))
