use Rattle.std.proofs.Common.{◌≡◌, ◌∙◌, ◌&&◌, ℕ, Bool, true, false, not, eqb, ap, refl, sym, rules, Ordering, Less, Equal, Greater}
use Rattle.std.specs.Prelude.{◌==◌, filter}
use Rattle.std.specs.List.{list_any, dedup}
use Rattle.std.specs.Ordering.{is_lt, ordering_then}
use Rattle.std.proofs.lemmas.Bool.{eqb-true}
use Rattle.std.proofs.lemmas.Fn.{filter_same}
use Rattle.std.proofs.lemmas.List.Filters.{dedup_is}
use Rattle.std.proofs.lemmas.List.Kept.{IsStrictlyIncreasing-filter}
use Rattle.std.proofs.lemmas.List.Sorted.{list_any-IsPermutation}
use Rattle.std.proofs.lemmas.Map.Keys.{IsStrictlyIncreasing-dedup}
use Rattle.std.proofs.lemmas.Map.Views.{any-filter_same}
use Rattle.sp_tree.specs.Nodes.{has_number}
use Rattle.sp_tree.proofs.Searches.{and_comm, deduped}
use Rattle.sp_tree.proofs.tree.keep.Goals as goal
use Rattle.sp_tree.proofs.tree.keep.Goals.{After-retain}

-- numbers are equal where their values are
same : (m n : ℕ) → (eqb m n && true) ≡ eqb m n
same m n = one (eqb m n)
  where
    one : (b : Bool) → (b && true) ≡ b
    one true = refl
    one false = refl

-- and compare as they do
first_tells : (o : Ordering) → is_lt o ≡ is_lt (ordering_then o Equal)
first_tells Less = refl
first_tells Equal = refl
first_tells Greater = refl

-- what is left is the sorted list, each number once, without the excepted ones
left_is : (c : After-retain) → c.retain.new.self.items ≡ filter (λ n. not (has_number c.args.excepted.now n)) (dedup eqb c.sort_unstable.new.self.items)
left_is c =
    let plain = λ (n : ℕ). not (has_number c.args.excepted.now n) in
    filter_same _ plain _ (λ x b f k. search rules) c.dedup.new.self.items c.retain.new.self.items c.retain.ensures.filtered
    ∙ ap (filter plain) (dedup_is _ _ _ c.dedup.ensures.filtered ∙ (λ i. dedup (λ m n. same m n i) c.sort_unstable.new.self.items))

pub returns-clause-rising : goal.returns-clause-rising
returns-clause-rising c =
    rw (left_is c) (IsStrictlyIncreasing-filter _ _ (IsStrictlyIncreasing-dedup _ (λ k d low high. first_tells _ ∙ c.sort_unstable.ensures.sorted k d low high)))

pub returns-clause-numbers : goal.returns-clause-numbers
returns-clause-numbers c = λ e.
    let plain = λ (n : ℕ). not (has_number c.args.excepted.now n) in
    ap (λ ns. has_number ns e) (left_is c)
    ∙ any-filter_same (λ n. n == e) plain (plain e) (λ n h. ap plain (eqb-true n e h)) (dedup eqb c.sort_unstable.new.self.items)
    ∙ ap (λ t. plain e && t) (deduped c.sort_unstable.new.self.items e ∙ sym (list_any-IsPermutation (λ n. n == e) c.args.numbers.now.items c.sort_unstable.new.self.items c.sort_unstable.ensures.permutation))
    ∙ and_comm (plain e) (has_number c.args.numbers.now.items e)
