-- What a change of the nodes leaves of a tree.
use Rattle.std.proofs.Common.{◌≡◌, ◌≢◌, ◌∙◌, ◌+◌, ◌≤◌, ◌<◌, ℕ, zero, suc, inl, inr, ◌⊎◌, Bool, true, false, cond, not, ◌&&◌, ◌||◌, List, [], ◌∷◌, ◌++◌, length, Option, None, Some, refl, sym, ap, subst, arith, append_assoc, append-nil}
use Rattle.std.specs.Prelude.{◌==◌, bytes_eq, slice_get}
use Rattle.std.specs.Option.{option_map_or}
use Rattle.std.specs.Cmp.Lexicographic.{same_text}
use Rattle.std.proofs.lemmas.Bool.{true≢false, cond-true, cond-false, eqb-true, and_parts, cases_lt, cases_order, eq-eqb, ne_eqb}
use Rattle.std.proofs.lemmas.Option.{same_Some, slice_get_past}
use Rattle.std.proofs.lemmas.List.{append_cancel_left}
use Rattle.sp_tree.specs.Node.{AreTexts, child_at, endpoints_at, is_prefix}
use Rattle.sp_tree.specs.Nodes.{Grows, HasWays, HoldsSame, HoldsSameFrom, IsSpelled, IsTree, by_text, endpoints_of, has_number, held, next, nobody, place, root}
use Rattle.sp_tree.specs.declared.node.Node.{Node}

-- the child of a node is a node
child_within : (nodes : List Node) (way : ℕ → List (List ℕ)) → HasWays nodes way → (at : ℕ) (level : List ℕ) (o : Option ℕ) → next nodes at level ≡ o → (child : ℕ) → o ≡ Some child → child < length nodes
child_within nodes way ways at level o is child some = (ways at level child (is ∙ some)).0

-- where nodes lead on, they lead to nodes, and to each by one way alone
pub place_way : (nodes : List Node) (way : ℕ → List (List ℕ)) → HasWays nodes way → (from : ℕ) (levels : List (List ℕ)) (at : ℕ) → place nodes (Some from) levels ≡ Some at → way at ≡ way from ++ levels
place_way nodes way ways from [] at h = ap way (sym (some_is h)) ∙ sym (append-nil (way from))
  where
    some_is : Some from ≡ Some at → from ≡ at
    some_is k = cc
place_way nodes way ways from (level ∷ more) at h = one (next nodes from level) refl h (λ child k. place_way nodes way ways child more at k)
  where
    one : (o : Option ℕ) → next nodes from level ≡ o → place nodes o more ≡ Some at → ((child : ℕ) → place nodes (Some child) more ≡ Some at → way at ≡ way child ++ more) → way at ≡ way from ++ level ∷ more
    one None is k rest = absurd (cc)
    one (Some child) is k rest =
        rest child k ∙ ap (λ ls. ls ++ more) (ways from level child is).1 ∙ append_assoc (way from) (level ∷ []) more

pub place_within : (nodes : List Node) (way : ℕ → List (List ℕ)) → HasWays nodes way → (from : ℕ) → from < length nodes → (levels : List (List ℕ)) (at : ℕ) → place nodes (Some from) levels ≡ Some at → at < length nodes
place_within nodes way ways from lt [] at h = subst (λ n. n < length nodes) (some_is h) lt
  where
    some_is : Some from ≡ Some at → from ≡ at
    some_is k = cc
place_within nodes way ways from lt (level ∷ more) at h = one (next nodes from level) refl h (λ child less k. place_within nodes way ways child less more at k)
  where
    one : (o : Option ℕ) → next nodes from level ≡ o → place nodes o more ≡ Some at → ((child : ℕ) → child < length nodes → place nodes (Some child) more ≡ Some at → at < length nodes) → at < length nodes
    one None is k rest = absurd (cc)
    one (Some child) is k rest = rest child (ways from level child is).0 k

-- one way alone leads to a node from the root
pub one_way : (nodes : List Node) (tree : IsTree nodes) (levels more : List (List ℕ)) (at : ℕ) → place nodes (Some 0) levels ≡ Some at → place nodes (Some 0) more ≡ Some at → levels ≡ more
one_way nodes tree levels more at h k =
    append_cancel_left (tree.way 0) levels more (sym (place_way nodes tree.way tree.ways 0 levels at h) ∙ place_way nodes tree.way tree.ways 0 more at k)

-- nodes that lead on as others do lead to the same places
pub same_place : (old new : List Node) → ((at : ℕ) (level : List ℕ) → next new at level ≡ next old at level) → (from : Option ℕ) (levels : List (List ℕ)) → place new from levels ≡ place old from levels
same_place old new same None levels = refl
same_place old new same (Some at) [] = refl
same_place old new same (Some at) (level ∷ more) =
    ap (λ o. place new o more) (same at level) ∙ same_place old new same (next old at level) more

pub no_more : (levels : List (List ℕ)) (nodes : List Node) → place nodes None levels ≡ None
no_more levels nodes = refl

-- a new node behind the others, to which one level from one of them leads
pub record HasChild (old new : List Node) (parent : ℕ) (level : List ℕ) : Type 0 where
  pub longer : length new ≡ suc (length old)
  pub inside : parent < length old
  pub none : next old parent level ≡ None
  pub leads : (at : ℕ) (other : List ℕ) → at < length old → next new at other ≡ cond (at == parent && bytes_eq level other) (Some (length old)) (next old at other)
  pub ends : (other : List ℕ) → next new (length old) other ≡ None
  pub holds : (rest exception : Bool) (at : ℕ) → at < length old → endpoints_of new rest exception at ≡ endpoints_of old rest exception at
  pub empty : (rest exception : Bool) → (endpoints_of new rest exception (length old)).items ≡ []
  pub texts : (at : ℕ) (text : List ℕ) (child : ℕ) → by_text new at text ≡ Some child → is_prefix text ≡ false

-- nothing is held behind the new node
fresh_holds : (old new : List Node) (parent : ℕ) (level : List ℕ) → HasChild old new parent level → (levels : List (List ℕ)) (rest exception : Bool) → (held new (Some (length old)) levels rest exception).items ≡ []
fresh_holds old new parent level h [] rest exception = h.empty rest exception
fresh_holds old new parent level h (other ∷ more) rest exception =
    ap (λ o. (option_map_or (endpoints_of new rest exception) (place new o more) nobody).items) (h.ends other)

nobody_from : (nodes : List Node) (levels : List (List ℕ)) (rest exception : Bool) (o : Option ℕ) → o ≡ None → held nodes o levels rest exception ≡ nobody
nobody_from nodes levels rest exception o is = ap (λ o. held nodes o levels rest exception) is

-- the same, along one way
abbrev HoldsSameAlong : List Node → List Node → ℕ → List (List ℕ) → Type 0
HoldsSameAlong old new at levels =
    (rest exception : Bool)
    → ((held new (Some at) levels rest exception).items ≡ (held old (Some at) levels rest exception).items)
    × ((held old (Some at) levels rest exception).room ≤ (held new (Some at) levels rest exception).room)

pub child_holds : (old new : List Node) (parent : ℕ) (level : List ℕ) (way : ℕ → List (List ℕ)) → HasWays old way → HasChild old new parent level → (levels : List (List ℕ)) (at : ℕ) → at < length old → HoldsSameAlong old new at levels
child_holds old new parent level way ways h [] at lt = λ rest exception.
    let e = h.holds rest exception at lt in
    (ap (λ r. r.items) e, omega (arith, ap (λ r. r.room) e))
child_holds old new parent level way ways h (other ∷ more) at lt =
    one (at == parent && bytes_eq level other) refl (next old at other) refl (λ child less. child_holds old new parent level way ways h more child less)
  where
    one : (b : Bool) → (at == parent && bytes_eq level other) ≡ b → (o : Option ℕ) → next old at other ≡ o → ((child : ℕ) → child < length old → HoldsSameAlong old new child more) → HoldsSameAlong old new at (other ∷ more)
    one true is o leads rest = λ r x.
        let both = and_parts (at == parent) (bytes_eq level other) is in
        let gone : next old at other ≡ None = ap (λ n. next old n other) (eqb-true at parent both.0) ∙ ap (next old parent) (sym (same_text level other (sym both.1))) ∙ h.none in
        let there : next new at other ≡ Some (length old) = h.leads at other lt ∙ cond-true (at == parent && bytes_eq level other) (Some (length old)) (next old at other) is in
        let before : held old (next old at other) more r x ≡ nobody = nobody_from old more r x (next old at other) gone in (
          ap (λ o. (held new o more r x).items) there ∙ fresh_holds old new parent level h more r x ∙ ap (λ y. y.items) (sym before),
          omega (arith, ap (λ y. y.room) before),
        )
    one false is None leads rest = λ r x.
        let there : next new at other ≡ None = h.leads at other lt ∙ cond-false (at == parent && bytes_eq level other) (Some (length old)) (next old at other) is ∙ leads in
        let before : held old (next old at other) more r x ≡ nobody = nobody_from old more r x (next old at other) leads in
        let behind : held new (next new at other) more r x ≡ nobody = nobody_from new more r x (next new at other) there in
        (ap (λ y. y.items) (behind ∙ sym before), omega (arith, ap (λ y. y.room) before))
    one false is (Some child) leads rest = λ r x.
        let there : next new at other ≡ Some child = h.leads at other lt ∙ cond-false (at == parent && bytes_eq level other) (Some (length old)) (next old at other) is ∙ leads in
        let same = rest child (ways at other child leads).0 r x in
        let before : held old (next old at other) more r x ≡ held old (Some child) more r x = ap (λ o. held old o more r x) leads in
        let behind : held new (next new at other) more r x ≡ held new (Some child) more r x = ap (λ o. held new o more r x) there in
        (ap (λ y. y.items) behind ∙ same.0 ∙ ap (λ y. y.items) (sym before), omega (arith, same.1, ap (λ y. y.room) before, ap (λ y. y.room) behind))

-- no nodes are a tree
pub empty_tree : IsTree []
empty_tree = record {
  way = λ n. [];
  from_root = refl;
  ways = λ at level child h. absurd (cc);
  texts = λ at text child h. absurd (cc);
  spelled = λ levels rest exception endpoint h. absurd (true≢false (sym h));
}

-- a first node is the root
pub sprouts : (old new : List Node) (fresh : Node) → root old ≡ None → new ≡ old ++ fresh ∷ [] → ((level : List ℕ) → child_at fresh level ≡ None) → AreTexts fresh → ((rest exception : Bool) → (endpoints_at fresh rest exception).items ≡ []) → IsTree new × HoldsSame old new × (root new ≡ Some 0) × (0 < length new)
sprouts (n ∷ ns) new fresh none is children texts endpoints = absurd (cc)
sprouts [] new fresh none is children texts endpoints =
    (subst IsTree (sym is) tree, subst (HoldsSame []) (sym is) holds, ap root is, omega (arith, ap length is))
  where
    only : List Node
    only = fresh ∷ []

    leads_on : (at : ℕ) (level : List ℕ) → next (fresh ∷ []) at level ≡ None
    leads_on zero level = children level
    leads_on (suc at) level = refl

    nothing : (levels : List (List ℕ)) (rest exception : Bool) → (held (fresh ∷ []) (Some 0) levels rest exception).items ≡ []
    nothing [] rest exception = endpoints rest exception
    nothing (level ∷ more) rest exception = ap (λ o. (held (fresh ∷ []) o more rest exception).items) (children level)

    text_is : (at : ℕ) (text : List ℕ) (child : ℕ) → by_text (fresh ∷ []) at text ≡ Some child → is_prefix text ≡ false
    text_is zero text child h = texts text child h
    text_is (suc at) text child h = absurd (cc)

    tree : IsTree (fresh ∷ [])
    tree = record {
      way = λ n. [];
      from_root = refl;
      ways = λ at level child h. absurd (let k = sym (leads_on at level) ∙ h in cc);
      texts = text_is;
      spelled = λ levels rest exception endpoint h. absurd (true≢false (sym h ∙ ap (λ es. has_number es endpoint) (nothing levels rest exception)));
    }

    holds : HoldsSame [] (fresh ∷ [])
    holds levels rest exception = (nothing levels rest exception, omega arith)

-- with one node more they stay a tree, and hold what they held
pub child_grows : (old new : List Node) (parent : ℕ) (level : List ℕ) → IsTree old → HasChild old new parent level → Grows old new
child_grows old new parent level tree h = record {
  longer = omega (arith, h.longer);
  ways_stay = stay;
  held_stays = λ at less levels. child_holds old new parent level tree.way tree.ways h levels at less;
}
  where
    stay : (at : ℕ) (other : List ℕ) (child : ℕ) → next old at other ≡ Some child → next new at other ≡ Some child
    stay at other child is = one (cases_lt at (length old)) (at == parent && bytes_eq level other) refl
      where
        one : (at < length old) ⊎ (length old ≤ at) → (b : Bool) → (at == parent && bytes_eq level other) ≡ b → next new at other ≡ Some child
        one (inr past) b k = absurd (let none = ap (λ o. option_map_or (λ node. child_at node other) o None) (slice_get_past old at past) in let both = sym none ∙ is in cc)
        one (inl less) true k =
            let both = and_parts (at == parent) (bytes_eq level other) k in
            let none : next old at other ≡ None = ap (λ n. next old n other) (eqb-true at parent both.0) ∙ ap (next old parent) (sym (same_text level other (sym both.1))) ∙ h.none in
            absurd (let clash = sym none ∙ is in cc)
        one (inl less) false k = h.leads at other less ∙ cond-false (at == parent && bytes_eq level other) (Some (length old)) (next old at other) k ∙ is

pub child_tree : (old new : List Node) (parent : ℕ) (level : List ℕ) → IsTree old → HasChild old new parent level → HoldsSame old new → IsTree new
child_tree old new parent level tree h holds = record {
  way = way;
  from_root = old_way 0 (omega (arith, h.inside)) ∙ tree.from_root;
  ways = ways;
  texts = h.texts;
  spelled = λ levels rest exception endpoint k. tree.spelled levels rest exception endpoint (sym (ap (λ es. has_number es endpoint) (holds levels rest exception).0) ∙ k);
}
  where
    way : ℕ → List (List ℕ)
    way n = cond (n == length old) (tree.way parent ++ level ∷ []) (tree.way n)

    old_way : (n : ℕ) → n < length old → way n ≡ tree.way n
    old_way n less = cond-false (n == length old) (tree.way parent ++ level ∷ []) (tree.way n) (ne_eqb n (length old) (λ same. omega (arith, same, less)))

    new_way : way (length old) ≡ tree.way parent ++ level ∷ []
    new_way = cond-true (length old == length old) (tree.way parent ++ level ∷ []) (tree.way (length old)) (eq-eqb (length old) (length old) refl)

    ways : HasWays new way
    ways at other child is = one (cases_order at (length old)) (at == parent && bytes_eq level other) refl
      where
        one : (at ≡ length old) ⊎ ((at < length old) ⊎ (length old < at)) → (b : Bool) → (at == parent && bytes_eq level other) ≡ b → (child < length new) × (way child ≡ way at ++ other ∷ [])
        one (inl last) b k = absurd (let none = sym (ap (λ n. next new n other) last ∙ h.ends other) ∙ is in cc)
        one (inr (inr past)) b k = absurd (let none = ap (λ o. option_map_or (λ node. child_at node other) o None) (slice_get_past new at (omega (arith, past, h.longer))) in let both = sym none ∙ is in cc)
        one (inr (inl less)) true k =
            let both = and_parts (at == parent) (bytes_eq level other) k in
            let is_last : child ≡ length old = same_Some child (length old) (sym is ∙ h.leads at other less ∙ cond-true (at == parent && bytes_eq level other) (Some (length old)) (next old at other) k) in (
              omega (arith, is_last, h.longer),
              ap way is_last ∙ new_way ∙ ap (λ n. tree.way n ++ level ∷ []) (sym (eqb-true at parent both.0)) ∙ ap (λ l. tree.way at ++ l ∷ []) (same_text level other (sym both.1)) ∙ ap (λ w. w ++ other ∷ []) (sym (old_way at less)),
            )
        one (inr (inl less)) false k =
            let there = tree.ways at other child (sym (h.leads at other less ∙ cond-false (at == parent && bytes_eq level other) (Some (length old)) (next old at other) k) ∙ is) in
            (omega (arith, there.0, h.longer), old_way child there.0 ∙ there.1 ∙ ap (λ w. w ++ other ∷ []) (sym (old_way at less)))
