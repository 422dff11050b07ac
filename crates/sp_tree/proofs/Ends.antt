-- What the tree holds when the endpoints of one node change.
use Rattle.std.proofs.Common.{◌≡◌, ◌∙◌, ◌+◌, ◌≤◌, ◌<◌, ℕ, zero, suc, ◌-◌, inl, inr, ◌⊎◌, Bool, true, false, cond, not, ◌&&◌, ◌||◌, List, [], ◌∷◌, ◌++◌, length, Option, None, Some, refl, sym, ap, subst, arith, ◌≢◌, take, append-nil}
use Rattle.std.specs.Prelude.{◌==◌, bytes_eq, filter, slice_get, slice_index_or, slice_set, nat_lt}
use Rattle.std.specs.List.{list_any}
use Rattle.std.specs.Option.{option_map_or}
use Rattle.std.specs.Cmp.Lexicographic.{same_text, bytes_decides}
use Rattle.std.proofs.lemmas.Bool.{true≢false, cond-true, cond-false, eqb-true, eq-eqb, and_parts, and_from, or_cases, ltb-true, lt-ltb, cases_Bool, false_from_ne_true}
use Rattle.std.proofs.lemmas.List.{length-set}
use Rattle.std.proofs.lemmas.Map.Views.{any-filter_same}
use Rattle.sp_base.specs.Rows.{Roomy}
use Rattle.sp_base.specs.Topic.{levels}
use Rattle.sp_topic.specs.Subscription.{is_exception, topic_of}
use Rattle.sp_tree.specs.Children as children
use Rattle.sp_tree.specs.Node.{AreTexts, child_at, endpoints_at, is_at, is_prefix, same}
use Rattle.sp_tree.specs.Nodes.{Grows, HoldsSame, HoldsSameFrom, IsSpelled, IsTree, by_text, endpoints_of, has_number, held, next, nobody, place, root}
use Rattle.sp_tree.specs.Path.{ends_in_rest, steps}
use Rattle.sp_tree.specs.Tree.{AddsPair, KeepsRoom, SamePairs, TakesPairOut, has_pair, has_room, holders}
use Rattle.sp_tree.specs.declared.ending.Ending.{Ending}
use Rattle.sp_tree.specs.declared.node.Node.{Node}
use Rattle.sp_tree.proofs.Changes.{get_set, said, same_said, texts_at, texts_stay}
use Rattle.sp_tree.proofs.Paths.{same_spelling}
use Rattle.sp_tree.proofs.Searches.{and_comm, list_any_push, or_false, same_tests}
use Rattle.sp_tree.proofs.Lookups.{same_bytes}
use Rattle.sp_tree.proofs.Trees.{one_way, same_place}

-- nodes that hold the same hold the same pairs
pub same_pairs : (old new : List Node) → HoldsSame old new → SamePairs old new
unfolding has_pair
same_pairs old new h endpoint text =
    ap (λ es. has_number es endpoint) (h (steps (levels (topic_of text))) (ends_in_rest (levels (topic_of text))) (is_exception text)).0

pub room_kept : (old new : List Node) → HoldsSame old new → KeepsRoom old new
unfolding has_room
room_kept old new h text k =
    let more = (h (steps (levels (topic_of text))) (ends_in_rest (levels (topic_of text))) (is_exception text)).1 in
    let some = ltb-true 0 (holders old text).room k in
    lt-ltb 0 (holders new text).room (omega (arith, more, some))

pub spelled_itself : (text : List ℕ) → IsSpelled text (steps (levels (topic_of text))) (ends_in_rest (levels (topic_of text))) (is_exception text)
spelled_itself text = record { way_is = refl; rest_is = refl; exception_is = refl }

-- one way alone leads to a node from the root, where there is one
one_way_down : (nodes : List Node) → IsTree nodes → (levels more : List (List ℕ)) (at : ℕ) → place nodes (root nodes) levels ≡ Some at → place nodes (root nodes) more ≡ Some at → levels ≡ more
one_way_down [] tree levels more at h k = absurd (cc)
one_way_down (node ∷ nodes) tree levels more at h k = one_way (node ∷ nodes) tree levels more at h k

root_set : (nodes : List Node) (at : ℕ) (after : Node) → root (slice_set nodes at after) ≡ root nodes
root_set [] at after = refl
root_set (node ∷ nodes) zero after = refl
root_set (node ∷ nodes) (suc at) after = refl

same_true : (a b : Bool) → same a b ≡ true → a ≡ b
same_true true true h = refl
same_true true false h = absurd (true≢false (sym h))
same_true false true h = absurd (true≢false (sym h))
same_true false false h = refl

same_itself : (a : Bool) → same a a ≡ true
same_itself true = refl
same_itself false = refl

-- an endpoint more, and one less
pushed : (b : Bool) (xs : List ℕ) (e other : ℕ) → has_number (xs ++ cond b (e ∷ []) []) other ≡ (has_number xs other || (b && e == other))
pushed true xs e other = list_any_push (λ n. n == other) xs e
pushed false xs e other = ap (λ es. has_number es other) (append-nil xs) ∙ sym (or_false (has_number xs other))

and_true : (b : Bool) → (b && true) ≡ b
and_true true = refl
and_true false = refl

taken_out : (b : Bool) (xs : List ℕ) (e other : ℕ) → has_number (cond b (filter (λ n. not (n == e)) xs) xs) other ≡ (has_number xs other && not (b && other == e))
taken_out true xs e other =
    any-filter_same (λ n. n == other) (λ n. not (n == e)) (not (other == e)) (λ n h. ap (λ k. not (k == e)) (eqb-true n other h)) xs
    ∙ and_comm (not (other == e)) (has_number xs other)
taken_out false xs e other = sym (and_true (has_number xs other))

-- nodes with the same children lead on alike
pub alike : (before after : Node) → after.by_text ≡ before.by_text → after.by_prefix ≡ before.by_prefix → (level : List ℕ) → child_at after level ≡ child_at before level
alike before after texts prefixes level i = cond (is_prefix level) (children.child (prefixes i) (take (length level - 1) level)) (children.child (texts i) level)

pub plain_alike : (before after : Node) → after.by_text ≡ before.by_text → AreTexts before → AreTexts after
plain_alike before after texts plain text child h = plain text child (ap (λ cs. children.child cs text) (sym texts) ∙ h)

pub endpoints_set : (nodes : List Node) (at : ℕ) (after : Node) → at < length nodes → (rest exception : Bool) → endpoints_of (slice_set nodes at after) rest exception at ≡ endpoints_at after rest exception
endpoints_set nodes at after lt rest exception =
    ap (λ o. option_map_or (λ node. endpoints_at node rest exception) o nobody)
    (get_set nodes at after lt at ∙ cond-true (at == at) (Some after) (slice_get nodes at) (eq-eqb at at refl))

module _ (old : List Node) (tree : IsTree old) (at : ℕ) (before after : Node)
    (lt : at < length old) (was : slice_get old at ≡ Some before)
    (child_same : (level : List ℕ) → child_at after level ≡ child_at before level) (plain : AreTexts before → AreTexts after) where
  abbrev new : List Node
  new = slice_set old at after

  gets : (n : ℕ) → slice_get new n ≡ cond (n == at) (Some after) (slice_get old n)
  gets = get_set old at after lt

  leads : (n : ℕ) (level : List ℕ) → next new n level ≡ next old n level
  leads n level = same_said old new at before after was gets (λ node. child_at node level) None (child_same level) n

  pub places : (levels : List (List ℕ)) → place new (root new) levels ≡ place old (root old) levels
  places levels = ap (λ o. place new o levels) (root_set old at after) ∙ same_place old new leads (root old) levels

  -- whether the levels lead from a node to the one that changed
  abbrev lands_from : Option ℕ → List (List ℕ) → Bool
  lands_from from levels = option_map_or (λ n. n == at) (place old from levels) false

  abbrev pub lands : List (List ℕ) → Bool
  lands levels = lands_from (root old) levels

  held_from : (from : Option ℕ) (levels : List (List ℕ)) (rest exception : Bool) → held new from levels rest exception ≡ cond (lands_from from levels) (endpoints_at after rest exception) (held old from levels rest exception)
  held_from from levels rest exception =
      ap (λ o. option_map_or (endpoints_of new rest exception) o nobody) (same_place old new leads from levels)
      ∙ elim (place old from levels) as (λ o. option_map_or (endpoints_of new rest exception) o nobody ≡ cond (option_map_or (λ n. n == at) o false) (endpoints_at after rest exception) (option_map_or (endpoints_of old rest exception) o nobody)) [
        | None ↦ refl
        | Some n ↦ said old new at before after was gets (λ node. endpoints_at node rest exception) nobody n
      ]

  pub held_new : (levels : List (List ℕ)) (rest exception : Bool) → held new (root new) levels rest exception ≡ cond (lands levels) (endpoints_at after rest exception) (held old (root old) levels rest exception)
  held_new levels rest exception = ap (λ o. held new o levels rest exception) (root_set old at after) ∙ held_from (root old) levels rest exception

  landed_from : (from : Option ℕ) (levels : List (List ℕ)) → lands_from from levels ≡ true → place old from levels ≡ Some at
  landed_from from levels h = one (place old from levels) h
    where
      one : (o : Option ℕ) → option_map_or (λ n. n == at) o false ≡ true → o ≡ Some at
      one None k = absurd (true≢false (sym k))
      one (Some n) k = ap Some (eqb-true n at k)

  landed : (levels : List (List ℕ)) → lands levels ≡ true → place old (root old) levels ≡ Some at
  landed levels h = landed_from (root old) levels h

  held_old_from : (from : Option ℕ) (levels : List (List ℕ)) (rest exception : Bool) → lands_from from levels ≡ true → held old from levels rest exception ≡ endpoints_at before rest exception
  held_old_from from levels rest exception h =
      ap (λ o. option_map_or (endpoints_of old rest exception) o nobody) (landed_from from levels h)
      ∙ ap (λ o. option_map_or (λ node. endpoints_at node rest exception) o nobody) was

  pub held_old : (levels : List (List ℕ)) (rest exception : Bool) → lands levels ≡ true → held old (root old) levels rest exception ≡ endpoints_at before rest exception
  held_old levels rest exception h = held_old_from (root old) levels rest exception h

  -- the nodes stay a tree where what is held is spelled
  pub tree_new : ((levels : List (List ℕ)) (rest exception : Bool) (endpoint : ℕ) → has_number (held new (root new) levels rest exception).items endpoint ≡ true → (text : List ℕ) × IsSpelled text levels rest exception) → IsTree new
  tree_new spelled = record {
    way = tree.way;
    from_root = tree.from_root;
    ways = λ n level child h.
        let there = tree.ways n level child (sym (leads n level) ∙ h) in
        let longer = length-set old at after in
        (omega (arith, there.0, longer), there.1);
    texts = texts_stay old new at before after was gets (plain (texts_at old at before was tree.texts)) tree.texts;
    spelled = spelled;
  }

  -- more room
  module _ (endpoints : (rest exception : Bool) → (endpoints_at after rest exception).items ≡ (endpoints_at before rest exception).items)
      (room : (rest exception : Bool) → (endpoints_at before rest exception).room ≤ (endpoints_at after rest exception).room) where
    pub holds_from : (from : Option ℕ) → HoldsSameFrom old new from from
    holds_from from levels rest exception =
        elim (cases_Bool (lands_from from levels)) [
          | inl here ↦
              let now = held_from from levels rest exception ∙ cond-true (lands_from from levels) (endpoints_at after rest exception) (held old from levels rest exception) here in
              let then = held_old_from from levels rest exception here in (
                ap (λ (r : Roomy ℕ). r.items) now ∙ endpoints rest exception ∙ ap (λ (r : Roomy ℕ). r.items) (sym then),
                omega (arith, room rest exception, ap (λ (r : Roomy ℕ). r.room) now, ap (λ (r : Roomy ℕ). r.room) then),
              )
          | inr there ↦
              let now = held_from from levels rest exception ∙ cond-false (lands_from from levels) (endpoints_at after rest exception) (held old from levels rest exception) there in
              (ap (λ (r : Roomy ℕ). r.items) now, omega (arith, ap (λ (r : Roomy ℕ). r.room) now))
        ]

    pub holds_same : HoldsSame old new
    holds_same = subst (λ o. HoldsSameFrom old new (root old) o) (sym (root_set old at after)) (holds_from (root old))

    pub grows_none : Grows old new
    grows_none = record {
      longer = omega (arith, length-set old at after);
      ways_stay = λ n level child h. leads n level ∙ h;
      held_stays = λ n less. holds_from (Some n);
    }

    pub tree_same : IsTree new
    tree_same = tree_new (λ levels rest exception endpoint h.
        tree.spelled levels rest exception endpoint (sym (ap (λ es. has_number es endpoint) (holds_same levels rest exception).0) ∙ h))

  -- the endpoints of one subscription
  module _ (text : List ℕ) (ending : Ending)
      (leads_here : Some at ≡ place old (root old) (steps (levels (topic_of text))))
      (rest_is : ending.rest ≡ ends_in_rest (levels (topic_of text))) (exception_is : ending.exception ≡ is_exception text) where
    abbrev pub meets : List (List ℕ) → Bool → Bool → Bool
    meets levels rest exception = lands levels && is_at ending rest exception

    pub own_way : (levels : List (List ℕ)) (rest exception : Bool) → meets levels rest exception ≡ true → IsSpelled text levels rest exception
    own_way way rest exception h =
        let parts = and_parts (lands way) (is_at ending rest exception) h in
        let ends = and_parts (same ending.rest rest) (same ending.exception exception) parts.1 in
        record {
          way_is = one_way_down old tree (steps (levels (topic_of text))) way at (sym leads_here) (landed way parts.0);
          rest_is = sym rest_is ∙ same_true ending.rest rest ends.0;
          exception_is = sym exception_is ∙ same_true ending.exception exception ends.1;
        }

    meets_itself : meets (steps (levels (topic_of text))) (ends_in_rest (levels (topic_of text))) (is_exception text) ≡ true
    meets_itself =
        and_from (lands (steps (levels (topic_of text)))) (is_at ending (ends_in_rest (levels (topic_of text))) (is_exception text))
        (ap (λ o. option_map_or (λ n. n == at) o false) (sym leads_here) ∙ eq-eqb at at refl)
        (and_from (same ending.rest (ends_in_rest (levels (topic_of text)))) (same ending.exception (is_exception text))
        (ap (same ending.rest) (sym rest_is) ∙ same_itself ending.rest) (ap (same ending.exception) (sym exception_is) ∙ same_itself ending.exception))

    pub meets_own : (other : List ℕ) → meets (steps (levels (topic_of other))) (ends_in_rest (levels (topic_of other))) (is_exception other) ≡ bytes_eq text other
    meets_own other =
        same_tests (meets (steps (levels (topic_of other))) (ends_in_rest (levels (topic_of other))) (is_exception other)) (bytes_eq text other)
        (λ h. (bytes_decides text other).1 (same_spelling text other (steps (levels (topic_of other))) (ends_in_rest (levels (topic_of other))) (is_exception other) (own_way (steps (levels (topic_of other))) (ends_in_rest (levels (topic_of other))) (is_exception other) h) (spelled_itself other)))
        (λ h. subst (λ t. meets (steps (levels (topic_of t))) (ends_in_rest (levels (topic_of t))) (is_exception t) ≡ true) (same_text text other (sym h)) meets_itself)

    -- one endpoint more
    module _ (e : ℕ)
        (endpoints : (rest exception : Bool) → (endpoints_at after rest exception).items ≡ (endpoints_at before rest exception).items ++ cond (is_at ending rest exception) (e ∷ []) [])
        (room : (rest exception : Bool) → is_at ending rest exception ≡ false → (endpoints_at before rest exception).room ≤ (endpoints_at after rest exception).room) where
      pub one_more : (levels : List (List ℕ)) (rest exception : Bool) (other : ℕ) → has_number (held new (root new) levels rest exception).items other ≡ (has_number (held old (root old) levels rest exception).items other || (meets levels rest exception && e == other))
      one_more levels rest exception other = one (lands levels) refl
        where
          one : (l : Bool) → lands levels ≡ l → has_number (held new (root new) levels rest exception).items other ≡ (has_number (held old (root old) levels rest exception).items other || (meets levels rest exception && e == other))
          one true h =
              ap (λ (r : Roomy ℕ). has_number r.items other) (held_new levels rest exception ∙ cond-true (lands levels) (endpoints_at after rest exception) (held old (root old) levels rest exception) h)
              ∙ ap (λ es. has_number es other) (endpoints rest exception)
              ∙ pushed (is_at ending rest exception) (endpoints_at before rest exception).items e other
              ∙ ap (λ (r : Roomy ℕ). has_number r.items other || (is_at ending rest exception && e == other)) (sym (held_old levels rest exception h))
              ∙ ap (λ b. has_number (held old (root old) levels rest exception).items other || ((b && is_at ending rest exception) && e == other)) (sym h)
          one false h =
              ap (λ (r : Roomy ℕ). has_number r.items other) (held_new levels rest exception ∙ cond-false (lands levels) (endpoints_at after rest exception) (held old (root old) levels rest exception) h)
              ∙ sym (or_false (has_number (held old (root old) levels rest exception).items other))
              ∙ ap (λ b. has_number (held old (root old) levels rest exception).items other || ((b && is_at ending rest exception) && e == other)) (sym h)

      pub adds_pair : AddsPair old new e text
      unfolding has_pair
      adds_pair endpoint other =
          one_more (steps (levels (topic_of other))) (ends_in_rest (levels (topic_of other))) (is_exception other) endpoint
          ∙ ap (λ b. has_number (holders old other).items endpoint || b) (ap (λ b. b && e == endpoint) (meets_own other) ∙ and_comm (bytes_eq text other) (e == endpoint))

      pub tree_more : IsTree new
      tree_more = tree_new (λ levels rest exception endpoint h.
          elim (or_cases (has_number (held old (root old) levels rest exception).items endpoint) (meets levels rest exception && e == endpoint) (sym (one_more levels rest exception endpoint) ∙ h)) [
            | inl there ↦ tree.spelled levels rest exception endpoint there
            | inr this ↦ (text, own_way levels rest exception (and_parts (meets levels rest exception) (e == endpoint) this).0)
          ])

      pub room_left : (other : List ℕ) → other ≢ text → has_room old other ≡ true → has_room new other ≡ true
      unfolding has_room
      room_left other differs h = lt-ltb 0 (holders new other).room (omega (arith, kept (lands way) refl, ltb-true 0 (holders old other).room h))
        where
          way : List (List ℕ)
          way = steps (levels (topic_of other))

          apart : meets way (ends_in_rest (levels (topic_of other))) (is_exception other) ≡ false
          apart = false_from_ne_true (meets way (ends_in_rest (levels (topic_of other))) (is_exception other)) (λ k. differs (sym (same_text text other (sym (sym (meets_own other) ∙ k)))))

          kept : (l : Bool) → lands way ≡ l → (holders old other).room ≤ (holders new other).room
          kept true k =
              let now = held_new way (ends_in_rest (levels (topic_of other))) (is_exception other) ∙ cond-true (lands way) (endpoints_at after (ends_in_rest (levels (topic_of other))) (is_exception other)) (holders old other) k in
              let then = held_old way (ends_in_rest (levels (topic_of other))) (is_exception other) k in
              let else_where : is_at ending (ends_in_rest (levels (topic_of other))) (is_exception other) ≡ false = ap (λ b. b && is_at ending (ends_in_rest (levels (topic_of other))) (is_exception other)) (sym k) ∙ apart in
              let more = room (ends_in_rest (levels (topic_of other))) (is_exception other) else_where in
              omega (arith, more, ap (λ (r : Roomy ℕ). r.room) now, ap (λ (r : Roomy ℕ). r.room) then)
          kept false k =
              let now = held_new way (ends_in_rest (levels (topic_of other))) (is_exception other) ∙ cond-false (lands way) (endpoints_at after (ends_in_rest (levels (topic_of other))) (is_exception other)) (holders old other) k in
              omega (arith, ap (λ (r : Roomy ℕ). r.room) now)

    -- one endpoint less
    module _ (e : ℕ)
        (endpoints : (rest exception : Bool) → (endpoints_at after rest exception).items ≡ cond (is_at ending rest exception) (filter (λ n. not (n == e)) (endpoints_at before rest exception).items) (endpoints_at before rest exception).items) where
      pub one_less : (levels : List (List ℕ)) (rest exception : Bool) (other : ℕ) → has_number (held new (root new) levels rest exception).items other ≡ (has_number (held old (root old) levels rest exception).items other && not (meets levels rest exception && other == e))
      one_less levels rest exception other = one (lands levels) refl
        where
          one : (l : Bool) → lands levels ≡ l → has_number (held new (root new) levels rest exception).items other ≡ (has_number (held old (root old) levels rest exception).items other && not (meets levels rest exception && other == e))
          one true h =
              ap (λ (r : Roomy ℕ). has_number r.items other) (held_new levels rest exception ∙ cond-true (lands levels) (endpoints_at after rest exception) (held old (root old) levels rest exception) h)
              ∙ ap (λ es. has_number es other) (endpoints rest exception)
              ∙ taken_out (is_at ending rest exception) (endpoints_at before rest exception).items e other
              ∙ ap (λ (r : Roomy ℕ). has_number r.items other && not (is_at ending rest exception && other == e)) (sym (held_old levels rest exception h))
              ∙ ap (λ b. has_number (held old (root old) levels rest exception).items other && not ((b && is_at ending rest exception) && other == e)) (sym h)
          one false h =
              ap (λ (r : Roomy ℕ). has_number r.items other) (held_new levels rest exception ∙ cond-false (lands levels) (endpoints_at after rest exception) (held old (root old) levels rest exception) h)
              ∙ sym (and_true (has_number (held old (root old) levels rest exception).items other))
              ∙ ap (λ b. has_number (held old (root old) levels rest exception).items other && not ((b && is_at ending rest exception) && other == e)) (sym h)

      pub takes_pair_out : TakesPairOut old new e text
      unfolding has_pair
      takes_pair_out endpoint other =
          one_less (steps (levels (topic_of other))) (ends_in_rest (levels (topic_of other))) (is_exception other) endpoint
          ∙ ap (λ b. has_number (holders old other).items endpoint && not b) (ap (λ b. b && endpoint == e) (meets_own other ∙ same_bytes text other) ∙ and_comm (bytes_eq other text) (endpoint == e))

      pub tree_less : IsTree new
      tree_less = tree_new (λ levels rest exception endpoint h.
          tree.spelled levels rest exception endpoint (and_parts (has_number (held old (root old) levels rest exception).items endpoint) (not (meets levels rest exception && endpoint == e)) (sym (one_less levels rest exception endpoint) ∙ h)).0)

  -- as much room
  module _ (room : (rest exception : Bool) → (endpoints_at before rest exception).room ≤ (endpoints_at after rest exception).room) where
    pub keeps_room : KeepsRoom old new
    unfolding has_room
    keeps_room other h = lt-ltb 0 (holders new other).room (omega (arith, kept (lands way) refl, ltb-true 0 (holders old other).room h))
      where
        way : List (List ℕ)
        way = steps (levels (topic_of other))

        kept : (l : Bool) → lands way ≡ l → (holders old other).room ≤ (holders new other).room
        kept true k =
            let now = held_new way (ends_in_rest (levels (topic_of other))) (is_exception other) ∙ cond-true (lands way) (endpoints_at after (ends_in_rest (levels (topic_of other))) (is_exception other)) (holders old other) k in
            let then = held_old way (ends_in_rest (levels (topic_of other))) (is_exception other) k in
            omega (arith, room (ends_in_rest (levels (topic_of other))) (is_exception other), ap (λ (r : Roomy ℕ). r.room) now, ap (λ (r : Roomy ℕ). r.room) then)
        kept false k =
            let now = held_new way (ends_in_rest (levels (topic_of other))) (is_exception other) ∙ cond-false (lands way) (endpoints_at after (ends_in_rest (levels (topic_of other))) (is_exception other)) (holders old other) k in
            omega (arith, ap (λ (r : Roomy ℕ). r.room) now)

-- the endpoints where a subscription ends, at the node that it leads to
pub holders_at : (nodes : List Node) (text : List ℕ) (at : ℕ) (node : Node) (ending : Ending) → Some at ≡ place nodes (root nodes) (steps (levels (topic_of text))) → slice_get nodes at ≡ Some node → ending.rest ≡ ends_in_rest (levels (topic_of text)) → ending.exception ≡ is_exception text → holders nodes text ≡ endpoints_at node ending.rest ending.exception
holders_at nodes text at node ending leads is rest exception =
    (λ i. option_map_or (endpoints_of nodes (sym rest i) (sym exception i)) (sym leads i) nobody)
    ∙ ap (λ o. option_map_or (λ node. endpoints_at node ending.rest ending.exception) o nobody) is

pub holders_none : (nodes : List Node) (text : List ℕ) → None ≡ place nodes (root nodes) (steps (levels (topic_of text))) → holders nodes text ≡ nobody
holders_none nodes text leads =
    ap (λ o. option_map_or (endpoints_of nodes (ends_in_rest (levels (topic_of text))) (is_exception text)) o nobody) (sym leads)

pub pair_at : (nodes : List Node) (e : ℕ) (text : List ℕ) (es : Roomy ℕ) → holders nodes text ≡ es → has_pair nodes e text ≡ has_number es.items e
unfolding has_pair
pair_at nodes e text es h = ap (λ (r : Roomy ℕ). has_number r.items e) h

pub room_at : (nodes : List Node) (text : List ℕ) (es : Roomy ℕ) → holders nodes text ≡ es → has_room nodes text ≡ nat_lt 0 es.room
unfolding has_room
room_at nodes text es h = ap (λ (r : Roomy ℕ). nat_lt 0 r.room) h

-- without a node there is no endpoint to take out
pub none_taken : (nodes : List Node) (e : ℕ) (text : List ℕ) → None ≡ place nodes (root nodes) (steps (levels (topic_of text))) → TakesPairOut nodes nodes e text
none_taken nodes e text leads endpoint other = one (endpoint == e && bytes_eq other text) refl
  where
    one : (b : Bool) → (endpoint == e && bytes_eq other text) ≡ b → has_pair nodes endpoint other ≡ (has_pair nodes endpoint other && not b)
    one false h = sym (and_true (has_pair nodes endpoint other))
    one true h =
        let equal : other ≡ text = same_text other text (sym (and_parts (endpoint == e) (bytes_eq other text) h).1) in
        let none : has_pair nodes endpoint other ≡ false = ap (has_pair nodes endpoint) equal ∙ pair_at nodes endpoint text nobody (holders_none nodes text leads) in
        none ∙ ap (λ b. b && false) (sym none)

-- one growth after another
pub same_after : (a b c : List Node) → HoldsSame a b → HoldsSame b c → HoldsSame a c
same_after a b c p q levels rest exception =
    let first = p levels rest exception in
    let second = q levels rest exception in
    (second.0 ∙ first.0, omega (arith, first.1, second.1))

root_kept : (old new : List Node) → 0 < length old → length old ≤ length new → (root old ≡ Some 0) × (root new ≡ Some 0)
root_kept [] new some longer = absurd (omega (arith, some))
root_kept (n ∷ ns) [] some longer = absurd (omega (arith, longer))
root_kept (n ∷ ns) (m ∷ ms) some longer = (refl, refl)

abbrev HoldsSameAt : List Node → List Node → Option ℕ → Option ℕ → List (List ℕ) → Bool → Bool → Type 0
HoldsSameAt old new old_from new_from levels rest exception =
    ((held new new_from levels rest exception).items ≡ (held old old_from levels rest exception).items)
    × ((held old old_from levels rest exception).room ≤ (held new new_from levels rest exception).room)

pub grown_same : (old new : List Node) → 0 < length old → Grows old new → HoldsSame old new
grown_same old new some grows levels rest exception =
    let roots = root_kept old new some grows.longer in
    subst (λ o. HoldsSameAt old new o (root new) levels rest exception) (sym roots.0)
    (subst (λ o. HoldsSameAt old new (Some 0) o levels rest exception) (sym roots.1) (grows.held_stays 0 some levels rest exception))

pub grown_root : (old new : List Node) (at : ℕ) → root old ≡ Some at → at < length old → Grows old new → root new ≡ Some at
grown_root old new at is lt grows =
    let roots = root_kept old new (omega (arith, lt)) grows.longer in
    roots.1 ∙ sym roots.0 ∙ is

pub made_room : (nodes : List Node) (text : List ℕ) (at : ℕ) (ending : Ending) → place nodes (root nodes) (steps (levels (topic_of text))) ≡ Some at → ending.rest ≡ ends_in_rest (levels (topic_of text)) → ending.exception ≡ is_exception text → 0 < (endpoints_of nodes ending.rest ending.exception at).room → has_room nodes text ≡ true
made_room nodes text at ending leads rest exception some =
    room_at nodes text (endpoints_of nodes ending.rest ending.exception at)
    (λ i. option_map_or (endpoints_of nodes (sym rest i) (sym exception i)) (leads i) nobody)
    ∙ lt-ltb 0 (endpoints_of nodes ending.rest ending.exception at).room some
