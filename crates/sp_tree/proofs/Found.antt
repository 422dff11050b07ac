-- The walk with a topic's levels finds the endpoints with a subscription in the tree that matches the topic.
use Rattle.std.proofs.Common.{◌≡◌, ◌∙◌, ◌↔◌, ◌<◌, ℕ, Bool, true, false, not, ◌&&◌, ◌||◌, List, [], ◌∷◌, Some, None, Option, inl, inr, refl, sym, ap, subst}
use Rattle.std.specs.Prelude.{◌==◌, Contains, bytes_eq}
use Rattle.std.specs.List.{list_any}
use Rattle.std.proofs.lemmas.Bool.{and_from, and_parts, false_from_ne_true, not-true, true≢false, cases_Bool}
use Rattle.sp_base.specs.Topic.{levels}
use Rattle.sp_topic.specs.Matching.{excepts, matches, selects}
use Rattle.sp_topic.specs.Subscription.{is_exception, topic_of}
use Rattle.sp_topic.specs.Subscriptions.{takes}
use Rattle.sp_tree.specs.Nodes.{IsSpelled, IsTree, finds, has_number, held, root}
use Rattle.sp_tree.specs.Path.{ends_in_rest, steps, way_matches}
use Rattle.sp_tree.specs.Tree.{AreTextsOf, Takes, has_pair}
use Rattle.sp_tree.specs.declared.node.Node.{Node}
use Rattle.sp_tree.proofs.Paths.{levels_match-way}
use Rattle.sp_tree.proofs.Searches.{Contains-from_list_any, list_any-from_Contains, passes_some, same_tests, text_passes}
use Rattle.sp_tree.proofs.Walks.{found_by_way, found_on_way}

-- a subscription matches where its way does
pub matches_way : (text topic : List ℕ) → matches text topic ≡ way_matches (steps (levels (topic_of text))) (ends_in_rest (levels (topic_of text))) (levels topic)
unfolding matches
matches_way text topic = levels_match-way (levels (topic_of text)) (levels topic)

pub pair_way : (nodes : List Node) (e : ℕ) (text : List ℕ) → has_pair nodes e text ≡ has_number (held nodes (root nodes) (steps (levels (topic_of text))) (ends_in_rest (levels (topic_of text))) (is_exception text)).items e
unfolding has_pair
pair_way nodes e text = refl

module _ (nodes : List Node) (tree : IsTree nodes) (topic : List ℕ) (e : ℕ) where
  pub from_walk : (exception : Bool) → finds nodes exception (root nodes) (levels topic) e ≡ true → (text : List ℕ) × (has_pair nodes e text ≡ true) × (is_exception text ≡ exception) × (matches text topic ≡ true)
  from_walk exception h =
      let led = found_by_way nodes exception e tree.texts (levels topic) (root nodes) h in
      let found = tree.spelled led.0 led.1 exception e led.3 in
      let text = found.0 in
      let is : IsSpelled text led.0 led.1 exception = found.1 in (
        text,
        pair_way nodes e text ∙ (λ i. has_number (held nodes (root nodes) (is.way_is i) (is.rest_is i) (is.exception_is i)).items e) ∙ led.3,
        is.exception_is,
        matches_way text topic ∙ (λ i. way_matches (is.way_is i) (is.rest_is i) (levels topic)) ∙ led.2,
      )

  pub to_walk : (exception : Bool) (text : List ℕ) → has_pair nodes e text ≡ true → is_exception text ≡ exception → matches text topic ≡ true → finds nodes exception (root nodes) (levels topic) e ≡ true
  to_walk exception text there is matched =
      found_on_way nodes exception e (levels topic) (root nodes) (steps (levels (topic_of text))) (ends_in_rest (levels (topic_of text))) (sym (matches_way text topic) ∙ matched)
      (subst (λ x. has_number (held nodes (root nodes) (steps (levels (topic_of text))) (ends_in_rest (levels (topic_of text))) x).items e ≡ true) is (sym (pair_way nodes e text) ∙ there))

  selected_text : (text : List ℕ) → is_exception text ≡ false → matches text topic ≡ true → selects text topic ≡ true
  selected_text text is matched = (λ i. not (is i) && matched i)

  excepted_text : (text : List ℕ) → is_exception text ≡ true → matches text topic ≡ true → excepts text topic ≡ true
  excepted_text text is matched = (λ i. is i && matched i)

  pub found_takes : (there : Bool) → there ≡ (finds nodes false (root nodes) (levels topic) e && not (finds nodes true (root nodes) (levels topic) e)) → ((there ≡ true) → Takes nodes e topic) × (Takes nodes e topic → there ≡ true)
  found_takes there is = (
    λ h.
        let both = and_parts (finds nodes false (root nodes) (levels topic) e) (not (finds nodes true (root nodes) (levels topic) e)) (sym is ∙ h) in
        let one = from_walk false both.0 in (
          (one.0, one.1, selected_text one.0 one.2 one.3),
          λ text pair. false_from_ne_true (excepts text topic) (λ k.
              let parts = and_parts (is_exception text) (matches text topic) k in
              true≢false (sym (to_walk true text pair parts.0 parts.1) ∙ not-true (finds nodes true (root nodes) (levels topic) e) both.1)),
        ),
    λ takes.
        let parts = and_parts (not (is_exception takes.0.0)) (matches takes.0.0 topic) takes.0.2 in
        let none : finds nodes true (root nodes) (levels topic) e ≡ false = false_from_ne_true (finds nodes true (root nodes) (levels topic) e) (λ k.
        let one = from_walk true k in
        true≢false (sym (excepted_text one.0 one.2 one.3) ∙ takes.1 one.0 one.1)) in
        is ∙ (λ i. to_walk false takes.0.0 takes.0.1 (not-true (is_exception takes.0.0) parts.0) parts.1 i && not (none i)),
  )

  pub found_in_texts : (there : Bool) → there ≡ (finds nodes false (root nodes) (levels topic) e && not (finds nodes true (root nodes) (levels topic) e)) → (texts : List (List ℕ)) → AreTextsOf nodes e texts → there ≡ takes texts topic
  found_in_texts there is texts all =
      is ∙ (λ i. plain i && not (exceptions i))
    where
      plain : finds nodes false (root nodes) (levels topic) e ≡ list_any (λ s. selects s topic) texts
      plain =
          same_tests (finds nodes false (root nodes) (levels topic) e) (list_any (λ s. selects s topic) texts)
          (λ h. let one = from_walk false h in passes_some (λ s. selects s topic) texts one.0 (all one.0 ∙ one.1) (selected_text one.0 one.2 one.3))
          (λ h.
          let one = text_passes (λ s. selects s topic) texts h in
          let parts = and_parts (not (is_exception one.0)) (matches one.0 topic) one.2 in
          to_walk false one.0 (sym (all one.0) ∙ one.1) (not-true (is_exception one.0) parts.0) parts.1)

      exceptions : finds nodes true (root nodes) (levels topic) e ≡ list_any (λ s. excepts s topic) texts
      exceptions =
          same_tests (finds nodes true (root nodes) (levels topic) e) (list_any (λ s. excepts s topic) texts)
          (λ h. let one = from_walk true h in passes_some (λ s. excepts s topic) texts one.0 (all one.0 ∙ one.1) (excepted_text one.0 one.2 one.3))
          (λ h.
          let one = text_passes (λ s. excepts s topic) texts h in
          let parts = and_parts (is_exception one.0) (matches one.0 topic) one.2 in
          to_walk true one.0 (sym (all one.0) ∙ one.1) parts.0 parts.1)

  pub found_contains : (xs : List ℕ) → has_number xs e ≡ (finds nodes false (root nodes) (levels topic) e && not (finds nodes true (root nodes) (levels topic) e)) → Contains xs e ↔ Takes nodes e topic
  found_contains xs is =
      let both = found_takes (has_number xs e) is in
      (λ there. both.0 (list_any-from_Contains xs e there), λ takes. Contains-from_list_any xs e (both.1 takes))
