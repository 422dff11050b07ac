-- The steps of the walk that collects what a topic finds.
use Rattle.std.proofs.Common.{◌≡◌, ◌∙◌, ◌<◌, ℕ, suc, Bool, true, false, ◌||◌, List, [], ◌∷◌, ◌++◌, take, length, Option, None, Some, Bor, refl, sym, ap, subst, arith}
use Rattle.std.specs.Prelude.{◌==◌, slice_get, IfSome}
use Rattle.std.specs.Option.{option_map_or}
use Rattle.std.proofs.lemmas.List.Folds.{list_any-append}
use Rattle.sp_base.specs.Topic.{levels}
use Rattle.sp_tree.specs.Children as kids
use Rattle.sp_tree.specs.Node.{endpoints_at}
use Rattle.sp_tree.specs.Nodes.{IsTree, by_prefix, by_text, endpoints_of, finds, has_number, nobody, some_below}
use Rattle.sp_tree.specs.declared.node.Node.{Node}
use Rattle.sp_tree.proofs.Changes.{Rest}
use Rattle.sp_tree.proofs.Walks.{next-made, next-text}

pub text_read : (nodes : List Node) (at : ℕ) (node : Node) (text : List ℕ) → slice_get nodes at ≡ Some node → by_text nodes at text ≡ kids.child node.by_text text
text_read nodes at node text is = ap (λ o. option_map_or (λ node. kids.child node.by_text text) o None) is

pub prefix_read : (nodes : List Node) (at : ℕ) (node : Node) (prefix : List ℕ) → slice_get nodes at ≡ Some node → by_prefix nodes at prefix ≡ kids.child node.by_prefix prefix
prefix_read nodes at node prefix is = ap (λ o. option_map_or (λ node. kids.child node.by_prefix prefix) o None) is

pub endpoints_read : (nodes : List Node) (at : ℕ) (node : Node) (rest exception : Bool) → slice_get nodes at ≡ Some node → endpoints_of nodes rest exception at ≡ endpoints_at node rest exception
endpoints_read nodes at node rest exception is = ap (λ o. option_map_or (λ node. endpoints_at node rest exception) o nobody) is

-- the children are nodes
pub text_inside : (nodes : List Node) → IsTree nodes → (at : ℕ) (text : List ℕ) (o : Option ℕ) → o ≡ by_text nodes at text → IfSome o (λ child. child < length nodes)
text_inside nodes tree at text None is = tt
text_inside nodes tree at text (Some child) is = (tree.ways at text child (next-text nodes at text (tree.texts at text child (sym is)) ∙ sym is)).0

pub prefix_inside : (nodes : List Node) → IsTree nodes → (at : ℕ) (prefix : List ℕ) (o : Option ℕ) → o ≡ by_prefix nodes at prefix → IfSome o (λ child. child < length nodes)
prefix_inside nodes tree at prefix None is = tt
prefix_inside nodes tree at prefix (Some child) is = (tree.ways at (prefix ++ 42 ∷ []) child (next-made nodes at prefix ∙ sym is)).0

three : (a b c : Bool) → ((a || b) || c) ≡ (a || (b || (c || false)))
three true b c = refl
three false true c = refl
three false false true = refl
three false false false = refl

five : (a b c s f : Bool) → ((a || (b || (c || s))) || f) ≡ (a || (b || (c || (s || f))))
five true b c s f = refl
five false true c s f = refl
five false false true s f = refl
five false false false s f = refl

module _ (nodes : List Node) (exception : Bool) (e : ℕ) where
  -- where no level is left
  pub collected_here : (from : Option ℕ) (at : ℕ) (topic : Option (Bor (List ℕ))) (before after there : List ℕ) → from ≡ Some at → topic ≡ None → after ≡ before ++ there → there ≡ (endpoints_of nodes false exception at).items
      → has_number after e ≡ (has_number before e || finds nodes exception from (Rest topic) e)
  collected_here from at topic before after there is end pushed are =
      ap (λ ns. has_number ns e) pushed
      ∙ list_any-append (λ n. n == e) before there
      ∙ (λ i. has_number before e || has_number (are i) e)
      ∙ (λ i. has_number before e || finds nodes exception (sym is i) (Rest (sym end i)) e)

  -- those in `>`, and those below a text
  pub collected_text : (at : ℕ) (level : List ℕ) (rest : Option (Bor (List ℕ))) (child : Option ℕ) (before middle after there : List ℕ) → middle ≡ before ++ there → there ≡ (endpoints_of nodes true exception at).items → child ≡ by_text nodes at level
      → has_number after e ≡ (has_number middle e || finds nodes exception child (Rest rest) e)
      → has_number after e ≡ (has_number before e || (has_number (endpoints_of nodes true exception at).items e || (finds nodes exception (by_text nodes at level) (Rest rest) e || false)))
  collected_text at level rest child before middle after there pushed are leads h =
      h ∙ (λ i. has_number (pushed i) e || finds nodes exception (leads i) (Rest rest) e)
      ∙ ap (λ b. b || finds nodes exception (by_text nodes at level) (Rest rest) e) (list_any-append (λ n. n == e) before there ∙ (λ i. has_number before e || has_number (are i) e))
      ∙ three (has_number before e) (has_number (endpoints_of nodes true exception at).items e) (finds nodes exception (by_text nodes at level) (Rest rest) e)

  abbrev Prefix : ℕ → List ℕ → Option (Bor (List ℕ)) → ℕ → Bool
  Prefix at level rest n = finds nodes exception (by_prefix nodes at (take n level)) (Rest rest) e

  -- one prefix more
  pub collected_prefix : (at : ℕ) (level : List ℕ) (rest : Option (Bor (List ℕ))) (child : Option ℕ) (before middle after : List ℕ) (n more : ℕ) → more ≡ suc n → child ≡ by_prefix nodes at (take n level)
      → has_number middle e ≡ (has_number before e || (has_number (endpoints_of nodes true exception at).items e || (finds nodes exception (by_text nodes at level) (Rest rest) e || some_below (λ n. finds nodes exception (by_prefix nodes at (take n level)) (Rest rest) e) n)))
      → has_number after e ≡ (has_number middle e || finds nodes exception child (Rest rest) e)
      → has_number after e ≡ (has_number before e || (has_number (endpoints_of nodes true exception at).items e || (finds nodes exception (by_text nodes at level) (Rest rest) e || some_below (λ n. finds nodes exception (by_prefix nodes at (take n level)) (Rest rest) e) more)))
  collected_prefix at level rest child before middle after n more next leads so_far h =
      h ∙ (λ i. so_far i || finds nodes exception (leads i) (Rest rest) e)
      ∙ five (has_number before e) (has_number (endpoints_of nodes true exception at).items e) (finds nodes exception (by_text nodes at level) (Rest rest) e) (some_below (Prefix at level rest) n) (Prefix at level rest n)
      ∙ ap (λ m. has_number before e || (has_number (endpoints_of nodes true exception at).items e || (finds nodes exception (by_text nodes at level) (Rest rest) e || some_below (Prefix at level rest) m))) (sym next)

  -- all of them
  pub collected_all : (from : Option ℕ) (at : ℕ) (topic : Option (Bor (List ℕ))) (text : Bor (List ℕ)) (level : List ℕ) (rest : Option (Bor (List ℕ))) (before after : List ℕ) (n : ℕ) → from ≡ Some at → topic ≡ Some text → levels text.now ≡ level ∷ Rest rest → n ≡ suc (length level)
      → has_number after e ≡ (has_number before e || (has_number (endpoints_of nodes true exception at).items e || (finds nodes exception (by_text nodes at level) (Rest rest) e || some_below (λ n. finds nodes exception (by_prefix nodes at (take n level)) (Rest rest) e) n)))
      → has_number after e ≡ (has_number before e || finds nodes exception from (Rest topic) e)
  collected_all from at topic text level rest before after n is named cut whole h =
      h
      ∙ ap (λ m. has_number before e || (has_number (endpoints_of nodes true exception at).items e || (finds nodes exception (by_text nodes at level) (Rest rest) e || some_below (Prefix at level rest) m))) whole
      ∙ ap (λ ls. has_number before e || finds nodes exception (Some at) ls e) (sym cut)
      ∙ (λ i. has_number before e || finds nodes exception (sym is i) (Rest (sym named i)) e)

-- what is left of a topic is shorter
abbrev pub length_left : Option (Bor (List ℕ)) → ℕ
length_left topic = option_map_or (λ t. suc (length t.now)) topic 0

rest_shorter : (rest : Option (Bor (List ℕ))) (n : ℕ) → IfSome rest (λ r. length r.now < n) → length_left rest < suc n
rest_shorter None n h = omega arith
rest_shorter (Some rest) n h = omega (arith, h)

pub less_left : (topic rest : Option (Bor (List ℕ))) (text : Bor (List ℕ)) → topic ≡ Some text → IfSome rest (λ r. length r.now < length text.now) → length_left rest < length_left topic
less_left topic rest text is h = subst (λ t. length_left rest < length_left t) (sym is) (rest_shorter rest (length text.now) h)
