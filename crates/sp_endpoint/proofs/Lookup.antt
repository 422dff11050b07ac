-- What is looked up in the index is what takes the message.
use Rattle.std.proofs.Common.{◌≡◌, ◌<◌, ◌==◌, ◌∙◌, ◌+◌, ◌++◌, ℕ, suc, map, take, Bor, inl, inr, ◌⊎◌, Bool, true}
use Rattle.std.proofs.Common.{false, not, ◌&&◌, ◌||◌, cond, List, [], ◌∷◌, length, get_or, Option, Some, None, refl}
use Rattle.std.proofs.Common.{sym, ap, subst, arith}
use Rattle.std.specs.Prelude.{◌≢◌, All, AllPairs, IfSome, filter}
use Rattle.std.specs.Option.{option_copied, option_map_or, option_to_list}
use Rattle.std.specs.List.{cons_option, filter_map, list_any}
use Rattle.std.specs.List.Sorted.{IsStrictlyIncreasing}
use Rattle.std.proofs.lemmas.Bool.{cases_order, eq-eqb, ne_eqb}
use Rattle.std.proofs.lemmas.List.Elements.{All-cons, All-head, All-tail, All-weaker, filter-append, filter_map-append}
use Rattle.std.proofs.Math.Seq.{take-suc}
use Rattle.std.proofs.lemmas.List.Kept.{AllPairs-from_increasing}
use Rattle.sp_config.specs.declared.kind.EndpointKind.{EndpointKind}
use Rattle.sp_config.specs.declared.kind.EndpointKind.TheVariants.{Queue, TopicEndpoint}
use Rattle.sp_endpoint.specs.Endpoint.{EndpointView}
use Rattle.sp_endpoint.specs.Endpoints.{numbered}
use Rattle.sp_endpoint.specs.Index.{IsIndex, is_plain, texts, texts_of}
use Rattle.sp_endpoint.specs.Takers.{is_matched, takes_dest, takes_message, takes_topic}
use Rattle.sp_endpoint.proofs.Places.{Below, Rise, none_found, one_found, pairs_head, pairs_tail}
use Rattle.sp_message.specs.declared.message.Dest.TheVariants as dest
use Rattle.sp_message.specs.declared.message.Message.{Message}
use Rattle.sp_selector.specs.Takes.{passes}
use Rattle.sp_topic.specs.Matching.{matches}
use Rattle.sp_topic.specs.Subscription.{is_exception}
use Rattle.sp_topic.specs.Subscriptions.{takes}
use Rattle.sp_tree.specs.Tree.{AreTextsOf}
use Rattle.sp_tree.specs.declared.node.Node.{Node}

pub filter_alike : {X : Type 0} (p q : X → Bool) (xs : List X) → All (λ x. p x ≡ q x) xs → filter p xs ≡ filter q xs
filter_alike p q [] all = refl
filter_alike p q (x ∷ xs) all =
    (λ i. cond (All-head (λ y. p y ≡ q y) x xs all i) (x ∷ filter p xs) (filter p xs))
    ∙ ap (λ ys. cond (q x) (x ∷ ys) ys) (filter_alike p q xs (All-tail (λ y. p y ≡ q y) x xs all))

filter_twice : {X : Type 0} (p q : X → Bool) (xs : List X) → filter p (filter q xs) ≡ filter (λ x. q x && p x) xs
filter_twice p q [] = refl
filter_twice p q (x ∷ xs) = one (q x) (filter_twice p q xs)
  where
    one : (b : Bool) → filter p (filter q xs) ≡ filter (λ y. q y && p y) xs →
        filter p (cond b (x ∷ filter q xs) (filter q xs)) ≡ cond (b && p x) (x ∷ filter (λ y. q y && p y) xs)
        (filter (λ y. q y && p y) xs)
    one true later = ap (λ ys. cond (p x) (x ∷ ys) ys) later
    one false later = later

abbrev is_among : List ℕ → EndpointView → Bool
is_among numbers e = list_any (λ n. n == e.number) numbers

-- an endpoint whose number is below all of the numbers is none of them
not_among : (numbers : List ℕ) (e : EndpointView) → All (λ n. e.number < n) numbers → is_among numbers e ≡ false
not_among [] e all = refl
not_among (n ∷ ns) e all =
    let above = All-head (λ k. e.number < k) n ns all in
    ap (λ b. b || is_among ns e) (ne_eqb n e.number (λ same. omega (arith, above, same)))
    ∙ not_among ns e (All-tail (λ k. e.number < k) n ns all)

-- one number more below the others
one_more : (n : ℕ) (ns : List ℕ) (es : List EndpointView) → All (λ k. n < k) ns → Rise es →
    cons_option (numbered n es) (filter (is_among ns) es) ≡ filter (is_among (n ∷ ns)) es
one_more n ns [] above rise = refl
one_more n ns (e ∷ es) above rise = by (cases_order n e.number) (one_more n ns es above (pairs_tail Below e es rise))
  where
    later : All (Below e) es
    later = pairs_head Below e es rise

    -- where none of the others has the number
    others : (xs : List EndpointView) → All (λ x. n < x.number) xs →
        filter (is_among ns) xs ≡ filter (is_among (n ∷ ns)) xs
    others xs all =
        filter_alike (is_among ns) (is_among (n ∷ ns)) xs
        (All-weaker (λ x. n < x.number) (λ x. is_among ns x ≡ is_among (n ∷ ns) x)
        (λ x less. sym (ap (λ b. b || is_among ns x) (ne_eqb n x.number (λ same. omega (arith, less, same))))) xs all)

    by : (n ≡ e.number) ⊎ ((n < e.number) ⊎ (e.number < n)) →
        cons_option (numbered n es) (filter (is_among ns) es) ≡ filter (is_among (n ∷ ns)) es →
        cons_option (numbered n (e ∷ es)) (filter (is_among ns) (e ∷ es)) ≡ filter (is_among (n ∷ ns)) (e ∷ es)
    by (inl same) rest =
        (λ i. cons_option (cond (eq-eqb e.number n (sym same) i) (Some e) (numbered n es))
        (filter (is_among ns) (e ∷ es)))
        ∙ (λ i. e ∷ cond
        (not_among ns e
        (All-weaker (λ k. n < k) (λ k. e.number < k) (λ k less. omega (arith, less, same)) ns above) i)
        (e ∷ filter (is_among ns) es) (filter (is_among ns) es))
        ∙ ap (λ xs. e ∷ xs)
        (others es (All-weaker (Below e) (λ x. n < x.number) (λ x less. omega (arith, less, same)) es later))
        ∙ (λ i. cond (sym (eq-eqb n e.number same) i || is_among ns e) (e ∷ filter (is_among (n ∷ ns)) es)
        (filter (is_among (n ∷ ns)) es))
    by (inr (inl less)) rest =
        (λ i. cons_option (sym (none_found n (e ∷ es) (apart less)) i) (filter (is_among ns) (e ∷ es)))
        ∙ others (e ∷ es) (after less)
      where
        after : n < e.number → All (λ x. n < x.number) (e ∷ es)
        after first = All-cons (λ x. n < x.number) e es first
            (All-weaker (Below e) (λ x. n < x.number) (λ x less. omega (arith, first, less)) es later)

        apart : n < e.number → All (λ x. x.number ≢ n) (e ∷ es)
        apart first = All-weaker (λ x. n < x.number) (λ x. x.number ≢ n) (λ x more same. omega (arith, more, same))
            (e ∷ es) (after first)
    by (inr (inr less)) rest =
        (λ i. cons_option (cond (ne_eqb e.number n (λ same. omega (arith, less, same)) i) (Some e) (numbered n es))
        (filter (is_among ns) (e ∷ es)))
        ∙ (λ i. cons_option (numbered n es)
        (cond (not_among ns e below i) (e ∷ filter (is_among ns) es) (filter (is_among ns) es)))
        ∙ rest
        ∙ (λ i. cond (sym (not_among (n ∷ ns) e (All-cons (λ k. e.number < k) n ns less below)) i)
        (e ∷ filter (is_among (n ∷ ns)) es) (filter (is_among (n ∷ ns)) es))
      where
        below : All (λ k. e.number < k) ns
        below = All-weaker (λ k. n < k) (λ k. e.number < k) (λ k more. omega (arith, less, more)) ns above

-- the endpoints of rising numbers are those that have one of them
numbered_all : (ns : List ℕ) (es : List EndpointView) → AllPairs (λ m n. m < n) ns → Rise es →
    filter_map (λ n. numbered n es) ns ≡ filter (is_among ns) es
numbered_all [] es pairs rise = none es
  where
    none : (xs : List EndpointView) → [] ≡ filter (is_among []) xs
    none [] = refl
    none (x ∷ xs) = none xs
numbered_all (n ∷ ns) es pairs rise =
    ap (cons_option (numbered n es)) (numbered_all ns es (pairs_tail (λ m k. m < k) n ns pairs) rise)
    ∙ one_more n ns es (pairs_head (λ m k. m < k) n ns pairs) rise

-- one number more is looked up
seen_more : (found : List (Bor EndpointView)) (one : Option (Bor EndpointView)) →
    map (λ (e : Bor EndpointView). e.now) (found ++ cons_option one []) ≡ map (λ (e : Bor EndpointView). e.now)
    found ++ cons_option (option_copied one) []
seen_more [] None = refl
seen_more [] (Some e) = refl
seen_more (f ∷ fs) one = ap (λ (es : List EndpointView). f.now ∷ es) (seen_more fs one)

pub passing_more : (p : EndpointView → Bool) (h : ℕ → Option EndpointView) (ns : List ℕ) (i : ℕ) (n : ℕ)
    (found after : List (Bor EndpointView)) (one : Option (Bor EndpointView)) → i < length ns → n ≡ get_or ns i n →
    map (λ (e : Bor EndpointView). e.now) found ≡ filter p (filter_map h (take i ns)) →
    cons_option (option_copied one) [] ≡ filter p (cons_option (h n) []) →
    after ≡ found ++ cons_option one [] →
    map (λ (e : Bor EndpointView). e.now) after ≡ filter p (filter_map h (take (i + 1) ns))
passing_more p h ns i n found after one less is so_far more put =
    ap (λ (es : List (Bor EndpointView)). map (λ (e : Bor EndpointView). e.now) es) put ∙ seen_more found one
    ∙ ap (λ es. es ++ cons_option (option_copied one) []) so_far
    ∙ ap (λ es. filter p (filter_map h (take i ns)) ++ es) more
    ∙ sym (filter-append p (filter_map h (take i ns)) (cons_option (h n) []))
    ∙ ap (filter p)
    (sym (filter_map-append h (take i ns) (n ∷ [])) ∙ ap (filter_map h)
    (ap (λ k. take i ns ++ k ∷ []) is ∙ sym (take-suc ns i n less) ∙ ap (λ k. take k ns) next))
  where
    next : suc i ≡ i + 1
    next = omega arith

-- an endpoint takes a topic by its texts
takes_by_texts : (kind : EndpointKind) (e : EndpointView) (topic : List ℕ) → is_plain kind e ≡ true →
    takes (texts kind e) topic ≡ takes_topic kind e topic
takes_by_texts Queue e topic plain = refl
takes_by_texts TopicEndpoint e topic plain = one e.topic plain
  where
    two : (exception matched : Bool) → not exception ≡ true →
        (((not exception && matched) || false) && not ((exception && matched) || false)) ≡ matched
    two false true is = refl
    two false false is = refl
    two true matched is = absurd (cc)

    one : (own : Option (List ℕ)) → option_map_or (λ t. not (is_exception t)) own true ≡ true →
        takes (option_to_list own) topic ≡ is_matched own topic
    one None is = refl
    one (Some t) is = two (is_exception t) (matches t topic) is

module _ (tree : List Node) (es : List EndpointView) (topic : List ℕ) (ns : List ℕ) (rise : Rise es)
    (index : IsIndex tree (λ n. numbered n es))
    (found : (n : ℕ) (texts : List (List ℕ)) → AreTextsOf tree n texts → list_any (λ m. m == n) ns ≡ takes texts
    topic) where
  -- one of the endpoints is found where it takes the topic
  found_one : (k : ℕ) (d : EndpointView) → k < length es →
      is_among ns (get_or es k d) ≡ takes_topic (get_or es k d).kind (get_or es k d) topic
  found_one k d less =
      let e : EndpointView = get_or es k d in
      let there : Some e ≡ numbered e.number es = one_found e.number es k d rise less refl in
      found e.number (texts_of (numbered e.number es)) (index.holds e.number)
      ∙ (λ i. takes (texts_of (sym there i)) topic)
      ∙ takes_by_texts e.kind e topic
      (subst (λ o. IfSome o (λ x. is_plain x.kind x ≡ true)) (sym there) (index.plain e.number))

  pub looked_up : (m : Message) → m.dest ≡ dest.Topic topic → IsStrictlyIncreasing ns →
      filter (λ e. passes e.selector m.properties) (filter_map (λ n. numbered n es) ns) ≡ filter (takes_message m) es
  looked_up m to rises =
      ap (filter (λ e. passes e.selector m.properties)) (numbered_all ns es (AllPairs-from_increasing ns rises) rise)
      ∙ filter_twice (λ e. passes e.selector m.properties) (is_among ns) es
      ∙ filter_alike (λ e. is_among ns e && passes e.selector m.properties) (takes_message m) es
      (λ k d less. let e : EndpointView = get_or es k d in
      ap (λ b. b && passes e.selector m.properties) (found_one k d less ∙ ap (λ t. takes_dest t e) (sym to)))
