-- What stands in a list of items after one was put before another, and what its links are then.
use Rattle.std.proofs.Common.{◌≡◌, ◌≢◌, ◌<◌, ◌==◌, ℕ, cond, List, [], ◌∷◌, length, Some, None, option_map, option_and_then, refl, ap, sym, ◌∙◌, ◌⊎◌, inl, inr}
use Rattle.std.proofs.lemmas.Bool.{eq-eqb, eqb-true, eqb-false, ne_eqb, cases_eq}
use Rattle.slab.specs.Slab.{Slab, get, Updates}
use Rattle.sp_chain.specs.declared.node.Node.{Node}
use Rattle.sp_chain.specs.declared.node.Ends.{Ends}
use Rattle.sp_chain.specs.Items.{IsLast, Item, chain_at, first_in, inserted_before, item_at, next_after}
use Rattle.sp_chain.specs.Kept.{seen_in}
use Rattle.sp_chain.specs.Links.{Distinct, GivesEnds, Linked, Seen, SetsBefore, SetsBehind, end_at, item_of, past}
use Rattle.sp_chain.proofs.Lists.{first_in-chain, key_cases, none-next, not-first, not-next, past_other, past_same, split}
use Rattle.sp_chain.proofs.Moves.{Within, before-there}

module _ {T : Type 0} where
  -- the items, with one right before the one under a key
  abbrev pub placed : List (Item T) → ℕ → Item T → List (Item T)
  placed [] next n = []
  placed (x ∷ later) next n = cond (x.key == next) (n ∷ x ∷ later) (x ∷ placed later next n)

  -- where it is of the same chain, that is what is put there
  pub placed_in_chain : (L : List (Item T)) (next : ℕ) (n : Item T) → chain_at L next ≡ Some n.chain →
      inserted_before L next n.key n.value ≡ placed L next n
  placed_in_chain [] next n h = refl
  placed_in_chain (x ∷ xs) next n h = split (x.key == next)
      (λ e. let same : Some x.chain ≡ Some n.chain = rw e at h in let one : x.chain ≡ n.chain = cc in
      rw (e, one) refl)
      (λ e. rw e (ap (λ l. x ∷ l) (placed_in_chain xs next n (rw e at h))))

  pub item_at-placed_other : (L : List (Item T)) (j : ℕ) (n : Item T) (k : ℕ) → n.key ≢ k →
      item_at (placed L j n) k ≡ item_at L k
  item_at-placed_other [] j n k ne = refl
  item_at-placed_other (x ∷ xs) j n k ne = split (x.key == j)
      (λ e. rw (e, ne_eqb n.key k ne) refl)
      (λ e. rw e (ap (λ o. cond (x.key == k) (Some x) o) (item_at-placed_other xs j n k ne)))

  pub item_at-placed_same : (L : List (Item T)) (j : ℕ) (n : Item T) → item_at L n.key ≡ None →
      chain_at L j ≡ Some n.chain → item_at (placed L j n) n.key ≡ Some n
  item_at-placed_same [] j n fresh h = absurd (cc)
  item_at-placed_same (x ∷ xs) j n fresh h = split (x.key == j)
      (λ e. rw (e, eq-eqb n.key n.key refl) refl)
      (λ e. split (x.key == n.key)
      (λ f. let gone = rw f at fresh in absurd (cc))
      (λ f. rw (e, f) (item_at-placed_same xs j n (rw f at fresh) (rw e at h))))

  pub Distinct-placed : (L : List (Item T)) (j : ℕ) (n : Item T) → Distinct L → item_at L n.key ≡ None →
      Distinct (placed L j n)
  Distinct-placed [] j n d fresh = tt
  Distinct-placed (x ∷ xs) j n d fresh = split (x.key == j)
      (λ e. rw e (fresh, d))
      (λ e. split (x.key == n.key)
      (λ f. let gone = rw f at fresh in absurd (cc))
      (λ f. rw e (
        item_at-placed_other xs j n x.key (λ same. eqb-false x.key n.key f (sym same))
            ∙ d.0,
        Distinct-placed xs j n d.1 (rw f at fresh),
      )))

  pub first_in-placed : (L : List (Item T)) (j : ℕ) (n : Item T) (c : ℕ) → Distinct L →
      chain_at L j ≡ Some n.chain → first_in (placed L j n) c ≡ past j (Some n.key) (first_in L c)
  first_in-placed [] j n c d h = refl
  first_in-placed (x ∷ xs) j n c d h = split (x.key == j)
      (λ e.
      let none : item_at xs j ≡ None = ap (item_at xs) (sym (eqb-true x.key j e)) ∙ d.0 in
      let same : Some x.chain ≡ Some n.chain = rw e at h in
      let one : n.chain ≡ x.chain = cc in
      split (x.chain == c)
      (λ f. rw (e, one, f, e) refl)
      (λ f. rw (e, one, f) (sym (past_other j (Some n.key) _ (not-first xs c j d.1 none)))))
      (λ e. split (x.chain == c)
      (λ f. rw (e, f, e) refl)
      (λ f. rw (e, f) (first_in-placed xs j n c d.1 (rw e at h))))

  pub next_after-placed_other : (L : List (Item T)) (j : ℕ) (n : Item T) (k : ℕ) → Distinct L →
      chain_at L j ≡ Some n.chain → n.key ≢ k →
      next_after (placed L j n) k ≡ past j (Some n.key) (next_after L k)
  next_after-placed_other [] j n k d h ne = refl
  next_after-placed_other (x ∷ xs) j n k d h ne = split (x.key == j)
      (λ e.
      let none : item_at xs j ≡ None = ap (item_at xs) (sym (eqb-true x.key j e)) ∙ d.0 in
      split (x.key == k)
      (λ f. rw (e, ne_eqb n.key k ne, f) (sym (past_other j (Some n.key) _ (not-first xs x.chain j d.1 none))))
      (λ f. rw (e, ne_eqb n.key k ne, f) (sym (past_other j (Some n.key) _ (not-next xs k j d.1 none)))))
      (λ e. split (x.key == k)
      (λ f. rw (e, f) (first_in-placed xs j n x.chain d.1 (rw e at h)))
      (λ f. rw (e, f) (next_after-placed_other xs j n k d.1 (rw e at h) ne)))

  pub next_after-placed_same : (L : List (Item T)) (j : ℕ) (n : Item T) → item_at L n.key ≡ None →
      chain_at L j ≡ Some n.chain → next_after (placed L j n) n.key ≡ Some j
  next_after-placed_same [] j n fresh h = absurd (cc)
  next_after-placed_same (x ∷ xs) j n fresh h = split (x.key == j)
      (λ e.
      let same : Some x.chain ≡ Some n.chain = rw e at h in
      let one : x.chain ≡ n.chain = cc in
      rw (e, eq-eqb n.key n.key refl, eq-eqb x.chain n.chain one) (ap Some (eqb-true x.key j e)))
      (λ e. split (x.key == n.key)
      (λ f. let gone = rw f at fresh in absurd (cc))
      (λ f. rw (e, f) (next_after-placed_same xs j n (rw f at fresh) (rw e at h))))

  -- what led to the other leads to the new one, and nothing else changes
  pub placed_cases : (L : List (Item T)) (j : ℕ) (n : Item T) (k : ℕ) → Distinct L →
      chain_at L j ≡ Some n.chain → n.key ≢ k →
      ((next_after L k ≡ Some j) × (next_after (placed L j n) k ≡ Some n.key)) ⊎
      ((next_after L k ≢ Some j) × (next_after (placed L j n) k ≡ next_after L k))
  placed_cases L j n k d h ne = elim (key_cases (next_after L k) j) [
    | inl e ↦ inl (e, next_after-placed_other L j n k d h ne ∙ past_same j _ _ e)
    | inr e ↦ inr (e, next_after-placed_other L j n k d h ne ∙ past_other j _ _ e)
  ]

  -- an item came in before another of its chain
  pub record Placed (old new : Seen T) (n : Item T) (j : ℕ) : Type 0 where
    pub fresh : old.item n.key ≡ None
    pub home : option_map (λ (x : Item T). x.chain) (old.item j) ≡ Some n.chain
    pub item_here : new.item n.key ≡ Some n
    pub item_else : (k : ℕ) → n.key ≢ k → new.item k ≡ old.item k
    pub behind_here : new.behind n.key ≡ Some j
    pub behind_before : (k : ℕ) → n.key ≢ k → old.before j ≡ Some k → new.behind k ≡ Some n.key
    pub behind_else : (k : ℕ) → n.key ≢ k → old.before j ≢ Some k → new.behind k ≡ old.behind k
    pub before_here : new.before n.key ≡ old.before j
    pub before_next : new.before j ≡ Some n.key
    pub before_else : (k : ℕ) → n.key ≢ k → k ≢ j → new.before k ≡ old.before k
    pub first : (c : ℕ) → new.first c ≡ past j (Some n.key) (old.first c)
    pub last : (c : ℕ) → new.last c ≡ old.last c

  pub linked-placed : (old new : Seen T) (n : Item T) (j : ℕ) (L : List (Item T)) → Linked old L →
      Placed old new n j → Linked new (placed L j n)
  linked-placed old new n j L s p =
      let i = n.key in
      let M = placed L j n in
      let fresh : item_at L i ≡ None = sym (s.item i) ∙ p.fresh in
      let home : chain_at L j ≡ Some n.chain = ap (option_map (λ (x : Item T). x.chain)) (sym (s.item j))
      ∙ p.home in
      let homeless : chain_at L i ≡ None = ap (option_map (λ (x : Item T). x.chain)) fresh in
      let apart : i ≢ j = λ same. let a = ap (chain_at L) same in cc in
      let ends : next_after L i ≡ None = none-next L i fresh in
      let next_i : next_after M i ≡ Some j = next_after-placed_same L j n fresh home in
      let cases : (k : ℕ) → i ≢ k → ((next_after L k ≡ Some j) × (next_after M k ≡ Some i)) ⊎
      ((next_after L k ≢ Some j) × (next_after M k ≡ next_after L k)) =
      λ k ne. placed_cases L j n k s.distinct home ne in
      let leads : (o k : ℕ) → next_after L o ≡ Some k → i ≢ o = λ o k led same. let a =
      ap (next_after L) same in cc in
      let kept : (k : ℕ) → i ≢ k → chain_at M k ≡ chain_at L k =
      λ k ne. ap (option_map (λ (x : Item T). x.chain)) (item_at-placed_other L j n k ne) in
      record {
        distinct = Distinct-placed L j n s.distinct fresh;
        item = λ k. elim (cases_eq i k) [
          | inl e ↦ ap new.item (sym e) ∙ p.item_here ∙ sym (item_at-placed_same L j n fresh home)
              ∙ ap (item_at M) e
          | inr ne ↦ p.item_else k ne ∙ s.item k ∙ sym (item_at-placed_other L j n k ne)
        ];
        behind = λ k. elim (cases_eq i k) [
          | inl e ↦ ap new.behind (sym e) ∙ p.behind_here ∙ sym next_i ∙ ap (next_after M) e
          | inr ne ↦ elim (cases k ne) [
            | inl h ↦ p.behind_before k ne ((s.before j k).1 h.0) ∙ sym h.1
            | inr h ↦ p.behind_else k ne (λ b. h.0 ((s.before j k).0 b)) ∙ s.behind k ∙ sym h.1
          ]
        ];
        before = λ k o. elim (cases_eq i k) [
          | inl e ↦ (
            λ (was : new.before k ≡ Some o).
                let led : next_after L o ≡ Some j = (s.before j o).0 (sym p.before_here ∙ ap new.before e ∙ was) in
                elim (cases o (leads o j led)) [
                  | inl h ↦ h.1 ∙ ap Some e
                  | inr h ↦ absurd (h.0 led)
                ],
            λ (next : next_after M o ≡ Some k). elim (cases_eq i o) [
              | inl same ↦ absurd (apart (let a = ap (next_after M) same in cc))
              | inr ne ↦ elim (cases o ne) [
                | inl h ↦ ap new.before (sym e) ∙ p.before_here ∙ (s.before j o).1 h.0
                | inr h ↦ absurd (not-next L o i s.distinct fresh (sym h.1 ∙ next ∙ ap Some (sym e)))
              ]
            ],
          )
          | inr ne ↦ elim (cases_eq k j) [
            | inl here ↦ (
              λ (was : new.before k ≡ Some o).
                  let same : i ≡ o = (let a = sym p.before_next ∙ ap new.before (sym here) ∙ was in cc) in
                  ap (next_after M) (sym same) ∙ next_i ∙ ap Some (sym here),
              λ (next : next_after M o ≡ Some k). elim (cases_eq i o) [
                | inl same ↦ ap new.before here ∙ p.before_next ∙ ap Some same
                | inr other ↦ elim (cases o other) [
                  | inl h ↦ absurd (ne (let a = h.1 in cc))
                  | inr h ↦ absurd (h.0 (sym h.1 ∙ next ∙ ap Some here))
                ]
              ],
            )
            | inr away ↦ (
              λ (was : new.before k ≡ Some o).
                  let led : next_after L o ≡ Some k = (s.before k o).0 (sym (p.before_else k ne away) ∙ was) in
                  elim (cases o (leads o k led)) [
                    | inl h ↦ absurd (away (let a = h.0 in cc))
                    | inr h ↦ h.1 ∙ led
                  ],
              λ (next : next_after M o ≡ Some k). p.before_else k ne away ∙ elim (cases_eq i o) [
                | inl same ↦ absurd (away (let a = ap (next_after M) same in cc))
                | inr other ↦ elim (cases o other) [
                  | inl h ↦ absurd (ne (let a = h.1 in cc))
                  | inr h ↦ (s.before k o).1 (sym h.1 ∙ next)
                ]
              ],
            )
          ]
        ];
        first = λ c. p.first c ∙ ap (past j (Some i)) (s.first c) ∙ sym (first_in-placed L j n c s.distinct home);
        last = λ c k. (
          λ (was : new.last c ≡ Some k).
              let is : IsLast L c k = (s.last c k).0 (sym (p.last c) ∙ was) in
              let ne : i ≢ k = λ same. let a = ap (chain_at L) same in let b = is.0 in cc in (
                kept k ne ∙ is.0,
                elim (cases k ne) [
                  | inl h ↦ absurd (let a = h.0 in let b = is.1 in cc)
                  | inr h ↦ h.1 ∙ is.1
                ],
              ),
          λ (is : IsLast M c k). elim (cases_eq i k) [
            | inl same ↦ absurd (let a = ap (next_after M) same in let b = is.1 in cc)
            | inr ne ↦ elim (cases k ne) [
              | inl h ↦ absurd (let a = h.1 in let b = is.1 in cc)
              | inr h ↦ p.last c ∙ (s.last c k).1 (sym (kept k ne) ∙ is.0, sym h.1 ∙ is.1)
            ]
          ],
        );
      }

  first-of-other : (s : Seen T) (L : List (Item T)) (j c d : ℕ) → Linked s L → chain_at L j ≡ Some d → c ≢ d →
      s.first c ≢ Some j
  first-of-other s L j c d l home ne h =
      let there = first_in-chain L c j l.distinct (sym (l.first c) ∙ h) in ne (cc)

  pub inserted : (old mid low new : Slab (Node T)) (ends later : List Ends) (key next : ℕ) (node : Node T)
      (value : T) (L : List (Item T)) → Linked (seen_in old.slots ends) L → get old next ≡ Some node →
      get old key ≡ None → Updates old mid key (Some (record {
        chain = node.chain;
        value = value;
        before =
            node.before;
        behind = Some next;
      })) → SetsBehind mid.slots low.slots node.before (Some key) →
      SetsBefore low.slots new.slots (Some next) (Some key) → node.chain < length ends →
      GivesEnds ends later node.chain (record {
        first =
            past next (Some key) (end_at ends node.chain).first;
        last = (end_at ends node.chain).last;
      }) →
      Linked (seen_in new.slots later) (inserted_before L next key value)
  inserted old mid low new ends later key next node value L l was vacant u b f in_range e =
      let n : Item T = record { key = key; chain = node.chain; value = value } in
      let s = seen_in old.slots ends in
      let t = seen_in new.slots later in
      let fresh : s.item key ≡ None = ap (option_map (item_of key)) vacant in
      let before : s.before next ≡ node.before = ap (option_and_then (λ (x : Node T). x.before)) was in
      let there : s.item next ≡ Some (item_of next node) = ap (option_map (item_of next)) was in
      let home : chain_at L next ≡ Some node.chain =
      ap (option_map (λ (x : Item T). x.chain)) (sym (l.item next) ∙ there) in
      let apart : key ≢ next = λ same. let a = ap s.item same in cc in
      let other : (k : ℕ) → key ≢ k → get mid k ≡ get old k = λ k ne. u.others k (λ same. ne (sym same)) in
      let items : (k : ℕ) → key ≢ k → t.item k ≡ s.item k = λ k ne. f.items k ∙ b.items k
      ∙ ap (option_map (item_of k)) (other k ne) in
      let not_before : node.before ≢ Some key = λ h. before-there s L next key l (before ∙ h) fresh in
      let first_of : (c : ℕ) → t.first c ≡ past next (Some key) (s.first c) = λ c. elim (cases_eq c node.chain) [
        | inl same ↦ ap t.first same ∙ ap (λ (x : Ends). x.first) (e.there in_range)
            ∙ ap (λ d. past next (Some key) (s.first d)) (sym same)
        | inr ne ↦ ap (λ (x : Ends). x.first) (e.others c (λ same. ne (sym same)))
            ∙ sym (past_other next (Some key) (s.first c) (first-of-other s L next c node.chain l home ne))
      ] in
      let last_of : (c : ℕ) → t.last c ≡ s.last c = λ c. elim (cases_eq c node.chain) [
        | inl same ↦ ap t.last same ∙ ap (λ (x : Ends). x.last) (e.there in_range) ∙ ap s.last (sym same)
        | inr ne ↦ ap (λ (x : Ends). x.last) (e.others c (λ same. ne (sym same)))
      ] in
      rw (placed_in_chain L next n home) (linked-placed s t n next L l (record {
        fresh = fresh;
        home = ap (option_map (λ (x : Item T). x.chain)) there;
        item_here = f.items key ∙ b.items key ∙ ap (option_map (item_of key)) u.changed;
        item_else = items;
        behind_here = f.behind key ∙ b.others key not_before
            ∙ ap (option_and_then (λ (x : Node T). x.behind)) u.changed;
        behind_before = λ k ne h. f.behind k
            ∙ b.there k (sym before ∙ h) (λ none. before-there s L next k l h
            (sym (ap (option_map (item_of k)) (other k ne)) ∙ none));
        behind_else = λ k ne h. f.behind k ∙ b.others k (λ same. h (before ∙ same))
            ∙ ap (option_and_then (λ (x : Node T). x.behind)) (other k ne);
        before_here = f.others key (λ same. apart (cc)) ∙ b.before key
            ∙ ap (option_and_then (λ (x : Node T). x.before)) u.changed ∙ sym before;
        before_next = f.there next refl (λ none. let a =
            sym (b.items next ∙ ap (option_map (item_of next)) (other next apart)) ∙ none in cc);
        before_else = λ k ne away. f.others k (λ same. away (cc)) ∙ b.before k
            ∙ ap (option_and_then (λ (x : Node T). x.before)) (other k ne);
        first = first_of;
        last = last_of;
      }))

  pub within-inserted : (L : List (Item T)) (next key chain : ℕ) (value : T) (old new : ℕ) →
      chain_at L next ≡ Some chain → item_at L key ≡ None → Within L old → new ≡ old →
      Within (inserted_before L next key value) new
  within-inserted L next key chain value old new home fresh w e k c there =
      let n : Item T = record { key = key; chain = chain; value = value } in
      let M = placed L next n in
      let here : chain_at M k ≡ Some c = ap (λ l. chain_at l k) (sym (placed_in_chain L next n home)) ∙ there in
      rw e (elim (cases_eq key k) [
        | inl same ↦
            let mine : Some chain ≡ Some c =
            ap (option_map (λ (x : Item T). x.chain)) (sym (item_at-placed_same L next n fresh home))
            ∙ ap (chain_at M) same ∙ here in
            w next c (home ∙ mine)
        | inr ne ↦ w k c (ap (option_map (λ (x : Item T). x.chain)) (sym (item_at-placed_other L next n k ne))
            ∙ here)
      ])
