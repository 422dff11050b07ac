-- What a changed row makes of a tree over the places of deadlines, and what its root has.
use Rattle.std.proofs.Common.{◌≡◌, ◌≢◌, ◌<◌, ◌≤◌, ◌+◌, ◌-◌, ◌*◌, ◌/◌, ℕ, zero, suc, List, Option, Some, None, length, true, false, refl, ap, sym, ◌∙◌, arith, inl, inr, ◌⊎◌}
use Rattle.std.specs.Prelude.{nat_lt, slice_set}
use Rattle.std.proofs.lemmas.List.{get_or-set_same, get_or-set_other, get_or_past, length-set}
use Rattle.std.proofs.lemmas.Bool.{lt-ltb, ltb-true, cases_eq}
use Rattle.sp_chain.specs.declared.deadline.Deadline.{Deadline}
use Rattle.sp_chain.specs.Deadlines.{Has, IsFirst, at, earlier, is_before}
use Rattle.sp_chain.specs.Tournament.{IsRight, IsRightBut, IsTournament, node}
use Rattle.sp_chain.proofs.Lists.{split}

abbrev pub Row : Type 0
Row = Option Deadline

-- the order
before_self : (d : Deadline) → is_before d d ≡ false
before_self d = grind arith

before_more : (d e f : Deadline) → is_before e d ≡ false → is_before f e ≡ false → is_before f d ≡ false
before_more d e f a b = grind arith

before_both : (d e : Deadline) → is_before e d ≡ true → is_before d e ≡ false
before_both d e h = grind arith

-- what is no later than the first of two
abbrev pub UpTo : Row → Deadline → Type 0
UpTo row e = (d : Deadline) × (row ≡ Some d) × (is_before e d ≡ false)

earlier_left : (e : Deadline) (b : Row) → UpTo (earlier (Some e) b) e
earlier_left e None = (e, refl, before_self e)
earlier_left e (Some b) = split (is_before b e) (λ h. rw h (b, refl, before_both e b h)) (λ h. rw h (
  e,
  refl,
  before_self e,
))

earlier_right : (e : Deadline) (a : Row) → UpTo (earlier a (Some e)) e
earlier_right e None = (e, refl, before_self e)
earlier_right e (Some a) = split (is_before e a) (λ h. rw h (e, refl, before_self e)) (λ h. rw h (a, refl, h))

earlier_one : (a b : Row) (d : Deadline) → earlier a b ≡ Some d → (a ≡ Some d) ⊎ (b ≡ Some d)
earlier_one None b d h = inr h
earlier_one (Some a) None d h = inl h
earlier_one (Some a) (Some b) d h = split (is_before b a) (λ e. inr (rw e at h)) (λ e. inl (rw e at h))

-- a node is an inner one or a leaf
node_inner : (inner leaves : List Row) (n : ℕ) → n < length leaves → node inner leaves n ≡ at inner n
node_inner inner leaves n h = rw (lt-ltb n (length leaves) h) refl

not_below : (n m : ℕ) → m ≤ n → nat_lt n m ≡ false
not_below n m h = grind arith

node_outer : (inner leaves : List Row) (n : ℕ) → length leaves ≤ n →
    node inner leaves n ≡ at leaves (n - length leaves)
node_outer inner leaves n h = rw (not_below n (length leaves) h) refl

node_leaf : (inner leaves : List Row) (place : ℕ) → node inner leaves (length leaves + place) ≡ at leaves place
node_leaf inner leaves place =
    let e : length leaves + place - length leaves ≡ place = omega arith in
    node_outer inner leaves (length leaves + place) (omega arith) ∙ ap (at leaves) e

-- a row that changes is seen by its own node alone
node_inner_set : (inner leaves : List Row) (i n : ℕ) (x : Row) → n ≢ i →
    node (slice_set inner i x) leaves n ≡ node inner leaves n
node_inner_set inner leaves i n x ne =
    split (nat_lt n (length leaves)) (λ e. rw e (get_or-set_other inner i n x None ne)) (λ e. rw e refl)

node_leaf_set : (inner leaves : List Row) (place n : ℕ) (x : Row) → n ≢ length leaves + place →
    node inner (slice_set leaves place x) n ≡ node inner leaves n
node_leaf_set inner leaves place n x ne =
    rw (length-set leaves place x)
    (split (nat_lt n (length leaves)) (λ e. rw e refl)
    (λ e. rw e (get_or-set_other leaves place (n - length leaves) x None
    (λ same. let above : length leaves ≤ n = grind arith in ne (omega (arith, same, above))))))

pub right_other : (inner leaves : List Row) (i n : ℕ) (x : Row) → n ≢ i → 2 * n ≢ i → 2 * n + 1 ≢ i →
    IsRight inner leaves n → IsRight (slice_set inner i x) leaves n
right_other inner leaves i n x ne left right h =
    rw (
      get_or-set_other inner i n x None ne,
      node_inner_set inner leaves i (2 * n) x left,
      node_inner_set inner leaves i (2 * n + 1) x right,
    ) h

pub right_here : (inner leaves : List Row) (i : ℕ) (x : Row) → 1 ≤ i → i < length inner →
    x ≡ earlier (node inner leaves (2 * i)) (node inner leaves (2 * i + 1)) →
    IsRight (slice_set inner i x) leaves i
right_here inner leaves i x one lt h =
    rw (
      get_or-set_same inner i x None lt,
      node_inner_set inner leaves i (2 * i) x (λ e. absurd (omega (arith, e, one))),
      node_inner_set inner leaves i (2 * i + 1) x (λ e. absurd (omega (arith, e, one))),
    ) h

pub right_leaf : (inner leaves : List Row) (place n : ℕ) (x : Row) → 2 * n ≢ length leaves + place →
    2 * n + 1 ≢ length leaves + place → IsRight inner leaves n → IsRight inner (slice_set leaves place x) n
right_leaf inner leaves place n x left right h =
    rw (node_leaf_set inner leaves place (2 * n) x left, node_leaf_set inner leaves place (2 * n + 1) x right) h

-- after a leaf changed, all are right but the node above it
pub but_above : (inner leaves : List Row) (place : ℕ) (x : Row) → IsTournament inner leaves →
    IsRightBut inner (slice_set leaves place x) ((length leaves + place) / 2)
but_above inner leaves place x t n one lt ne =
    right_leaf inner leaves place n x (λ e. ne (omega (arith, e))) (λ e. ne (omega (arith, e)))
    (t.right n one (rw (length-set leaves place x) at lt))

-- after a node was made right, all are but the one above it
pub but_next : (inner leaves : List Row) (i : ℕ) (x : Row) → 1 ≤ i → i < length inner →
    x ≡ earlier (node inner leaves (2 * i)) (node inner leaves (2 * i + 1)) → IsRightBut inner leaves i →
    IsRightBut (slice_set inner i x) leaves (i / 2)
but_next inner leaves i x one lt e h n first below ne =
    elim (cases_eq n i) [
      | inl same ↦ rw same (right_here inner leaves i x one lt e)
      | inr other ↦ right_other inner leaves i n x other (λ a. ne (omega (arith, a)))
          (λ a. ne (omega (arith, a))) (h n first below other)
    ]

-- the last nodes are right, so many as are below the number
abbrev pub RightBehind : List Row → List Row → ℕ → Type 0
RightBehind inner leaves back = (n : ℕ) → 1 ≤ n → n < length leaves → length leaves < n + back →
    IsRight inner leaves n

pub behind_next : (inner leaves : List Row) (back : ℕ) (x : Row) → back < length leaves →
    length inner ≡ length leaves →
    x ≡ earlier (node inner leaves (2 * (length leaves - back)))
    (node inner leaves (2 * (length leaves - back) + 1)) →
    RightBehind inner leaves back → RightBehind (slice_set inner (length leaves - back) x) leaves (back + 1)
behind_next inner leaves back x below len e h n first lt far =
    let i = length leaves - back in
    elim (cases_eq n i) [
      | inl same ↦ rw same (right_here inner leaves i x (omega (arith, below)) (omega (
        arith,
        below,
        len,
        first,
        far,
      )) e)
      | inr other ↦ right_other inner leaves i n x other (λ a. other (omega (arith, a, far, first, below)))
          (λ a. other (omega (arith, a, far, first, below))) (h n first lt (let apart = other in
          omega (arith, far, below, apart)))
    ]

-- what is there stands within the leaves
not_less : (n m : ℕ) → nat_lt n m ≡ false → m ≤ n
not_less n m h = grind arith

within : (leaves : List Row) (place : ℕ) (e : Deadline) → at leaves place ≡ Some e → place < length leaves
within leaves place e h =
    split (nat_lt place (length leaves)) (λ lt. ltb-true place (length leaves) lt)
    (λ ge. let none = get_or_past leaves place None (not_less place (length leaves) ge) in absurd (cc))

-- what is above a node that has something is an inner one
parent_inner : (inner leaves : List Row) (n : ℕ) (e : Deadline) → node inner leaves n ≡ Some e →
    n / 2 < length leaves
parent_inner inner leaves n e h =
    split (nat_lt (n / 2) (length leaves)) (λ lt. ltb-true (n / 2) (length leaves) lt)
    (λ ge.
    let far = not_less (n / 2) (length leaves) ge in
    let outer = node_outer inner leaves n (omega (arith, far)) in
    let near = within leaves (n - length leaves) e (sym outer ∙ h) in
    absurd (omega (arith, far, near)))

-- a node above another has nothing that comes after what that one has
parent_first : (inner leaves : List Row) (m n : ℕ) (e : Deadline) → IsRight inner leaves m →
    m < length leaves → (n ≡ 2 * m) ⊎ (n ≡ 2 * m + 1) → node inner leaves n ≡ Some e →
    UpTo (node inner leaves m) e
parent_first inner leaves m n e right lt (inl left) h =
    rw (
      node_inner inner leaves m lt,
      right,
      ap (node inner leaves) (sym left)
          ∙ h,
    ) (earlier_left e (node inner leaves (2 * m + 1)))
parent_first inner leaves m n e right lt (inr other) h =
    rw (
      node_inner inner leaves m lt,
      right,
      ap (node inner leaves) (sym other)
          ∙ h,
    ) (earlier_right e (node inner leaves (2 * m)))

halves : (n : ℕ) → (n ≡ 2 * (n / 2)) ⊎ (n ≡ 2 * (n / 2) + 1)
halves n = elim (cases_eq n (2 * (n / 2))) [
  | inl same ↦ inl same
  | inr other ↦ inr (omega (arith, other))
]

-- no node has anything before what the root has
root_first : (inner leaves : List Row) → IsTournament inner leaves → (most n : ℕ) → n ≤ most → 1 ≤ n →
    (e : Deadline) → node inner leaves n ≡ Some e → UpTo (node inner leaves 1) e
root_first inner leaves t zero n up one e h = absurd (omega (arith, up, one))
root_first inner leaves t (suc most) n up one e h =
    elim (cases_eq n 1) [
      | inl same ↦ (e, rw same at h, before_self e)
      | inr other ↦
          let lt = parent_inner inner leaves n e h in
          let some : 1 ≤ n / 2 = omega (arith, one, other) in
          let above = parent_first inner leaves (n / 2) n e (t.right (n / 2) some lt) lt (halves n) h in
          let top = root_first inner leaves t most (n / 2) (omega (arith, up, one)) some above.0 above.1 in
          (top.0, top.1, before_more top.0 above.0 e top.2 above.2)
    ]

-- what a node has is at some place
has_leaf : (inner leaves : List Row) → IsTournament inner leaves → (most n : ℕ) →
    2 * length leaves ≤ n + most → 1 ≤ n → (d : Deadline) → node inner leaves n ≡ Some d → Has leaves d
has_leaf inner leaves t zero n up one d h =
    (n - length leaves, sym (node_outer inner leaves n (omega (arith, up))) ∙ h)
has_leaf inner leaves t (suc most) n up one d h =
    split (nat_lt n (length leaves))
    (λ less.
    let lt = ltb-true n (length leaves) less in
    let both = sym (t.right n one lt) ∙ sym (node_inner inner leaves n lt) ∙ h in
    elim (earlier_one (node inner leaves (2 * n)) (node inner leaves (2 * n + 1)) d both) [
      | inl a ↦ has_leaf inner leaves t most (2 * n) (omega (arith, up, one)) (omega (arith, one)) d a
      | inr b ↦ has_leaf inner leaves t most (2 * n + 1) (omega (arith, up, one)) (omega (arith, one)) d b
    ])
    (λ ge. (n - length leaves, sym (node_outer inner leaves n (not_less n (length leaves) ge)) ∙ h))

-- the root of a place's leaf
leaf_first : (inner leaves : List Row) → IsTournament inner leaves → (place : ℕ) (e : Deadline) →
    at leaves place ≡ Some e → UpTo (node inner leaves 1) e
leaf_first inner leaves t place e h =
    let near = within leaves place e h in
    root_first inner leaves t (length leaves + place) (length leaves + place) (omega arith) (omega (arith, near)) e
    (node_leaf inner leaves place ∙ h)

none_by : (row : Row) → ((e : Deadline) → row ≡ Some e → ⊥) → row ≡ None
none_by None h = refl
none_by (Some e) h = absurd (h e refl)

-- the root has the first of all
pub root_is_first : (inner leaves : List Row) → IsTournament inner leaves → (root : Row) →
    node inner leaves 1 ≡ root → IsFirst leaves root
root_is_first inner leaves t None h =
    λ place. none_by (at leaves place) (λ e is. let up = leaf_first inner leaves t place e is in let one =
    up.1 in cc)
root_is_first inner leaves t (Some d) h = (
  has_leaf inner leaves t (2 * length leaves) 1 (omega arith) (omega arith) d h,
  λ e has.
      let up = leaf_first inner leaves t has.0 e has.1 in
      let same : up.0 ≡ d = (let one = up.1 in cc) in
      rw same at up.2,
)
