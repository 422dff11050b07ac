-- Settings that are written are read back.
use Rattle.std.proofs.Common.{◌≡◌, ◌∙◌, ◌<◌, ◌≤◌, ◌+◌, inl, inr, ℕ, Bool, true, false, cond, List, [], ◌∷◌, Option}
use Rattle.std.proofs.Common.{Some, None, refl, sym, ap, ap₂, subst, arith, is_eq}
use Rattle.std.specs.Prelude.{◌==◌, ◌&&◌, find, bytes_eq, nat_lt}
use Rattle.std.specs.Bool.{Decides, one_answer}
use Rattle.std.specs.List.{filter_map, cons_option}
use Rattle.std.specs.Option.{option_map}
use Rattle.std.specs.Ordering.{nat_cmp, match_ordering}
use Rattle.std.specs.Cmp.Lexicographic.{slice_cmp}
use Rattle.std.specs.declared.cmp.Ordering.{Ordering}
use Rattle.std.specs.declared.cmp.Ordering.TheVariants.{Less, Equal, Greater}
use Rattle.std.proofs.Math.Nat.{eq-or-lt_of_le}
use Rattle.std.proofs.lemmas.Bool.{cond-true, cond-false, ltb-true, lt-ltb}
use Rattle.std.proofs.lemmas.Bool.Decides.{nat_tests}
use Rattle.std.proofs.lemmas.Map.Text.{is_eq-slice_cmp}
use Rattle.std.proofs.lemmas.Slice.Eq.{bytes_eq-Decides}
use Rattle.serde_json.specs.Find.{get_member}
use Rattle.sp_config.specs.declared.attr.Attr.{Attr}
use Rattle.sp_config.specs.declared.attr.Attr.TheVariants as attr
use Rattle.sp_config.specs.declared.setting.Setting.{Setting}
use Rattle.sp_config.specs.Names.{name_of, all_attrs, attr_named}
use Rattle.sp_config.specs.Settings.{number_of, rise_above}
use Rattle.sp_flowline.specs.Written.{value_data, settings_members}

pub both : (a b : Bool) → (a && b) ≡ true → (a ≡ true) × (b ≡ true)
both true b h = (refl, h)
both false b h = absurd (cc)

is_same : (m n : ℕ) → m ≡ n → (m == n) ≡ true
is_same m n e = grind (arith, nat_tests)

is_above : (m n : ℕ) → n < m → (m == n) ≡ false
is_above m n h = grind (arith, nat_tests)

is_below : (m n : ℕ) → m < n → (m == n) ≡ false
is_below m n h = grind (arith, nat_tests)

pub was_same : (m n : ℕ) → (m == n) ≡ true → m ≡ n
was_same m n h = grind (arith, nat_tests)

pub by_name : (a : Attr) → attr_named (name_of a) ≡ Some a
by_name attr.AccessType = refl
by_name attr.DeadMsgQueue = refl
by_name attr.EgressEnabled = refl
by_name attr.IngressEnabled = refl
by_name attr.MaxBindCount = refl
by_name attr.MaxDeliveredUnackedMsgsPerFlow = refl
by_name attr.MaxMsgSize = refl
by_name attr.MaxMsgSpoolUsage = refl
by_name attr.MaxRedeliveryCount = refl
by_name attr.MaxTtl = refl
by_name attr.Owner = refl
by_name attr.PartitionCount = refl
by_name attr.Permission = refl
by_name attr.RejectMsgToSenderOnDiscardBehavior = refl
by_name attr.RespectTtlEnabled = refl

by_number : (a : Attr) → find (λ (b : Attr). number_of b == number_of a) all_attrs ≡ Some a
by_number attr.AccessType = refl
by_number attr.DeadMsgQueue = refl
by_number attr.EgressEnabled = refl
by_number attr.IngressEnabled = refl
by_number attr.MaxBindCount = refl
by_number attr.MaxDeliveredUnackedMsgsPerFlow = refl
by_number attr.MaxMsgSize = refl
by_number attr.MaxMsgSpoolUsage = refl
by_number attr.MaxRedeliveryCount = refl
by_number attr.MaxTtl = refl
by_number attr.Owner = refl
by_number attr.PartitionCount = refl
by_number attr.Permission = refl
by_number attr.RejectMsgToSenderOnDiscardBehavior = refl
by_number attr.RespectTtlEnabled = refl

few : (a : Attr) → number_of a ≤ 15
few attr.AccessType = omega arith
few attr.DeadMsgQueue = omega arith
few attr.EgressEnabled = omega arith
few attr.IngressEnabled = omega arith
few attr.MaxBindCount = omega arith
few attr.MaxDeliveredUnackedMsgsPerFlow = omega arith
few attr.MaxMsgSize = omega arith
few attr.MaxMsgSpoolUsage = omega arith
few attr.MaxRedeliveryCount = omega arith
few attr.MaxTtl = omega arith
few attr.Owner = omega arith
few attr.PartitionCount = omega arith
few attr.Permission = omega arith
few attr.RejectMsgToSenderOnDiscardBehavior = omega arith
few attr.RespectTtlEnabled = omega arith

one_attr : (a b : Attr) → Some a ≡ Some b → a ≡ b
one_attr a b e = cc

pub one_number : (a b : Attr) → number_of a ≡ number_of b → a ≡ b
one_number a b e =
    one_attr a b (sym (by_number a) ∙ ap (λ n. find (λ (c : Attr). number_of c == n) all_attrs) e ∙ by_number b)

-- two names are the same exactly where the numbers are
one_name : (a b : Attr) → bytes_eq (name_of a) (name_of b) ≡ (number_of b == number_of a)
one_name a b =
    let named : Decides (bytes_eq (name_of a) (name_of b)) (a ≡ b) = (
      λ h. one_attr a b (sym (by_name a) ∙ ap attr_named ((bytes_eq-Decides (name_of a) (name_of b)).0 h) ∙ by_name b),
      λ e. (bytes_eq-Decides (name_of a) (name_of b)).1 (ap name_of e),
    ) in
    let numbered : Decides (number_of b == number_of a) (a ≡ b) = (
      λ h. one_number a b (sym (was_same (number_of b) (number_of a) h)),
      λ e. is_same (number_of b) (number_of a) (sym (ap number_of e)),
    ) in
    one_answer (bytes_eq (name_of a) (name_of b)) (number_of b == number_of a) named numbered

-- the setting of an attribute
unfoldable pub picked : List Setting → Attr → Option Setting
picked settings a = find (λ s. number_of s.attr == number_of a) settings

by_order : {X : Type 0} (o : Ordering) (x y : X) → match_ordering o x y x ≡ cond (is_eq o) y x
by_order Less x y = refl
by_order Equal x y = refl
by_order Greater x y = refl

-- what is found under an attribute's name
pub found : (settings : List Setting) (a : Attr)
    → get_member (name_of a) (settings_members settings)
    ≡ option_map (λ s. value_data s.attr s.value) (picked settings a)
unfolding picked
found [] a = refl
found (s ∷ rest) a =
    let more = found rest a in
    let same = is_eq-slice_cmp (name_of a) (name_of s.attr) ∙ one_name a s.attr in
    by_order (slice_cmp nat_cmp (name_of a) (name_of s.attr)) (get_member (name_of a) (settings_members rest))
    (Some (value_data s.attr s.value))
    ∙ ap (λ (b : Bool). cond b (Some (value_data s.attr s.value)) (get_member (name_of a) (settings_members rest))) same
    ∙ chosen (number_of s.attr == number_of a) more
  where
    chosen : (b : Bool) → get_member (name_of a) (settings_members rest)
        ≡ option_map (λ (s : Setting). value_data s.attr s.value) (picked rest a)
        → cond b (Some (value_data s.attr s.value)) (get_member (name_of a) (settings_members rest))
        ≡ option_map (λ (s : Setting). value_data s.attr s.value) (cond b (Some s) (picked rest a))
    chosen true h = refl
    chosen false h = h

-- no setting of an attribute before them
none_found : (k n : ℕ) (settings : List Setting) → k ≤ n → rise_above n settings ≡ true
    → find (λ (s : Setting). number_of s.attr == k) settings ≡ None
none_found k n [] le h = refl
none_found k n (s ∷ rest) le h =
    let parts = both (nat_lt n (number_of s.attr)) (rise_above (number_of s.attr) rest) h in
    let less = ltb-true n (number_of s.attr) parts.0 in
    cond-false _ _ _ (is_above (number_of s.attr) k (omega arith))
    ∙ none_found k (number_of s.attr) rest (omega arith) parts.1

-- attributes with the numbers from one after n to the last
follow : ℕ → List Attr → Bool
follow n [] = n == 15
follow n (a ∷ attrs) = (number_of a == n + 1) && follow (n + 1) attrs

skip : (s : Setting) (settings : List Setting) (n : ℕ) (attrs : List Attr) → follow n attrs ≡ true
    → number_of s.attr ≤ n → filter_map (picked (s ∷ settings)) attrs ≡ filter_map (picked settings) attrs
unfolding follow picked
skip s settings n [] h le = refl
skip s settings n (a ∷ attrs) h le =
    let parts = both (number_of a == n + 1) (follow (n + 1) attrs) h in
    let number = was_same (number_of a) (n + 1) parts.0 in
    ap₂ cons_option (cond-false _ _ _ (is_below (number_of s.attr) (number_of a) (omega arith)))
    (skip s settings (n + 1) attrs parts.1 (omega arith))

walk : (n : ℕ) (attrs : List Attr) (settings : List Setting) → follow n attrs ≡ true → rise_above n settings ≡ true
    → filter_map (picked settings) attrs ≡ settings
unfolding follow picked
walk n [] [] h r = refl
walk n [] (s ∷ rest) h r =
    let rises = both (nat_lt n (number_of s.attr)) (rise_above (number_of s.attr) rest) r in
    let less = ltb-true n (number_of s.attr) rises.0 in
    let last = was_same n 15 h in
    let most = few s.attr in
    absurd (omega arith)
walk n (a ∷ attrs) [] h r = walk (n + 1) attrs [] (both (number_of a == n + 1) (follow (n + 1) attrs) h).1 refl
walk n (a ∷ attrs) (s ∷ rest) h r =
    let parts = both (number_of a == n + 1) (follow (n + 1) attrs) h in
    let number = was_same (number_of a) (n + 1) parts.0 in
    let rises = both (nat_lt n (number_of s.attr)) (rise_above (number_of s.attr) rest) r in
    let less = ltb-true n (number_of s.attr) rises.0 in
    let after : n + 1 ≤ number_of s.attr = omega arith in
    let here : n + 1 ≡ number_of s.attr → filter_map (picked (s ∷ rest)) (a ∷ attrs) ≡ s ∷ rest = λ e.
    ap₂ cons_option (cond-true _ _ _ (is_same (number_of s.attr) (number_of a) (sym e ∙ sym number)))
    (skip s rest (n + 1) attrs parts.1 (omega arith)
    ∙ walk (n + 1) attrs rest parts.1 (subst (λ (m : ℕ). rise_above m rest ≡ true) (sym e) rises.1)) in
    let beyond : n + 1 < number_of s.attr → filter_map (picked (s ∷ rest)) (a ∷ attrs) ≡ s ∷ rest = λ far.
    let rise : rise_above (n + 1) (s ∷ rest) ≡ true = rw (lt-ltb (n + 1) (number_of s.attr) far) rises.1 in
    ap₂ cons_option (none_found (number_of a) (n + 1) (s ∷ rest) (omega arith) rise)
    (walk (n + 1) attrs (s ∷ rest) parts.1 rise) in
    elim (eq-or-lt_of_le after) [ inl e ↦ here e | inr far ↦ beyond far ]

pub all_picked : (settings : List Setting) → rise_above 0 settings ≡ true
    → filter_map (picked settings) all_attrs ≡ settings
unfolding follow
all_picked settings r = walk 0 all_attrs settings refl r
