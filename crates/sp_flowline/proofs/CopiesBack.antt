-- Copies, their fates and the causes of discards are told by what their JSON shows.
use Rattle.std.proofs.Common.{◌≡◌, ◌∙◌, ◌<◌, ℕ, zero, suc, Bool, true, false, List, [], ◌∷◌, Some, refl, ap, ap₂, subst}
use Rattle.std.proofs.Common.{arith, codes}
use Rattle.std.specs.Prelude.{◌||◌, not, nat_lt, fold, map, All, AllPairs, bytes_eq, if◌then◌else◌}
use Rattle.std.specs.List.{list_all, slice_get}
use Rattle.std.specs.Option.{option_and_then, unwrap_or}
use Rattle.std.specs.Ordering.{nat_cmp, match_ordering}
use Rattle.std.specs.Cmp.Lexicographic.{slice_cmp}
use Rattle.std.specs.declared.cmp.Ordering.{Ordering}
use Rattle.std.specs.declared.cmp.Ordering.TheVariants.{Less, Equal, Greater}
use Rattle.std.proofs.lemmas.Bool.{lt-ltb}
use Rattle.serde_json.specs.Data.{Data, Members, no_members, member, put}
use Rattle.serde_json.specs.View.{items_of}
use Rattle.serde_json.specs.Find.{as_number, as_u64}
use Rattle.sp_base.specs.Choice.{choice_named}
use Rattle.sp_copies.specs.Counts.{cause_place, all_causes}
use Rattle.sp_copies.specs.declared.closed.Cause.{Cause}
use Rattle.sp_copies.specs.declared.closed.Cause.TheVariants as causes
use Rattle.sp_copies.specs.declared.closed.CauseCount.{CauseCount}
use Rattle.sp_copies.specs.declared.closed.Fate.{Fate}
use Rattle.sp_copies.specs.declared.closed.Fate.TheVariants.{Never, Spooled, Accepted, Moved, Discarded, Earlier}
use Rattle.sp_event.specs.declared.answer.CopyFate.{CopyFate}
use Rattle.sp_event.specs.declared.answer.PublishedCopy.{PublishedCopy}
use Rattle.sp_json.specs.Fates.{cause_word}
use Rattle.sp_json.specs.Members.{whole}
use Rattle.sp_json.specs.Told.{told_data, fate_data, with_cause}
use Rattle.sp_flowline.proofs.MembersBack.{num, text, fields, list_of}
use Rattle.sp_flowline.proofs.SettingsPicked.{both}

-- ---- a list of values, each of which is told

pub each_back : {X : Type 0} (f : X → Data) (g : Data → X) (P : X → Type 0) → ((x : X) → P x → g (f x) ≡ x)
    → (xs : List X) → All P xs → map g (list_of (items_of (map f xs))) ≡ xs
each_back f g P one [] h = refl
each_back f g P one (x ∷ xs) h =
    ap₂ (λ y ys. y ∷ ys) (one x (h 0 x (omega arith))) (each_back f g P one xs (λ k d less. h (suc k) d (omega arith)))

pub every_back : {X : Type 0} (f : X → Data) (g : Data → X) → ((x : X) → g (f x) ≡ x) → (xs : List X)
    → map g (list_of (items_of (map f xs))) ≡ xs
every_back f g one [] = refl
every_back f g one (x ∷ xs) = ap₂ (λ y ys. y ∷ ys) (one x) (every_back f g one xs)

-- ---- fates

abbrev pub cause_of : List ℕ → Cause
cause_of word = unwrap_or (choice_named cause_word all_causes word) causes.Deleted

pub cause_back : (c : Cause) → cause_of (cause_word c) ≡ c
cause_back causes.NotSpooled = refl
cause_back causes.Expired = refl
cause_back causes.RedeliveryExceeded = refl
cause_back causes.Rejected = refl
cause_back causes.DmqMissing = refl
cause_back causes.DmqSelf = refl
cause_back causes.DmqDisabled = refl
cause_back causes.DmqQuota = refl
cause_back causes.TopicChanged = refl
cause_back causes.Deleted = refl

abbrev fate_named : List ℕ → Members → Fate
fate_named word ms =
    if bytes_eq word (codes "never") then Never else
    (if bytes_eq word (codes "spooled") then Spooled else
    (if bytes_eq word (codes "accepted") then Accepted else
    (if bytes_eq word (codes "moved") then Moved (num (codes "to") ms) else
    (if bytes_eq word (codes "discarded") then Discarded (cause_of (text (codes "cause") ms)) else Earlier))))

abbrev pub fate_of : Members → Fate
fate_of ms = fate_named (text (codes "fate") ms) ms

abbrev pub published_of : Data → PublishedCopy
published_of d =
    record {
      copy = num (codes "copy") (fields d);
      endpoint = text (codes "endpoint") (fields d);
      fate = fate_of (fields d);
    }

abbrev told : ℕ → List ℕ → Fate → PublishedCopy
told copy endpoint fate = record { copy = copy; endpoint = endpoint; fate = fate }

published : (copy : ℕ) (endpoint : List ℕ) (fate : Fate)
    → published_of (told_data (told copy endpoint fate)) ≡ told copy endpoint fate
published copy endpoint Never = refl
published copy endpoint Spooled = refl
published copy endpoint Accepted = refl
published copy endpoint (Moved to) = refl
published copy endpoint (Discarded cause) = ap (λ (c : Cause). told copy endpoint (Discarded c)) (cause_back cause)
published copy endpoint Earlier = refl

pub published_back : (c : PublishedCopy) → published_of (told_data c) ≡ c
published_back c = published c.copy c.endpoint c.fate

abbrev pub ended_of : Data → CopyFate
ended_of d = record { copy = num (codes "copy") (fields d); fate = fate_of (fields d) }

abbrev end : ℕ → Fate → CopyFate
end copy fate = record { copy = copy; fate = fate }

ended : (copy : ℕ) (fate : Fate) → ended_of (fate_data (end copy fate)) ≡ end copy fate
ended copy Never = refl
ended copy Spooled = refl
ended copy Accepted = refl
ended copy (Moved to) = refl
ended copy (Discarded cause) = ap (λ (c : Cause). end copy (Discarded c)) (cause_back cause)
ended copy Earlier = refl

pub ended_back : (c : CopyFate) → ended_of (fate_data c) ≡ c
ended_back c = ended c.copy c.fate

-- ---- the causes of a tally, in the order of their names

place_back : (c : Cause) → slice_get all_causes (cause_place c) ≡ Some c
place_back causes.NotSpooled = refl
place_back causes.Expired = refl
place_back causes.RedeliveryExceeded = refl
place_back causes.Rejected = refl
place_back causes.DmqMissing = refl
place_back causes.DmqSelf = refl
place_back causes.DmqDisabled = refl
place_back causes.DmqQuota = refl
place_back causes.TopicChanged = refl
place_back causes.Deleted = refl

passes : (p : Cause → Bool) (xs : List Cause) (n : ℕ) (c : Cause) → slice_get xs n ≡ Some c → list_all p xs ≡ true
    → p c ≡ true
passes p [] n c e h = absurd (cc)
passes p (x ∷ xs) zero c e h =
    let same : x ≡ c = cc in
    subst (λ (y : Cause). p y ≡ true) same (both (p x) (list_all p xs) h).0
passes p (x ∷ xs) (suc n) c e h = passes p xs n c e (both (p x) (list_all p xs) h).1

is_after : Ordering → Bool
is_after Less = false
is_after Equal = false
is_after Greater = true

was_after : (o : Ordering) → is_after o ≡ true → o ≡ Greater
unfolding is_after
was_after Less h = absurd (cc)
was_after Equal h = absurd (cc)
was_after Greater h = refl

-- a later place goes with a later name
rises : Cause → Cause → Bool
rises a b = not (nat_lt (cause_place a) (cause_place b)) || is_after (slice_cmp nat_cmp (cause_word b) (cause_word a))

all_rise : list_all (λ a. list_all (rises a) all_causes) all_causes ≡ true
unfolding rises is_after
all_rise = refl

rise : (a b : Cause) → rises a b ≡ true
rise a b =
    passes (rises a) all_causes (cause_place b) b (place_back b)
    (passes (λ c. list_all (rises c) all_causes) all_causes (cause_place a) a (place_back a) all_rise)

chosen : (less after : Bool) → less ≡ true → (not less || after) ≡ true → after ≡ true
chosen true after e h = h
chosen false after e h = absurd (cc)

later_name : (a b : Cause) → cause_place a < cause_place b → slice_cmp nat_cmp (cause_word b) (cause_word a) ≡ Greater
unfolding rises
later_name a b less =
    was_after _
    (chosen (nat_lt (cause_place a) (cause_place b)) _ (lt-ltb (cause_place a) (cause_place b) less) (rise a b))

abbrev InOrder : List CauseCount → Type 0
InOrder counts = AllPairs (λ a b. cause_place a.cause < cause_place b.cause) counts

abbrev AreLater : Cause → List CauseCount → Type 0
AreLater cause counts = All (λ k. cause_place cause < cause_place k.cause) counts

-- what comes later by name is put behind
behind : (cause : Cause) (d : Data) (ms : Members) (counts : List CauseCount) → AreLater cause counts
    → fold with_cause (member (cause_word cause) d ms) counts ≡ member (cause_word cause) d (fold with_cause ms counts)
behind cause d ms [] h = refl
behind cause d ms (k ∷ counts) h =
    let last = later_name cause k.cause (h 0 k (omega arith)) in
    let here : put (cause_word k.cause) (whole k.count) (member (cause_word cause) d ms)
    ≡ member (cause_word cause) d (put (cause_word k.cause) (whole k.count) ms) =
    ap (λ (o : Ordering). match_ordering o
    (member (cause_word k.cause) (whole k.count) (member (cause_word cause) d ms))
    (member (cause_word cause) (whole k.count) ms)
    (member (cause_word cause) d (put (cause_word k.cause) (whole k.count) ms))) last in
    ap (λ (all : Members). fold with_cause all counts) here
    ∙ behind cause d (put (cause_word k.cause) (whole k.count) ms) counts (λ j e less. h (suc j) e (omega arith))

abbrev count_of : Data → ℕ
count_of d = unwrap_or (option_and_then as_u64 (as_number d)) 0

abbrev counted : Cause → ℕ → CauseCount
counted cause count = record { cause = cause; count = count }

abbrev pub counts_of : Members → List CauseCount
counts_of no_members = []
counts_of (member key d ms) = counted (cause_of key) (count_of d) ∷ counts_of ms

pub counts_back : (counts : List CauseCount) → InOrder counts → counts_of (fold with_cause no_members counts) ≡ counts
counts_back [] h = refl
counts_back (k ∷ counts) h =
    ap counts_of (behind k.cause (whole k.count) no_members counts
    (λ j d less. h 0 (suc j) d (omega arith) (omega arith)))
    ∙ ap₂ (λ (c : Cause) (rest : List CauseCount). counted c k.count ∷ rest) (cause_back k.cause)
    (counts_back counts (λ i j d less most. h (suc i) (suc j) d (omega arith) (omega arith)))
