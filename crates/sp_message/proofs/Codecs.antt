-- What is read from the front of bytes is what was written there, and what was written is read again, whatever follows.
use Rattle.std.proofs.Common.{◌≡◌, ℕ, zero, suc, ◌+◌, ◌-◌, ◌*◌, ◌/◌, ◌%◌, ◌^◌, ◌<◌, ◌≤◌, Bool, true, false, cond, ltb, List, [], ◌∷◌, ◌++◌, length, get_or, take, drop, Option, Some, None, refl, sym, ap, ap₂, subst, ◌∙◌, append_assoc, arith, inl, inr}
use Rattle.std.specs.Prelude.{IfSome, ◌&&◌, nat_le}
use Rattle.std.specs.List.{flat_map, AllByRecursion}
use Rattle.std.specs.Int.{Width, w32, w64, byte_len, from_le_bytes, to_le_bytes}
use Rattle.std.proofs.lemmas.Bool.{cases_lt, ltb-false, le-ltb}
use Rattle.std.proofs.lemmas.Bool.Decides.{nat_tests}
use Rattle.std.proofs.lemmas.List.{take_at, drop_at, take-append-drop, length-append, length-take, get_or-drop, get_or-take, get_or_past, append-nil}
use Rattle.std.proofs.lemmas.List.Concat.{flat_map-cons}
use Rattle.std.proofs.lemmas.Nat.{le_bytes_4, le_bytes_8, from_le_bytes-to_le_bytes_4, from_le_bytes-to_le_bytes_8}
use Rattle.sp_message.specs.Encoding.{list_bytes, number_bytes, option_bytes, text_bytes, truth_bytes, wide_bytes}
use Rattle.sp_message.specs.Decoding.{◌>>=◌, byte_at, items_at, list_at, number_at, number_within_at, option_at, tested, text_at, text_that_at, truth_at, wide_at}

abbrev pub IsBytes : List ℕ → Type 0
IsBytes bytes = (i : ℕ) → get_or bytes i 0 < 256

IsBytes-drop : (n : ℕ) (bytes : List ℕ) → IsBytes bytes → IsBytes (drop n bytes)
IsBytes-drop n bytes h i = rw get_or-drop (h (n + i))

IsBytes-take : (n : ℕ) (bytes : List ℕ) → IsBytes bytes → IsBytes (take n bytes)
IsBytes-take n bytes h i =
    elim (cases_lt i n) [
      | inl lt ↦ rw (get_or-take n bytes i 0 lt) (h i)
      | inr le ↦ rw (get_or_past (take n bytes) i 0 (omega (arith, length-take n bytes))) (omega arith)
    ]

IsBytes-rest : (b : ℕ) (bytes : List ℕ) → IsBytes (b ∷ bytes) → IsBytes bytes
IsBytes-rest b bytes h i = h (suc i)

-- the value of a step that did not fail
pub bind_some : {A B : Type 0} (r : Option A) (f : A → Option B) (y : B) → (r >>= f) ≡ Some y → (x : A) × (r ≡ Some x) × (f x ≡ Some y)
bind_some (Some x) f y e = (x, refl, e)
bind_some None f y e = absurd cc

abbrev done : {A : Type 0} → A → Option A
done x = Some x

pub some_is : {A : Type 0} (x y : A) → done x ≡ done y → x ≡ y
some_is x y e = cc

-- what a reader took from the front
pub record Takes (bytes text rest : List ℕ) : Type 0 where
  pub parts : bytes ≡ text ++ rest
  pub rest_fits : IsBytes rest

pub Takes-then : (a x b y c : List ℕ) → Takes a x b → Takes b y c → Takes a (x ++ y) c
Takes-then a x b y c p q = record { parts = p.parts ∙ ap (λ (t : List ℕ). x ++ t) q.parts ∙ sym (append_assoc x y c); rest_fits = q.rest_fits }

pub Takes-byte : (b : ℕ) (bytes text rest : List ℕ) → Takes bytes text rest → Takes (b ∷ bytes) (b ∷ text) rest
Takes-byte b bytes text rest t = record { parts = ap (λ (w : List ℕ). b ∷ w) t.parts; rest_fits = t.rest_fits }

-- a way to write values, and a way to read them, that belong together
pub record IsCodec {A : Type 0} (fits : A → Type 0) (bytes_of : A → List ℕ) (at : List ℕ → Option (A × List ℕ)) : Type 0 where
  pub takes : (bytes : List ℕ) (x : A) (rest : List ℕ) → IsBytes bytes → at bytes ≡ Some (x, rest) → Takes bytes (bytes_of x) rest × fits x
  pub again : (x : A) (rest : List ℕ) → fits x → at (bytes_of x ++ rest) ≡ Some (x, rest)

-- ---- tests

guard_some : {A : Type 0} (b : Bool) (x y : A) → cond b (Some x) None ≡ Some y → (b ≡ true) × (x ≡ y)
guard_some true x y e = (refl, cc)
guard_some false x y e = absurd cc

guard_none : {A : Type 0} (b : Bool) (x y : A) → cond b None (Some x) ≡ Some y → (b ≡ false) × (x ≡ y)
guard_none true x y e = absurd cc
guard_none false x y e = (refl, cc)

-- the same ways, where other words say which values fit
pub refit : {A : Type 0} (F G : A → Type 0) (bytes_of : A → List ℕ) (at : List ℕ → Option (A × List ℕ)) → IsCodec F bytes_of at → ((x : A) → F x → G x) → ((x : A) → G x → F x) → IsCodec G bytes_of at
refit {A} F G bytes_of at codec to from = record {
  takes = λ bytes x rest is e. let t = codec.takes bytes x rest is e in (t.0, to x t.1);
  again = λ x rest h. codec.again x rest (from x h);
}

-- a reader with a test behind it
pub tested_codec : {A : Type 0} (fits : A → Type 0) (bytes_of : A → List ℕ) (at : List ℕ → Option (A × List ℕ)) (test : A → Bool) → IsCodec fits bytes_of at
    → IsCodec (λ x. fits x × (test x ≡ true)) bytes_of (λ bytes. at bytes >>= λ x. tested test x)
tested_codec {A} fits bytes_of at test codec = record {
  takes = λ bytes x rest is e.
      let b = bind_some (at bytes) (λ y. tested test y) (x, rest) e in
      let g = guard_some (test b.0.0) b.0 (x, rest) b.2 in
      let t = codec.takes bytes b.0.0 b.0.1 is b.1 in
      subst (λ (y : A × List ℕ). Takes bytes (bytes_of y.0) y.1 × (fits y.0 × (test y.0 ≡ true))) g.1 (t.0, (t.1, g.0));
  again = λ x rest h.
      ap (λ (r : Option (A × List ℕ)). r >>= λ y. tested test y) (codec.again x rest h.0) ∙ ap (λ (b : Bool). cond b (Some (x, rest)) None) h.1;
}

-- ---- numbers

pub record IsWide (w : Width) (limit : ℕ) : Type 0 where
  pub len : (n : ℕ) → length (to_le_bytes w n) ≡ byte_len w
  pub back : (bytes : List ℕ) → length bytes ≡ byte_len w → IsBytes bytes → to_le_bytes w (from_le_bytes w bytes) ≡ bytes
  pub again : (n : ℕ) → n < limit → from_le_bytes w (to_le_bytes w n) ≡ n
  pub below : (bytes : List ℕ) → IsBytes bytes → from_le_bytes w bytes < limit

pub wide32 : IsWide w32 (2 ^ 32)
wide32 = record {
  len = λ n. refl;
  back = λ bytes len fits. le_bytes_4 bytes _ len fits refl;
  again = λ n lt. from_le_bytes-to_le_bytes_4 n lt;
  below = λ bytes fits. omega (arith, fits 0, fits 1, fits 2, fits 3);
}

pub wide64 : IsWide w64 (2 ^ 64)
wide64 = record {
  len = λ n. refl;
  back = λ bytes len fits. le_bytes_8 bytes _ len fits refl;
  again = λ n lt. from_le_bytes-to_le_bytes_8 n lt;
  below = λ bytes fits. omega (arith, fits 0, fits 1, fits 2, fits 3, fits 4, fits 5, fits 6, fits 7);
}

number_codec_of : (w : Width) (limit : ℕ) → IsWide w limit → IsCodec (λ n. n < limit) (to_le_bytes w) (number_at w)
number_codec_of w limit wide = record { takes = number_takes; again = number_again }
  where
    number_takes : (bytes : List ℕ) (n : ℕ) (rest : List ℕ) → IsBytes bytes → number_at w bytes ≡ Some (n, rest) → Takes bytes (to_le_bytes w n) rest × (n < limit)
    number_takes bytes n rest fits e =
        let g = guard_none (ltb (length bytes) (byte_len w)) (from_le_bytes w (take (byte_len w) bytes), drop (byte_len w) bytes) (n, rest) e in
        let long : byte_len w ≤ length bytes = ltb-false _ _ g.0 in
        let n-is : from_le_bytes w (take (byte_len w) bytes) ≡ n = ap (λ (p : ℕ × List ℕ). p.0) g.1 in
        let rest-is : drop (byte_len w) bytes ≡ rest = ap (λ (p : ℕ × List ℕ). p.1) g.1 in
        let front : to_le_bytes w n ≡ take (byte_len w) bytes = rw (← n-is) (wide.back (take (byte_len w) bytes) (omega (arith, length-take (byte_len w) bytes)) (IsBytes-take (byte_len w) bytes fits)) in
        (record { parts = rw (front, ← rest-is) (sym (take-append-drop (byte_len w) bytes)); rest_fits = rw (← rest-is) (IsBytes-drop (byte_len w) bytes fits) }, rw (← n-is) (wide.below (take (byte_len w) bytes) (IsBytes-take (byte_len w) bytes fits)))

    number_again : (n : ℕ) (rest : List ℕ) → n < limit → number_at w (to_le_bytes w n ++ rest) ≡ Some (n, rest)
    number_again n rest lt =
        let len = wide.len n in
        let long : ltb (length (to_le_bytes w n ++ rest)) (byte_len w) ≡ false = le-ltb _ _ (omega (arith, length-append (to_le_bytes w n) rest)) in
        rw (long, take_at (to_le_bytes w n) rest (byte_len w) len, drop_at (to_le_bytes w n) rest (byte_len w) len, wide.again n lt) refl

pub length_codec : IsCodec (λ n. n < 2 ^ 32) (to_le_bytes w32) (number_at w32)
length_codec = number_codec_of w32 (2 ^ 32) wide32

pub number_codec : IsCodec (λ n. n < 2 ^ 64) number_bytes (number_at w64)
number_codec = number_codec_of w64 (2 ^ 64) wide64

-- ---- texts

pub text_codec : IsCodec (λ text. length text < 2 ^ 32) text_bytes text_at
unfolding text_at
text_codec = record { takes = text_takes; again = text_again }
  where
    text_takes : (bytes text rest : List ℕ) → IsBytes bytes → text_at bytes ≡ Some (text, rest) → Takes bytes (text_bytes text) rest × (length text < 2 ^ 32)
    text_takes bytes text rest fits e =
        let b = bind_some (number_at w32 bytes) (λ n. cond (ltb (length n.1) n.0) None (Some (take n.0 n.1, drop n.0 n.1))) (text, rest) e in
        let n = b.0 in
        let t = length_codec.takes bytes n.0 n.1 fits b.1 in
        let g = guard_none (ltb (length n.1) n.0) (take n.0 n.1, drop n.0 n.1) (text, rest) b.2 in
        let long : n.0 ≤ length n.1 = ltb-false _ _ g.0 in
        let len : length (take n.0 n.1) ≡ n.0 = omega (arith, length-take n.0 n.1) in
        let second : Takes n.1 (take n.0 n.1) (drop n.0 n.1) = record { parts = sym (take-append-drop n.0 n.1); rest_fits = IsBytes-drop n.0 n.1 t.0.rest_fits } in
        let both = Takes-then bytes (to_le_bytes w32 n.0) n.1 (take n.0 n.1) (drop n.0 n.1) t.0 second in
        let whole : Takes bytes (text_bytes (take n.0 n.1)) (drop n.0 n.1) = subst (λ (k : ℕ). Takes bytes (to_le_bytes w32 k ++ take n.0 n.1) (drop n.0 n.1)) (sym len) both in
        subst (λ (p : List ℕ × List ℕ). Takes bytes (text_bytes p.0) p.1 × (length p.0 < 2 ^ 32)) g.1 (whole, omega (arith, t.1))

    text_again : (text rest : List ℕ) → length text < 2 ^ 32 → text_at (text_bytes text ++ rest) ≡ Some (text, rest)
    text_again text rest lt =
        let long : ltb (length (text ++ rest)) (length text) ≡ false = le-ltb _ _ (omega (arith, length-append text rest)) in
        rw (length_codec.again (length text) (text ++ rest) lt, long, take_at text rest (length text) refl, drop_at text rest (length text) refl) refl

-- a text that passes a test
pub text_that_codec : (test : List ℕ → Bool) → IsCodec (λ text. (length text < 2 ^ 32) × (test text ≡ true)) text_bytes (text_that_at test)
unfolding text_that_at
text_that_codec test = tested_codec (λ text. length text < 2 ^ 32) text_bytes text_at test text_codec

-- one that is short where it passes the test
pub short_text_codec : (test : List ℕ → Bool) → ((text : List ℕ) → test text ≡ true → length text < 2 ^ 32) → IsCodec (λ text. test text ≡ true) text_bytes (text_that_at test)
short_text_codec test short =
    refit (λ text. (length text < 2 ^ 32) × (test text ≡ true)) (λ text. test text ≡ true) text_bytes (text_that_at test) (text_that_codec test) (λ text h. h.1) (λ text h. (short text h, h))

-- ---- truth values

pub truth_codec : IsCodec (λ (b : Bool). Unit {0}) truth_bytes truth_at
unfolding truth_at
truth_codec = record { takes = truth_takes; again = truth_again }
  where
    truth_takes : (bytes : List ℕ) (b : Bool) (rest : List ℕ) → IsBytes bytes → truth_at bytes ≡ Some (b, rest) → Takes bytes (truth_bytes b) rest × Unit {0}
    truth_takes [] b rest fits e = absurd cc
    truth_takes (zero ∷ bytes) b rest fits e =
        subst (λ (x : Bool × List ℕ). Takes (0 ∷ bytes) (truth_bytes x.0) x.1 × Unit {0}) (some_is (false, bytes) (b, rest) e) (record { parts = refl; rest_fits = IsBytes-rest 0 bytes fits }, tt)
    truth_takes (suc zero ∷ bytes) b rest fits e =
        subst (λ (x : Bool × List ℕ). Takes (1 ∷ bytes) (truth_bytes x.0) x.1 × Unit {0}) (some_is (true, bytes) (b, rest) e) (record { parts = refl; rest_fits = IsBytes-rest 1 bytes fits }, tt)
    truth_takes (suc (suc n) ∷ bytes) b rest fits e = absurd cc

    truth_again : (b : Bool) (rest : List ℕ) → Unit {0} → truth_at (truth_bytes b ++ rest) ≡ Some (b, rest)
    truth_again false rest h = refl
    truth_again true rest h = refl

-- ---- options

pub option_codec : {A : Type 0} (fits : A → Type 0) (bytes_of : A → List ℕ) (at : List ℕ → Option (A × List ℕ)) → IsCodec fits bytes_of at → IsCodec (λ o. IfSome o fits) (option_bytes bytes_of) (option_at at)
unfolding option_at
option_codec {A} fits bytes_of at codec = record { takes = option_takes; again = option_again }
  where
    option_takes : (bytes : List ℕ) (o : Option A) (rest : List ℕ) → IsBytes bytes → option_at at bytes ≡ Some (o, rest) → Takes bytes (option_bytes bytes_of o) rest × IfSome o fits
    option_takes [] o rest fit e = absurd cc
    option_takes (zero ∷ bytes) o rest fit e =
        subst (λ (x : Option A × List ℕ). Takes (0 ∷ bytes) (option_bytes bytes_of x.0) x.1 × IfSome x.0 fits) (some_is (None, bytes) (o, rest) e) (record { parts = refl; rest_fits = IsBytes-rest 0 bytes fit }, tt)
    option_takes (suc zero ∷ bytes) o rest fit e =
        let b = bind_some (at bytes) (λ x. Some (Some x.0, x.1)) (o, rest) e in
        let t = codec.takes bytes b.0.0 b.0.1 (IsBytes-rest 1 bytes fit) b.1 in
        subst (λ (x : Option A × List ℕ). Takes (1 ∷ bytes) (option_bytes bytes_of x.0) x.1 × IfSome x.0 fits) (some_is (Some b.0.0, b.0.1) (o, rest) b.2) (Takes-byte 1 bytes (bytes_of b.0.0) b.0.1 t.0, t.1)
    option_takes (suc (suc n) ∷ bytes) o rest fit e = absurd cc

    option_again : (o : Option A) (rest : List ℕ) → IfSome o fits → option_at at (option_bytes bytes_of o ++ rest) ≡ Some (o, rest)
    option_again None rest h = refl
    option_again (Some x) rest h = rw (codec.again x rest h) refl

-- ---- lists

pub list_codec : {A : Type 0} (fits : A → Type 0) (bytes_of : A → List ℕ) (at : List ℕ → Option (A × List ℕ)) → IsCodec fits bytes_of at → IsCodec (λ xs. AllByRecursion fits xs) (list_bytes bytes_of) (list_at at)
unfolding items_at list_at
list_codec {A} fits bytes_of at codec = record { takes = list_takes; again = list_again }
  where
    items_take : (n : ℕ) (bytes : List ℕ) (xs : List A) (rest : List ℕ) → IsBytes bytes → items_at at n bytes ≡ Some (xs, rest) → Takes bytes (flat_map bytes_of xs) rest × AllByRecursion fits xs × (length xs ≡ n)
    items_take zero bytes xs rest fit e =
        subst (λ (x : List A × List ℕ). Takes bytes (flat_map bytes_of x.0) x.1 × AllByRecursion fits x.0 × (length x.0 ≡ 0)) (some_is ([], bytes) (xs, rest) e) (record { parts = refl; rest_fits = fit }, tt, refl)
    items_take (suc n) bytes xs rest fit e =
        let a = bind_some (at bytes) (λ first. items_at at n first.1 >>= λ others. Some (first.0 ∷ others.0, others.1)) (xs, rest) e in
        let b = bind_some (items_at at n a.0.1) (λ others. Some (a.0.0 ∷ others.0, others.1)) (xs, rest) a.2 in
        let t = codec.takes bytes a.0.0 a.0.1 fit a.1 in
        let u = items_take n a.0.1 b.0.0 b.0.1 t.0.rest_fits b.1 in
        let both = Takes-then bytes (bytes_of a.0.0) a.0.1 (flat_map bytes_of b.0.0) b.0.1 t.0 u.0 in
        let whole : Takes bytes (flat_map bytes_of (a.0.0 ∷ b.0.0)) b.0.1 = subst (λ (w : List ℕ). Takes bytes w b.0.1) (sym (flat_map-cons bytes_of a.0.0 b.0.0)) both in
        subst (λ (x : List A × List ℕ). Takes bytes (flat_map bytes_of x.0) x.1 × AllByRecursion fits x.0 × (length x.0 ≡ suc n)) (some_is (a.0.0 ∷ b.0.0, b.0.1) (xs, rest) b.2) (whole, (t.1, u.1), ap suc u.2)

    list_takes : (bytes : List ℕ) (xs : List A) (rest : List ℕ) → IsBytes bytes → list_at at bytes ≡ Some (xs, rest) → Takes bytes (list_bytes bytes_of xs) rest × AllByRecursion fits xs
    list_takes [] xs rest fit e = absurd cc
    list_takes (n ∷ bytes) xs rest fit e =
        let t = items_take n bytes xs rest (IsBytes-rest n bytes fit) e in
        let whole = Takes-byte n bytes (flat_map bytes_of xs) rest t.0 in
        (subst (λ (k : ℕ). Takes (n ∷ bytes) (k ∷ flat_map bytes_of xs) rest) (sym t.2) whole, t.1)

    items_again : (xs : List A) (rest : List ℕ) → AllByRecursion fits xs → items_at at (length xs) (flat_map bytes_of xs ++ rest) ≡ Some (xs, rest)
    items_again [] rest h = refl
    items_again (x ∷ xs) rest h =
        let group : flat_map bytes_of (x ∷ xs) ++ rest ≡ bytes_of x ++ (flat_map bytes_of xs ++ rest) = ap (λ (w : List ℕ). w ++ rest) (flat_map-cons bytes_of x xs) ∙ append_assoc (bytes_of x) (flat_map bytes_of xs) rest in
        ap (λ (w : List ℕ). items_at at (suc (length xs)) w) group ∙ rw (codec.again x (flat_map bytes_of xs ++ rest) h.0, items_again xs rest h.1) refl

    list_again : (xs : List A) (rest : List ℕ) → AllByRecursion fits xs → list_at at (list_bytes bytes_of xs ++ rest) ≡ Some (xs, rest)
    list_again xs rest h = items_again xs rest h

-- ---- numbers in a range, and of 16 bytes

pub number_within_codec : (least most : ℕ) → most < 2 ^ 64 → IsCodec (λ n. (least ≤ n) × (n ≤ most)) number_bytes (number_within_at least most)
unfolding number_within_at
number_within_codec least most small =
    refit (λ n. (n < 2 ^ 64) × ((nat_le least n && nat_le n most) ≡ true)) (λ n. (least ≤ n) × (n ≤ most)) number_bytes (number_within_at least most)
    (tested_codec (λ n. n < 2 ^ 64) number_bytes (number_at w64) (λ n. nat_le least n && nat_le n most) number_codec) (λ n h. inside n h.1) (λ n h. (omega (arith, h.1, small), outside n h.0 h.1))
  where
    inside : (n : ℕ) → (nat_le least n && nat_le n most) ≡ true → (least ≤ n) × (n ≤ most)
    inside n h = (grind (arith, nat_tests), grind (arith, nat_tests))

    outside : (n : ℕ) → least ≤ n → n ≤ most → (nat_le least n && nat_le n most) ≡ true
    outside n h k = grind (arith, nat_tests)

pub wide_codec : IsCodec (λ n. n < 2 ^ 128) wide_bytes wide_at
unfolding wide_at
wide_codec = record { takes = wide_takes; again = wide_again }
  where
    wide_takes : (bytes : List ℕ) (n : ℕ) (rest : List ℕ) → IsBytes bytes → wide_at bytes ≡ Some (n, rest) → Takes bytes (wide_bytes n) rest × (n < 2 ^ 128)
    wide_takes bytes n rest fit e =
        let a = bind_some (number_at w64 bytes) (λ low. number_at w64 low.1 >>= λ high. Some (low.0 + high.0 * 2 ^ 64, high.1)) (n, rest) e in
        let b = bind_some (number_at w64 a.0.1) (λ high. Some (a.0.0 + high.0 * 2 ^ 64, high.1)) (n, rest) a.2 in
        let t = number_codec.takes bytes a.0.0 a.0.1 fit a.1 in
        let u = number_codec.takes a.0.1 b.0.0 b.0.1 t.0.rest_fits b.1 in
        let both : Takes bytes (number_bytes a.0.0 ++ number_bytes b.0.0) b.0.1 = Takes-then bytes (number_bytes a.0.0) a.0.1 (number_bytes b.0.0) b.0.1 t.0 u.0 in
        let low : (a.0.0 + b.0.0 * 2 ^ 64) % 2 ^ 64 ≡ a.0.0 = omega (arith, t.1) in
        let high : (a.0.0 + b.0.0 * 2 ^ 64) / 2 ^ 64 ≡ b.0.0 = omega (arith, t.1) in
        let whole : Takes bytes (wide_bytes (a.0.0 + b.0.0 * 2 ^ 64)) b.0.1 = subst (λ (w : List ℕ). Takes bytes w b.0.1) (sym (ap₂ (λ i j. number_bytes i ++ number_bytes j) low high)) both in
        subst (λ (x : ℕ × List ℕ). Takes bytes (wide_bytes x.0) x.1 × (x.0 < 2 ^ 128)) (some_is (a.0.0 + b.0.0 * 2 ^ 64, b.0.1) (n, rest) b.2) (whole, omega (arith, t.1, u.1))

    wide_again : (n : ℕ) (rest : List ℕ) → n < 2 ^ 128 → wide_at (wide_bytes n ++ rest) ≡ Some (n, rest)
    wide_again n rest h =
        let low : n % 2 ^ 64 < 2 ^ 64 = omega arith in
        let high : n / 2 ^ 64 < 2 ^ 64 = omega (arith, h) in
        let whole : n % 2 ^ 64 + n / 2 ^ 64 * 2 ^ 64 ≡ n = omega arith in
        ap wide_at (append_assoc (number_bytes (n % 2 ^ 64)) (number_bytes (n / 2 ^ 64)) rest)
        ∙ rw (number_codec.again (n % 2 ^ 64) (number_bytes (n / 2 ^ 64) ++ rest) low, number_codec.again (n / 2 ^ 64) rest high) (ap (λ k. Some (k, rest)) whole)
