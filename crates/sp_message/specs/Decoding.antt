-- How the parts of a value are read from the front of bytes: each reading gives a value and the bytes after it.
use Rattle.std.specs.Prelude.{◌≡◌, ◌&&◌, ◌+◌, ◌*◌, ◌^◌, ℕ, zero, suc, Bool, true, false, List, [], ◌∷◌, length, take, drop, nat_le, nat_lt, Option, Some, None, Result, Ok, Err, if◌then◌else◌}
use Rattle.std.specs.Int.{Width, w32, w64, byte_len, from_le_bytes}
use Rattle.sp_message.specs.declared.codec.ReadError.{ReadError}
use Rattle.sp_message.specs.declared.codec.ReadError.TheVariants.{NotOne, Memory}

-- one part, and then what is read with it
infixl 10 ◌>>=◌
abbrev pub ◌>>=◌ : {A B : Type 0} → Option A → (A → Option B) → Option B
None >>= f = None
(Some x) >>= f = f x

-- an error that reading gives, unless memory ran out
abbrev pub Fails : {Y : Type 0} → ReadError → Option Y → Type 0
Fails Memory read = Unit {0}
Fails NotOne read = read ≡ None

-- what a call answered, seen by view, is what reading gives, unless memory ran out
abbrev pub Gives : {X Y : Type 0} → (X → Y) → Result X ReadError → Option Y → Type 0
Gives view (Ok x) read = read ≡ Some (view x)
Gives view (Err e) read = Fails e read

-- what is read, if it passes the test
abbrev pub tested : {A : Type 0} → (A → Bool) → A × List ℕ → Option (A × List ℕ)
tested test x = if test x.0 then Some x else None

abbrev pub byte_at : List ℕ → Option (ℕ × List ℕ)
byte_at [] = None
byte_at (b ∷ bytes) = Some (b, bytes)

abbrev pub number_at : Width → List ℕ → Option (ℕ × List ℕ)
number_at w bytes =
    if nat_lt (length bytes) (byte_len w) then None else Some (from_le_bytes w (take (byte_len w) bytes), drop (byte_len w) bytes)

unfoldable pub wide_at : List ℕ → Option (ℕ × List ℕ)
wide_at bytes = do
  low ← number_at w64 bytes
  high ← number_at w64 low.1
  Some (low.0 + high.0 * 2 ^ 64, high.1)

-- the two ends of a range belong to it
unfoldable pub number_within_at : ℕ → ℕ → List ℕ → Option (ℕ × List ℕ)
number_within_at least most bytes = do
  n ← number_at w64 bytes
  tested (λ n. nat_le least n && nat_le n most) n

unfoldable pub text_at : List ℕ → Option (List ℕ × List ℕ)
text_at bytes = do
  n ← number_at w32 bytes
  if nat_lt (length n.1) n.0 then None else Some (take n.0 n.1, drop n.0 n.1)

unfoldable pub text_that_at : (List ℕ → Bool) → List ℕ → Option (List ℕ × List ℕ)
text_that_at test bytes = do
  text ← text_at bytes
  tested test text

unfoldable pub truth_at : List ℕ → Option (Bool × List ℕ)
truth_at [] = None
truth_at (zero ∷ bytes) = Some (false, bytes)
truth_at (suc zero ∷ bytes) = Some (true, bytes)
truth_at (suc (suc b) ∷ bytes) = None

unfoldable pub option_at : {A : Type 0} → (List ℕ → Option (A × List ℕ)) → List ℕ → Option (Option A × List ℕ)
option_at at [] = None
option_at at (zero ∷ bytes) = Some (None, bytes)
option_at at (suc zero ∷ bytes) = do
  x ← at bytes
  Some (Some x.0, x.1)
option_at at (suc (suc b) ∷ bytes) = None

-- so many elements, one after the other
unfoldable pub items_at : {A : Type 0} → (List ℕ → Option (A × List ℕ)) → ℕ → List ℕ → Option (List A × List ℕ)
items_at at zero bytes = Some ([], bytes)
items_at at (suc n) bytes = do
  first ← at bytes
  others ← items_at at n first.1
  Some (first.0 ∷ others.0, others.1)

unfoldable pub list_at : {A : Type 0} → (List ℕ → Option (A × List ℕ)) → List ℕ → Option (List A × List ℕ)
list_at at bytes = do
  n ← byte_at bytes
  items_at at n.0 n.1
