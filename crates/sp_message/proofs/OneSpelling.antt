-- The laws of the spellings of messages.
use Rattle.std.proofs.Common.{◌≡◌, ℕ, List, [], ◌∷◌, ◌++◌, Option, Some, None, refl, sym, ap, subst, ◌∙◌, length, take, drop, ◌-◌, arith}
use Rattle.std.proofs.lemmas.List.{append-nil, take-append-drop, take_at, length-append}
use Rattle.sp_message.specs.declared.message.Message.{Message}
use Rattle.sp_message.specs.MessageBytes.{IsMessage, KeepsRules, message_bytes}
use Rattle.sp_message.specs.MessageReading.{message_at}
use Rattle.sp_message.proofs.Codecs.{IsBytes, some_is}
use Rattle.sp_message.proofs.Messages.{message_codec}

pub one_spelling : (a b : List ℕ) (m : Message) → IsMessage a m → IsMessage b m → a ≡ b
one_spelling a b m h k = h.1 ∙ sym k.1

-- what begins with a spelling is read as the value, and the rest
reads : (bytes rest : List ℕ) (m : Message) → IsMessage bytes m → message_at (bytes ++ rest) ≡ Some (m, rest)
reads bytes rest m h = ap (λ (w : List ℕ). message_at (w ++ rest)) h.1 ∙ message_codec.again m rest h.0

pub one_message : (bytes : List ℕ) (m n : Message) → IsMessage bytes m → IsMessage bytes n → m ≡ n
one_message bytes m n h k = ap (λ (x : Message × List ℕ). x.0) (some_is (m, []) (n, []) (sym (reads bytes [] m h) ∙ reads bytes [] n k))

pub no_beginning : (a b more : List ℕ) (m n : Message) → IsMessage a m → IsMessage b n → b ≡ a ++ more → more ≡ []
no_beginning a b more m n h k e =
    let first : message_at b ≡ Some (m, more) = ap message_at e ∙ reads a more m h in
    let second : message_at b ≡ Some (n, []) = ap message_at (sym (append-nil b)) ∙ reads b [] n k in
    ap (λ (x : Message × List ℕ). x.1) (some_is (m, more) (n, []) (sym first ∙ second))

-- where no message is read, no beginning is one
pub none_begins : (bytes : List ℕ) (m : Message) (len : ℕ) → message_at bytes ≡ None → IsMessage (take len bytes) m → ⊥
none_begins bytes m len none h =
    let read : message_at bytes ≡ Some (m, drop len bytes) = ap message_at (sym (take-append-drop len bytes)) ∙ reads (take len bytes) (drop len bytes) m h in
    clash (message_at bytes) (m, drop len bytes) none read
  where
    clash : {A : Type 0} (o : Option A) (x : A) → o ≡ None → o ≡ Some x → ⊥
    clash None x e f = cc
    clash (Some y) x e f = cc

-- what is read is a message, as long as the bytes without the rest
pub begins : (bytes rest : List ℕ) (m : Message) (len : ℕ) → IsBytes bytes → message_at bytes ≡ Some (m, rest) → len ≡ length bytes - length rest → IsMessage (take len bytes) m
begins bytes rest m len is e l =
    let t = message_codec.takes bytes m rest is e in
    let same : length (message_bytes m) ≡ len = omega (arith, l, ap length t.0.parts, length-append (message_bytes m) rest) in
    (t.1, ap (take len) t.0.parts ∙ take_at (message_bytes m) rest len same)
