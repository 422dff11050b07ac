-- Known bytes that are read or written piece by piece.
use Rattle.std.proofs.Common.{◌≡◌, ℕ, List, [], ◌++◌, Option, Some, None, refl, sym, ap, ◌∙◌, subst, append_assoc}
use Rattle.std.proofs.Common.{append-nil}
use Rattle.std.specs.Option.{unwrap_or}
use Rattle.std.specs.Io.KnownBytes.{Consumes, IsAtEnd}
use Rattle.sp_tape.specs.Reading.{Reads}

pub reads_nothing : (known : Option (List ℕ)) → Consumes known known []
reads_nothing None = tt
reads_nothing (Some bytes) = refl

pub reads_both : (a b c : Option (List ℕ)) (xs ys : List ℕ) → Consumes a b xs → Consumes b c ys →
    Consumes a c (xs ++ ys)
reads_both None b c xs ys p q = tt
reads_both (Some us) None c xs ys p q = absurd p
reads_both (Some us) (Some bs) None xs ys p q = absurd q
reads_both (Some us) (Some bs) (Some cs) xs ys p q = p ∙ ap (λ zs. xs ++ zs) q ∙ sym (append_assoc xs ys cs)

pub waits : (known : Option (List ℕ)) (waiting : List ℕ) → Reads known known waiting waiting
waits known waiting = ([], reads_nothing known, sym (append-nil waiting))

pub reads_on : (a b c : Option (List ℕ)) (waiting all more : List ℕ) → Reads a b waiting all → Consumes b c more →
    Reads a c waiting (all ++ more)
reads_on a b c waiting all more (was, p, e) q = (
  was ++ more,
  reads_both a b c was more p q,
  ap (λ zs. zs ++ more) e ∙
      append_assoc waiting was more,
)

pub reads_then : (a b c : Option (List ℕ)) (waiting read all : List ℕ) → Reads a b waiting read → Reads b c read all →
    Reads a c waiting all
reads_then a b c waiting read all r (more, q, e) =
    subst (Reads a c waiting) (sym e) (reads_on a b c waiting read more r q)

pub reads_to_end : (a b c : Option (List ℕ)) (waiting all : List ℕ) → Reads a b waiting all → Consumes b c [] →
    Reads a c waiting all
reads_to_end a b c waiting all r q = rw (sym (append-nil all)) (reads_on a b c waiting all [] r q)

pub at_end : (known : Option (List ℕ)) → IsAtEnd known → unwrap_or known [] ≡ []
at_end None e = refl
at_end (Some bytes) e = e
