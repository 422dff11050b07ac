use Rattle.std.proofs.Common.{◌≡◌, ◌∙◌, ◌+◌, ◌≤◌, ℕ, Result, Err, sym, ap, subst}
use Rattle.sp_event.specs.declared.request.Event.{Event}
use Rattle.sp_journal.specs.Format.{IsPiece}
use Rattle.sp_journal.specs.State.{place_of}
use Rattle.sp_journal.specs.declared.journal.AppendError.{AppendError}
use Rattle.sp_journal.specs.declared.journal.AppendError.TheVariants.{DiskFault, JournalFull}
use Rattle.sp_unit.specs.UnitBytes.{UnitView}
use Rattle.sp_store.proofs.Pieces.{at_most, first_is, piece_long}
use Rattle.sp_store.specs.Commit.{is_limited, need_of}
use Rattle.sp_store.proofs.put.write.Goals as goal

fault_not_full : (r : Result ℕ AppendError) (len need max : ℕ) → r ≡ Err DiskFault → r ≡ Err (JournalFull len need max) → ⊥
fault_not_full r len need max fault full = absurd cc

pub returns-in-Ok-append-clause-any_moment : goal.returns-in-Ok-append-clause-any_moment
returns-in-Ok-append-clause-any_moment g c units rests vouches =
    let unit : UnitView = record { moment = c.args.now; caller = c.args.from.now; events = c.args.unit.now } in
    c.append.ensures.any_moment units unit rests (subst (IsPiece unit) (sym c.as_slice.ensures.value) c.in-Ok.ensures)
    vouches

pub returns-in-Err-DiskFault-clause-writes : goal.returns-in-Err-DiskFault-clause-writes
returns-in-Err-DiskFault-clause-writes g c units rests event one =
    let unit : UnitView = record { moment = c.args.now; caller = c.args.from.now; events = c.args.unit.now } in
    let piece = subst (IsPiece unit) (sym c.as_slice.ensures.value) c.in-Ok.ensures in
    let first : c.index-unit-0.result ≡ event = first_is c.args.unit.now event c.index-unit-0.result _ one c.index-unit-0.is in
    let long = piece_long unit c.as_slice.result.now piece in
    let failed : c.append.result ≡ Err DiskFault =
    c.in-Err-DiskFault.is ∙ ap (λ (e : AppendError). Err e) c.in-Err-DiskFault.field-0-is in (
      λ limited.
          let max : c.limit.result ≡ c.args.max =
          c.limit.ensures.limited (ap (λ (e : Event). is_limited e) first ∙ limited) in
          subst (λ (n : ℕ). place_of c.args.journal.now + need_of unit ≤ n) max
          (at_most c.limit.result (place_of c.args.journal.now) _ (need_of unit) long
          (λ above. fault_not_full c.append.result _ _ _ failed (c.append.ensures.full above).0)),
      c.append.ensures.unsure units unit rests piece failed,
    )

pub returns-in-Err-DiskFault-clause-any_moment : goal.returns-in-Err-DiskFault-clause-any_moment
returns-in-Err-DiskFault-clause-any_moment g c units rests vouches =
    let unit : UnitView = record { moment = c.args.now; caller = c.args.from.now; events = c.args.unit.now } in
    c.append.ensures.any_moment units unit rests (subst (IsPiece unit) (sym c.as_slice.ensures.value) c.in-Ok.ensures)
    vouches
