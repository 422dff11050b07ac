-- What one answer leaves.
use Rattle.std.proofs.Common.{◌≡◌, ◌≤◌, ◌-◌, ℕ, List, Option, Result, arith, inl, inr, refl, subst}
use Rattle.sp_disk.specs.Disk.{Folder, Telling}
use Rattle.sp_disk.specs.Everywhere.{Became, Vouches}
use Rattle.sp_disk.specs.Moments.{LeavesOnly}
use Rattle.sp_disk.specs.declared.disk.File.TheVariants.{Journal as JournalFile}
use Rattle.sp_disk.proofs.EverywhereLemmas.{stepped}
use Rattle.sp_event.specs.declared.answer.Answered.{Answered}
use Rattle.sp_event.specs.declared.request.Ask.TheVariants.{Do}
use Rattle.sp_event.specs.declared.request.Event.{Event}
use Rattle.sp_journal.specs.State.{place_of}
use Rattle.sp_ledger.specs.Events.{outcome}
use Rattle.sp_ledger.specs.Step.{Outcome}
use Rattle.sp_store.specs.Commit.{Commits, MayHave}
use Rattle.sp_store.specs.State.{StandsFor, StoreState}
use Rattle.sp_store.specs.declared.receipt.CommitFault.{CommitFault}
use Rattle.sp_store.specs.declared.receipt.Receipt.{Receipt}
use Rattle.sp_tape.specs.Acts.{AnswersEvent, IsToldOf, Told, unit_of}
use Rattle.sp_tape.specs.Runs.{RoseBy}
use Rattle.sp_flowline.specs.Answers.{line_of}
use Rattle.sp_tape.specs.Run.{line_at}
use Rattle.sp_tape.specs.declared.turn.Served.{Served}
use Rattle.sp_tape.specs.Serves.{IsIn, IsUnitOfAsk, Leaves, WritesLine, fault_count}
use Rattle.sp_tape.specs.State.{MayLeave, RunState}
use Rattle.sp_tape.proofs.Commits.{accepts_next, commits_as}
use Rattle.sp_tape.proofs.Left.{as_it_is, commit_left}
use Rattle.sp_tape.proofs.Places.{stands_place}
use Rattle.sp_unit.specs.UnitBytes.{UnitView}

abbrev pub told : Answered → RunState → Told
told answered T = record { answered = answered; after = T }

-- the line was made at the number of units that the state has
pub line_written : (old new : Option (List ℕ)) (answered : Answered) (unit : ℕ) (T : RunState) → unit ≡ T.ledger.next.unit - 1
    → (ended : Served) → WritesLine old new (line_of answered unit) ended → WritesLine old new (line_at (told answered T)) ended
line_written old new answered unit T is ended wrote =
    subst (λ (n : ℕ). WritesLine old new (line_of answered n) ended) is wrote

module _ {D : Type 0} (tells : D → Telling) (content : D → Folder) (may_leave : D → Folder → Type 0) (moment : D → ℕ)
    (left_since : D → ℕ → Folder → Type 0) (faults : D → ℕ) where
  abbrev In : RunState → StoreState D → Type 0
  In S store = IsIn tells content may_leave S store

  -- an answer that has P has Q
  pub weaker : (P Q : RunState → Told → Type 0) (One Other : UnitView → Type 0)
      → ((S : RunState) (t : Told) → P S t → Q S t) → ((unit : UnitView) → One unit → Other unit) → (old new : StoreState D)
      (answered : Answered) → Leaves tells content may_leave moment left_since faults P One old new answered
      → Leaves tells content may_leave moment left_since faults Q Other old new answered
  weaker P Q One Other then also old new answered leaves = record {
    answers = λ S is.
        let here = leaves.answers S is in (here.0, then S (told answered here.0) here.1, here.2);
    any_moment = λ S is vouches.
        stepped moment left_since JournalFile old.disk new.disk (may_leave old.disk) (λ before. MayLeave One S)
        (λ before. MayLeave Other S) (λ before file left. record {
          taken = left.taken;
          are_taken = left.are_taken;
          units = left.units;
          one_more = elim left.one_more [
            | inl same ↦ inl same
            | inr more ↦ inr (more.0, also more.0 more.1, more.2)
          ];
          has = left.has;
          leads = left.leads;
        }) (leaves.any_moment S is vouches);
    max = leaves.max;
    telling = leaves.telling;
    later = leaves.later;
    fault = leaves.fault;
  }

  module _ (only_now : (disk : D) (image : Folder) → left_since disk (moment disk) image → may_leave disk image) where
    -- nothing was done
    pub stays : (P : RunState → Told → Type 0) (One : UnitView → Type 0) (store : StoreState D) (answered : Answered)
        → ((S : RunState) → In S store → P S (told answered S)) → fault_count answered ≡ 0
        → Leaves tells content may_leave moment left_since faults P One store store answered
    stays P One store answered is none = record {
      answers = λ S stands. (S, is S stands, stands);
      any_moment = λ S stands. as_it_is tells content may_leave moment left_since only_now One S store stands;
      max = refl;
      telling = refl;
      later = omega arith;
      fault = omega (arith, none);
    }

  module _ (now : ℕ) (caller : List ℕ) (event : Event) (old new : StoreState D) (result : Result Receipt CommitFault) where
    abbrev unit : UnitView
    unit = unit_of now caller event

    abbrev o : RunState → Outcome
    o S = outcome now caller event S.ledger

    -- an event was committed
    pub commits : ((S : RunState) → In S old
        → Commits (λ unsure us M. StandsFor tells content may_leave unsure us M new) unit S.units S.ledger S.unsure
        (place_of old.journal) old.max event (o S) result)
        → ((S : RunState) → In S old → Vouches (tells old.disk) → LeavesOnly moment left_since old.disk new.disk
        (Became JournalFile (MayHave S.unsure S.units unit (o S)) (may_leave old.disk)))
        → new.max ≡ old.max → tells new.disk ≡ tells old.disk → (answered : Answered) → IsToldOf result answered
        → faults old.disk ≤ faults new.disk → RoseBy (fault_count answered) (faults old.disk) (faults new.disk)
        → Leaves tells content may_leave moment left_since faults
        (AnswersEvent (tells old.disk).content old.max now caller event) (IsUnitOfAsk now caller (Do event)) old new answered
    commits committed left max telling answered told_of later fault = record {
      answers = λ S is.
          let next = accepts_next now caller event S.ledger (o S) refl in
          let here = commits_as (λ unsure us M. StandsFor tells content may_leave unsure us M new) unit S.units S.ledger
          (place_of old.journal) old.max event (o S) next S.unsure is.next result (committed S is) in (
            here.0,
            record {
              place = place_of old.journal;
              is_place = stands_place tells content may_leave S.unsure S.units old.journal old.disk is.stands.on_disk;
              result = result;
              commits = here.1;
              told = told_of;
            },
            record { stands = here.2.found; next = here.2.next },
          );
      any_moment = λ S is vouches.
          stepped moment left_since JournalFile old.disk new.disk (may_leave old.disk)
          (λ before. MayHave S.unsure S.units unit (o S)) (λ before. MayLeave (IsUnitOfAsk now caller (Do event)) S)
          (λ before file has. commit_left (IsUnitOfAsk now caller (Do event)) S is.stands.is_ledger is.next unit
          (event, refl, refl) (o S) (accepts_next now caller event S.ledger (o S) refl) file has) (left S is vouches);
      max = max;
      telling = telling;
      later = later;
      fault = fault;
    }
