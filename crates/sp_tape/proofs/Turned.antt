-- A run over a store goes on by one entry.
use Rattle.std.proofs.Common.{◌≡◌, ◌≢◌, ◌⊎◌, ◌≤◌, ◌∙◌, ℕ, Bool, List, [], ◌∷◌, ◌++◌, arith, inl, inr, refl, sym, ap, subst, append_assoc}
use Rattle.sp_disk.specs.Disk.{Folder, Telling}
use Rattle.sp_disk.specs.Everywhere.{Became, Vouches}
use Rattle.sp_disk.specs.Moments.{LeavesOnly}
use Rattle.sp_disk.specs.declared.disk.File.TheVariants.{Journal as JournalFile}
use Rattle.sp_disk.proofs.EverywhereLemmas.{followed}
use Rattle.sp_disk.proofs.MomentLemmas.{started, weakened}
use Rattle.sp_event.specs.declared.answer.Answered.{Answered}
use Rattle.sp_store.specs.State.{StoreState}
use Rattle.sp_tape.specs.declared.entry.Entry.{Entry}
use Rattle.sp_tape.specs.declared.entry.Kind.{Kind}
use Rattle.sp_tape.specs.declared.entry.Kind.TheVariants.{Flow, Http, Rdp, Restart}
use Rattle.sp_tape.specs.Acts.{Acts, ActsAs, Told}
use Rattle.sp_tape.specs.Run.{IsBeingWritten, MightHaveLeft, Turn, state_after}
use Rattle.sp_tape.specs.Runs.{RoseBy}
use Rattle.sp_tape.specs.Serves.{AnswersAs, IsIn, IsUnitOfFlow, KeepsTo, Leaves, Readies}
use Rattle.sp_tape.specs.State.{BeginsAgain, IsRestart, MayLeave, RunState}
use Rattle.sp_tape.proofs.Left.{now_left}
use Rattle.sp_tape.proofs.SoFar.{state_after-push, told_faults, told_faults-push, turn_of}
use Rattle.sp_unit.specs.UnitBytes.{UnitView}

pub is_restart : (kind : Kind) → (kind ≡ Restart) ⊎ (kind ≡ Restart → ⊥)
is_restart Flow = inr (λ same. cc)
is_restart Http = inr (λ same. cc)
is_restart Rdp = inr (λ same. cc)
is_restart Restart = inl refl

-- what a unit may be, it may be of others
one_weaker : (One Other : UnitView → Type 0) → ((unit : UnitView) → One unit → Other unit) → (S : RunState) (file : List ℕ)
    → MayLeave One S file → MayLeave Other S file
one_weaker One Other also S file left = record {
  taken = left.taken;
  are_taken = left.are_taken;
  units = left.units;
  one_more = elim left.one_more [
    | inl same ↦ inl same
    | inr more ↦ inr (more.0, also more.0 more.1, more.2)
  ];
  has = left.has;
  leads = left.leads;
}

-- what might have been left before an entry might have been left after it
later_written : (behind : List Turn) (t : Turn) (unit : UnitView) → IsBeingWritten behind unit
    → IsBeingWritten (behind ++ t ∷ []) unit
later_written [] t unit is = inl is
later_written (u ∷ us) t unit is = is

pub left_later : (start : RunState) (turns : List Turn) (t : Turn) (file : List ℕ) → MightHaveLeft start turns file
    → MightHaveLeft start (turns ++ t ∷ []) file
left_later start turns t file was = record {
  before = was.before;
  behind = was.behind ++ t ∷ [];
  split = ap (λ (ts : List Turn). ts ++ t ∷ []) was.split ∙ append_assoc was.before was.behind (t ∷ []);
  left = one_weaker (IsBeingWritten was.behind) (IsBeingWritten (was.behind ++ t ∷ []))
      (λ unit is. later_written was.behind t unit is) (state_after start was.before) file was.left;
}

-- what the state after the turns may leave
pub left_now : (start : RunState) (turns : List Turn) (file : List ℕ) → MayLeave IsRestart (state_after start turns) file
    → MightHaveLeft start turns file
left_now start turns file left =
    record { before = turns; behind = []; split = append_none turns; left = left }
  where
    append_none : (ts : List Turn) → ts ≡ ts ++ []
    append_none [] = refl
    append_none (t ∷ ts) = ap (λ (us : List Turn). t ∷ us) (append_none ts)

-- and with a unit of the entry that comes
left_next : (start : RunState) (turns : List Turn) (t : Turn) (file : List ℕ)
    → MayLeave (IsBeingWritten (t ∷ [])) (state_after start turns) file → MightHaveLeft start (turns ++ t ∷ []) file
left_next start turns t file left = record { before = turns; behind = t ∷ []; split = refl; left = left }

-- an entry that was answered in the state for which it was made ready
answered_as : (trusted : Bool) (most : ℕ) (e : Entry) (S T : RunState) (t : Told) (kind : Kind)
    → (kind ≡ Restart → BeginsAgain trusted S T) → (kind ≢ Restart → T ≡ S) → AnswersAs trusted most kind e T t
    → ActsAs trusted most kind e S t
answered_as trusted most e S T t Flow again same h =
    subst (λ (U : RunState). ActsAs trusted most Flow e U t) (same (λ is. cc)) h
answered_as trusted most e S T t Http again same h =
    subst (λ (U : RunState). ActsAs trusted most Http e U t) (same (λ is. cc)) h
answered_as trusted most e S T t Rdp again same h =
    subst (λ (U : RunState). ActsAs trusted most Rdp e U t) (same (λ is. cc)) h
answered_as trusted most e S T t Restart again same h =
    (h.0, subst (BeginsAgain trusted S) (sym h.1) (again refl))

restart_stays : (trusted : Bool) (most : ℕ) (e : Entry) (T : RunState) (t : Told) (kind : Kind) → kind ≡ Restart
    → AnswersAs trusted most kind e T t → t.after ≡ T
restart_stays trusted most e T t Restart is h = h.1
restart_stays trusted most e T t Flow is h = absurd cc
restart_stays trusted most e T t Http is h = absurd cc
restart_stays trusted most e T t Rdp is h = absurd cc

module _ {D : Type 0} (tells : D → Telling) (content : D → Folder) (may_leave : D → Folder → Type 0) (moment : D → ℕ)
    (left_since : D → ℕ → Folder → Type 0) (faults : D → ℕ)
    (only_now : (disk : D) (image : Folder) → left_since disk (moment disk) image → may_leave disk image)
    (counts_now : (disk : D) (since : ℕ) (image : Folder) → since ≤ moment disk → may_leave disk image → left_since disk since image)
    (first : D) (most : ℕ) (start : RunState) where
  -- at each moment since the first disk a crash left what the run's states may leave
  abbrev pub OnTheWay : List Turn → D → Type 0
  OnTheWay turns new = Vouches (tells first) →
      LeavesOnly moment left_since first new (Became JournalFile (MightHaveLeft start turns) (may_leave first))

  -- a store after these turns
  pub record Going (turns : List Turn) (store : StoreState D) : Type 0 where
    pub stands : IsIn tells content may_leave (state_after start turns) store
    pub max : store.max ≡ most
    pub telling : tells store.disk ≡ tells first
    pub fault : RoseBy (told_faults turns) (faults first) (faults store.disk)
    pub any_moment : OnTheWay turns store.disk

  -- before the first entry
  pub at_first : (store : StoreState D) → store.disk ≡ first → store.max ≡ most → IsIn tells content may_leave start store
      → Going [] store
  at_first store same max is = record {
    stands = is;
    max = max;
    telling = ap tells same;
    fault = subst (λ (d : D). RoseBy 0 (faults first) (faults d)) (sym same) (omega arith);
    any_moment = subst (OnTheWay []) (sym same) (λ vouches.
        started moment left_since first (Became JournalFile (MightHaveLeft start []) (may_leave first))
        (λ image left. (
          image,
          only_now first image left,
          left_now start [] (image JournalFile) (now_left tells content may_leave IsRestart start store is
              (subst (λ (d : D). Vouches (tells d)) (sym same) vouches) image
              (subst (λ (d : D). may_leave d image) (sym same) (only_now first image left))),
          λ other differ. refl,
        )));
  }

  -- one step more
  goes_on : (turns : List Turn) (t : Turn) (mid new : D) (One : UnitView → Type 0) (S : RunState)
      → ((file : List ℕ) → MayLeave One S file → MightHaveLeft start (turns ++ t ∷ []) file)
      → tells mid ≡ tells first → OnTheWay (turns ++ t ∷ []) mid
      → KeepsTo tells content may_leave moment left_since One S mid new → OnTheWay (turns ++ t ∷ []) new
  goes_on turns t mid new One S then telling way keeps vouches =
      followed moment left_since may_leave JournalFile counts_now first mid new
      (λ a. MightHaveLeft start (turns ++ t ∷ [])) (λ a. MayLeave One S) (λ a. MightHaveLeft start (turns ++ t ∷ []))
      (λ a b was. was) (λ a b c was left. then c left) (way vouches)
      (keeps (subst Vouches (sym telling) vouches))

  later_way : (turns : List Turn) (t : Turn) (mid : D) → OnTheWay turns mid → OnTheWay (turns ++ t ∷ []) mid
  later_way turns t mid way vouches =
      weakened moment left_since first mid (Became JournalFile (MightHaveLeft start turns) (may_leave first))
      (Became JournalFile (MightHaveLeft start (turns ++ t ∷ [])) (may_leave first))
      (λ image was. (was.0, was.1, left_later start turns t (image JournalFile) was.2, was.3)) (way vouches)

  -- a store that is ready, and an entry that is answered over it
  module _ (turns : List Turn) (e : Entry) (old ready new : StoreState D) (answered : Answered) (going : Going turns old)
      (readies : Readies tells content may_leave moment left_since faults e.kind old ready)
      (leaves : Leaves tells content may_leave moment left_since faults
      (AnswersAs (tells ready.disk).content ready.max e.kind e) (IsUnitOfFlow e) ready new answered) where
    abbrev S : RunState
    S = state_after start turns

    abbrev T : RunState
    T = (readies.state S going.stands).0

    abbrev stands_ready : IsIn tells content may_leave T ready
    stands_ready = (readies.state S going.stands).1

    abbrev pub t : Told
    t = record { answered = answered; after = (leaves.answers T stands_ready).0 }

    telling_old : tells old.disk ≡ tells first
    telling_old = going.telling

    telling_ready : tells ready.disk ≡ tells first
    telling_ready = readies.telling ∙ going.telling

    answers : AnswersAs (tells first).content most e.kind e T t
    answers =
        subst (λ (n : ℕ). AnswersAs (tells first).content n e.kind e T t) (readies.max ∙ going.max)
        (subst (λ (d : Telling). AnswersAs d.content ready.max e.kind e T t) telling_ready
        (leaves.answers T stands_ready).1)

    again : e.kind ≡ Restart → BeginsAgain (tells first).content S T
    again is =
        subst (λ (d : Telling). BeginsAgain d.content S T) going.telling ((readies.state S going.stands).2 is)

    as_it_was : e.kind ≢ Restart → T ≡ S
    as_it_was = (readies.state S going.stands).3

    pub acts : Acts (tells first).content most e S (t ∷ [])
    acts = (t, refl, answered_as (tells first).content most e S T t e.kind again as_it_was answers)

    abbrev turn : Turn
    turn = turn_of e t

    abbrev all : List Turn
    all = turns ++ turn ∷ []

    after : state_after start all ≡ t.after
    after = state_after-push start turns turn

    -- what may be left while the entry is answered
    left_served : (file : List ℕ) → MayLeave (IsUnitOfFlow e) T file → MightHaveLeft start all file
    left_served file left = elim (is_restart e.kind) [
      | inl is ↦
          let stays : t.after ≡ T = restart_stays (tells first).content most e T t e.kind is answers in
          left_now start all file (subst (λ (U : RunState). MayLeave IsRestart U file) (sym (after ∙ stays))
          (one_weaker (IsUnitOfFlow e) IsRestart (λ unit flow. absurd (flow.0 is)) T file left))
      | inr not ↦ left_next start turns turn file (
          subst (λ (U : RunState). MayLeave (IsBeingWritten (turn ∷ [])) U file) (as_it_was not)
          (one_weaker (IsUnitOfFlow e) (IsBeingWritten (turn ∷ [])) (λ unit flow. inr flow.1) T file left))
    ]

    way_ready : OnTheWay all ready.disk
    way_ready =
        goes_on turns turn old.disk ready.disk IsRestart S
        (λ file left. left_next start turns turn file
        (one_weaker IsRestart (IsBeingWritten (turn ∷ [])) (λ unit is. inl is) S file left)) going.telling
        (later_way turns turn old.disk going.any_moment) (readies.any_moment S going.stands)

    pub turned : Going all new
    turned = record {
      stands = subst (λ (U : RunState). IsIn tells content may_leave U new) (sym after) (leaves.answers T stands_ready).2;
      max = leaves.max ∙ (readies.max ∙ going.max);
      telling = leaves.telling ∙ telling_ready;
      fault = omega (
        arith,
        going.fault,
        readies.later,
        leaves.later,
        leaves.fault,
        told_faults-push turns e t,
      );
      any_moment = goes_on turns turn ready.disk new.disk (IsUnitOfFlow e) T left_served telling_ready way_ready
          (leaves.any_moment T stands_ready);
    }

  -- a restart at which the journal wasn't opened
  pub way_stopped : (turns : List Turn) (old : StoreState D) (new : D) → Going turns old
      → KeepsTo tells content may_leave moment left_since IsRestart (state_after start turns) old.disk new
      → OnTheWay turns new
  way_stopped turns old new going keeps vouches =
      followed moment left_since may_leave JournalFile counts_now first old.disk new
      (λ a. MightHaveLeft start turns) (λ a. MayLeave IsRestart (state_after start turns)) (λ a. MightHaveLeft start turns)
      (λ a b was. was) (λ a b c was left. left_now start turns c left) (going.any_moment vouches)
      (keeps (subst Vouches (sym going.telling) vouches))
