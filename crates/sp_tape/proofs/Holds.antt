-- What a run's answers told holds at its end.
use Rattle.std.proofs.Common.{◌≡◌, ℕ, Bool, List, [], ◌∷◌, ◌++◌, None, Some, Option, Result, Ok, Err, true, inl, inr, refl, sym, ap, subst, ◌∙◌}
use Rattle.std.specs.Prelude.{◌==◌, All, IsTrue, ⊤, is_some}
use Rattle.std.proofs.lemmas.Bool.{eqb-true}
use Rattle.std.proofs.lemmas.List.Elements.{All-nil, All-cons, All-append, All-weaker, All-head, All-tail}
use Rattle.sp_base.specs.Name.{is_caller}
use Rattle.sp_base.specs.declared.refusal.Refusal.{Refusal}
use Rattle.sp_base.specs.declared.refusal.Refusal.TheVariants.{BadRequest}
use Rattle.sp_copies.specs.History.{History, is_closed, is_made}
use Rattle.sp_copies.specs.Sound.{IsSoundHistory}
use Rattle.sp_copies.specs.declared.closed.ClosedCopy.{ClosedCopy}
use Rattle.sp_copies.specs.declared.closed.Closing.{Closing}
use Rattle.sp_copies.specs.declared.closed.Fate.{Fate}
use Rattle.sp_copies.specs.declared.closed.Fate.TheVariants as fates
use Rattle.sp_event.specs.declared.answer.Answered.{Answered}
use Rattle.sp_event.specs.declared.answer.Answered.TheVariants.{Gave, Refused, Memory, Disk, Full}
use Rattle.sp_event.specs.declared.answer.CopyFate.{CopyFate}
use Rattle.sp_event.specs.declared.answer.Reply.{Reply}
use Rattle.sp_event.specs.declared.request.Ask.{Ask}
use Rattle.sp_event.specs.declared.request.Ask.TheVariants.{Do, Look}
use Rattle.sp_event.specs.declared.request.Event.{Event}
use Rattle.sp_event.specs.declared.request.Query.{Query}
use Rattle.sp_ledger.specs.Asked.{Gives, Answers}
use Rattle.sp_ledger.specs.Events.{outcome}
use Rattle.sp_ledger.specs.Ledger.{Ledger}
use Rattle.sp_ledger.specs.Sound.{IsLedger, IsSound}
use Rattle.sp_ledger.specs.Order.{HandsOutInOrder}
use Rattle.sp_ledger.specs.Step.{Outcome, begun, refused, idle, accepted}
use Rattle.sp_ledger.specs.Tally.{TellsBalanced}
use Rattle.sp_ledger.specs.Told.{Extends, FateHolds, IsTold, TellsFates, told_fates}
use Rattle.sp_ledger.proofs.Answered.{accepted_balanced, answer_balanced, answer_shows, idle_balanced}
use Rattle.sp_ledger.proofs.CopiesKept.{kept_of}
use Rattle.sp_ledger.proofs.Fates.{one_fate}
use Rattle.sp_ledger.proofs.Growth.{Extends-refl, Extends-trans, outcome_extends, still_told}
use Rattle.sp_ledger.proofs.InOrder.{accepted_in_order, answer_in_order, idle_in_order}
use Rattle.sp_ledger.proofs.Listed.{All-any}
use Rattle.sp_ledger.proofs.Steps.{outcome_sound}
use Rattle.sp_ledger.proofs.Tallies.{closed-closing}
use Rattle.sp_ledger.proofs.Telling.{accepted_tells, idle_tells, shown_so, told_so}
use Rattle.sp_tape.specs.declared.entry.Entry.{Entry}
use Rattle.sp_tape.specs.declared.entry.Kind.{Kind}
use Rattle.sp_tape.specs.declared.entry.Kind.TheVariants.{Flow, Http, Rdp, Restart}
use Rattle.sp_store.proofs.Ledgers.{leads_on}
use Rattle.sp_store.specs.Commit.{Comes, Receives}
use Rattle.sp_store.specs.Units.{IsLedgerOf}
use Rattle.sp_store.specs.declared.receipt.CommitFault.{CommitFault}
use Rattle.sp_store.specs.declared.receipt.CommitFault.TheVariants as fault
use Rattle.sp_store.specs.declared.receipt.Receipt.{Receipt}
use Rattle.sp_tape.specs.Acts.{Acts, ActsAs, AnswersEvent, AnswersReading, IsToldOf, Told, unit_of}
use Rattle.sp_tape.specs.Entry.{IsEntry}
use Rattle.sp_tape.specs.Fates.{AnswerHolds, CopyHolds, ReplyHolds, is_of_made}
use Rattle.sp_tape.specs.Order.{AnswersInOrder, IsInOrder, KeepsOrder}
use Rattle.sp_tape.specs.Run.{Turn, IsRun, answers_of, state_after, state_left}
use Rattle.sp_tape.specs.Runs.{GoesOn}
use Rattle.sp_tape.specs.State.{RunState}
use Rattle.sp_tape.proofs.Opened.{again_extends, again_leads}
use Rattle.sp_unit.specs.UnitBytes.{UnitView}

-- what is known of an answer, on the ledger after it and on each later one
abbrev pub Tells : Ledger → Answered → Type 0
Tells M (Gave reply) = IsTold M.copies reply × TellsBalanced reply
Tells M (Refused refusal index) = ⊤
Tells M Memory = ⊤
Tells M Disk = ⊤
Tells M (Full len need most) = ⊤

still_tells : (L M : Ledger) → Extends L M → (a : Answered) → Tells L a → Tells M a
still_tells L M x (Gave reply) h = (still_told L M x reply h.0, h.1)
still_tells L M x (Refused refusal index) h = tt
still_tells L M x Memory h = tt
still_tells L M x Disk h = tt
still_tells L M x (Full len need most) h = tt

-- a later ledger, and what was told on the way
pub record Goes (moment : ℕ) (L M : Ledger) (a : Answered) : Type 0 where
  pub ledger : IsLedger M
  pub extends : Extends L M
  pub tells : Tells M a
  pub order : KeepsOrder (begun moment L) a

stays : (moment : ℕ) (L M : Ledger) (a : Answered) → IsLedger L → M ≡ L → Tells M a → KeepsOrder (begun moment L) a →
    Goes moment L M a
stays moment L M a s e t o = record {
  ledger = subst IsLedger (sym e) s;
  extends = subst (Extends L) (sym e) (Extends-refl L);
  tells = t;
  order = o;
}

module _ (L M : Ledger) (s : IsLedger L) (moment : ℕ) (caller : List ℕ) (short : is_caller caller ≡ true) where
  gives : (event : Event) (reply : Reply) (o : Outcome) → outcome moment caller event L ≡ o → Gives o L reply M →
      Goes moment L M (Gave reply)
  gives event reply (refused refusal) e h = absurd h
  gives event reply (idle told) e (is, same) =
      let done : outcome moment caller event L ≡ idle (reply ∷ []) = e ∙ ap idle is in
      let tells = All-head (TellsFates L.copies) reply []
      (idle_tells L s.sound moment caller event (reply ∷ []) done) in
      let balanced = All-head TellsBalanced reply [] (idle_balanced L moment caller event (reply ∷ []) done) in
      stays moment L M (Gave reply) s same
      (subst (λ (N : Ledger). IsTold N.copies reply) (sym same) (told_so L.copies reply tells), balanced)
      (All-head (HandsOutInOrder (begun moment L)) reply []
      (idle_in_order L s moment caller event (reply ∷ []) done))
  gives event reply (accepted N told) e (is, same) =
      let done : outcome moment caller event L ≡ accepted M (reply ∷ []) =
      e ∙ (ap (λ (rs : List Reply). accepted N rs) is ∙ ap (λ (K : Ledger). accepted K (reply ∷ [])) (sym same)) in
      let tells = All-head (TellsFates M.copies) reply []
      (accepted_tells L s.sound moment caller event (reply ∷ []) M done) in
      record {
        ledger = outcome_sound L s moment caller short event M (reply ∷ []) done;
        extends = outcome_extends L moment caller event M (reply ∷ []) done;
        tells = (
          told_so M.copies reply tells,
          All-head TellsBalanced reply [] (accepted_balanced L moment caller event (reply ∷ []) M done),
        );
        order = All-head (HandsOutInOrder (begun moment L)) reply []
            (accepted_in_order L s moment caller event (reply ∷ []) M done);
      }

  -- a query is answered, and the ledger stays
  asked : (query : Query) (a : Answered) → Answers moment caller (Look query) L a L → M ≡ L → Goes moment L M a
  asked query (Gave reply) h same =
      stays moment L M (Gave reply) s same (
        subst (λ (N : Ledger). IsTold N.copies reply) (sym same)
            (shown_so L.copies reply (answer_shows L moment caller query reply h.0)),
        answer_balanced L s.sound moment caller query reply h.0,
      )
      (answer_in_order L (begun moment L) moment caller query reply h.0)
  asked query (Refused refusal index) h same = stays moment L M (Refused refusal index) s same tt tt
  asked query Memory h same = absurd h
  asked query Disk h same = absurd h
  asked query (Full len need most) h same = absurd h

  lacks : (a : Answered) → a ≡ Memory → M ≡ L → Goes moment L M a
  lacks a is same = subst (Goes moment L M) (sym is) (stays moment L M Memory s same tt tt)

  fails : (a : Answered) → a ≡ Disk → M ≡ L → Goes moment L M a
  fails a is same = subst (Goes moment L M) (sym is) (stays moment L M Disk s same tt tt)

  is_full : (len need most : ℕ) (a : Answered) → a ≡ Full len need most → M ≡ L → Goes moment L M a
  is_full len need most a is same = subst (Goes moment L M) (sym is) (stays moment L M (Full len need most) s same tt tt)

  refuses : (refusal : Refusal) (a : Answered) → a ≡ Refused refusal None → M ≡ L → Goes moment L M a
  refuses refusal a is same = subst (Goes moment L M) (sym is) (stays moment L M (Refused refusal None) s same tt tt)

abbrev told_of : Answered → RunState → Told
told_of a T = record { answered = a; after = T }

abbrev state : Option UnitView → List UnitView → Ledger → RunState
state unsure units L = record { units = units; ledger = L; unsure = unsure }

-- what an answer leaves of a state
pub record Steps (moment : ℕ) (S T : RunState) (a : Answered) : Type 0 where
  pub goes : Goes moment S.ledger T.ledger a
  pub leads : IsLedgerOf T.units T.ledger

module _ (S T : RunState) (s : IsLedger S.ledger) (leads : IsLedgerOf S.units S.ledger) (moment : ℕ) (caller : List ℕ) (short : is_caller caller ≡ true) where
  same_leads : T.units ≡ S.units → T.ledger ≡ S.ledger → IsLedgerOf T.units T.ledger
  same_leads units ledger =
      subst (λ (us : List UnitView). IsLedgerOf us T.ledger) (sym units)
      (subst (IsLedgerOf S.units) (sym ledger) leads)

  -- the state stays but for what is unsure
  keeps : (unsure : Option UnitView) (a : Answered) → T ≡ state unsure S.units S.ledger
      → (T.ledger ≡ S.ledger → Goes moment S.ledger T.ledger a) → Steps moment S T a
  keeps unsure a same goes = record {
    goes = goes (ap (λ (t : RunState). t.ledger) same);
    leads = same_leads (ap (λ (t : RunState). t.units) same) (ap (λ (t : RunState). t.ledger) same);
  }

  module _ (event : Event) where
    abbrev unit : UnitView
    unit = unit_of moment caller event

    received : (o : Outcome) → outcome moment caller event S.ledger ≡ o → (receipt : Receipt) (reply : Reply)
        → Receives (λ unsure us M. T ≡ state unsure us M) unit S.units S.ledger o receipt
        → receipt.replies.items ≡ reply ∷ [] → Steps moment S T (Gave reply)
    received (refused refusal) e receipt reply given one = absurd given
    received (idle told) e receipt reply given one =
        keeps None (Gave reply) given.1 (λ same. gives S.ledger T.ledger s moment caller short event reply (idle told) e
        (sym given.0.replies ∙ one, same))
    received (accepted N told) e receipt reply given one =
        let ledger = ap (λ (t : RunState). t.ledger) given.1 in
        let units = ap (λ (t : RunState). t.units) given.1 in
        record {
          goes = gives S.ledger T.ledger s moment caller short event reply (accepted N told) e
              (sym given.0.replies ∙ one, ledger);
          leads = subst (λ (us : List UnitView). IsLedgerOf us T.ledger) (sym units)
              (subst (IsLedgerOf (S.units ++ unit ∷ [])) (sym ledger)
              (leads_on S.units unit _ S.ledger N leads (record { event = event; told = told; one = refl; step = e })));
        }

    comes : (place most : ℕ) (a : Answered) (result : Result Receipt CommitFault)
        → Comes (λ unsure us M. T ≡ state unsure us M) unit S.units S.ledger place most event
        (outcome moment caller event S.ledger) result
        → IsToldOf result a → Steps moment S T a
    comes place most a (Ok receipt) came told =
        subst (Steps moment S T) (sym told.2) (received (outcome moment caller event S.ledger) refl receipt told.0 came.0 told.1)
    comes place most a (Err (fault.Refused index refusal)) came told =
        keeps None a came.2 (refuses S.ledger T.ledger s moment caller short refusal a told)
    comes place most a (Err fault.Memory) came told =
        keeps None a came (lacks S.ledger T.ledger s moment caller short a told)
    comes place most a (Err (fault.Full len need limit)) came told =
        keeps None a came.2 (is_full S.ledger T.ledger s moment caller short len need limit a told)
    comes place most a (Err fault.Disk) came told =
        keeps (Some unit) a came.2 (fails S.ledger T.ledger s moment caller short a told)

    committed : (trusted : Bool) (most : ℕ) (a : Answered) → AnswersEvent trusted most moment caller event S (told_of a T)
        → Steps moment S T a
    committed trusted most a h = elim h.commits [
      | inl failed ↦ keeps S.unsure a failed.2 (fails S.ledger T.ledger s moment caller short a
          (subst (λ (r : Result Receipt CommitFault). IsToldOf r a) failed.0 h.told))
      | inr came ↦ comes h.place most a h.result came h.told
    ]

  same_state : (a : Answered) → T ≡ S → (T.ledger ≡ S.ledger → Goes moment S.ledger T.ledger a) → Steps moment S T a
  same_state a same goes = keeps S.unsure a same goes

module _ (trusted : Bool) (most : ℕ) (S T : RunState) (s : IsLedger S.ledger) (leads : IsLedgerOf S.units S.ledger) (e : Entry) (is : IsEntry e) (a : Answered) where
  asks : (ask : Ask) → AnswersReading trusted most e.moment e.caller (Ok ask) S (told_of a T) → Steps e.moment S T a
  asks (Do event) h = committed S T s leads e.moment e.caller is.short event trusted most a h
  asks (Look query) h =
      same_state S T s leads e.moment e.caller is.short a h.1 (asked S.ledger T.ledger s e.moment e.caller is.short query a h.0)

  reads : (r : Result Ask Refusal) → AnswersReading trusted most e.moment e.caller r S (told_of a T) → Steps e.moment S T a
  reads (Ok ask) h = asks ask h
  reads (Err refusal) h =
      same_state S T s leads e.moment e.caller is.short a h.1 (refuses S.ledger T.ledger s e.moment e.caller is.short refusal a h.0)

  bad : (a ≡ Refused (BadRequest 1) None) × (T ≡ S) → Steps e.moment S T a
  bad h = same_state S T s leads e.moment e.caller is.short a h.1 (refuses S.ledger T.ledger s e.moment e.caller is.short (BadRequest 1) a h.0)

-- what an entry's answer leaves; a restart's extends the ledger where the disk tells its content
record Entered (trusted : Bool) (e : Entry) (S T : RunState) (a : Answered) : Type 0 where
  ledger : IsLedger T.ledger
  leads : IsLedgerOf T.units T.ledger
  extends : (e.kind ≡ Restart → IsTrue trusted) → Extends S.ledger T.ledger
  tells : Tells T.ledger a
  order : KeepsOrder (begun e.moment S.ledger) a

stepped : (trusted : Bool) (e : Entry) (S T : RunState) (a : Answered) → Steps e.moment S T a → Entered trusted e S T a
stepped trusted e S T a h = record {
  ledger = h.goes.ledger;
  leads = h.leads;
  extends = λ on. h.goes.extends;
  tells = h.goes.tells;
  order = h.goes.order;
}

module _ (trusted : Bool) (most : ℕ) (S T : RunState) (s : IsLedger S.ledger) (leads : IsLedgerOf S.units S.ledger) (e : Entry) (is : IsEntry e) (a : Answered) where
  acts_as : (k : Kind) → e.kind ≡ k → ActsAs trusted most k e S (told_of a T) → Entered trusted e S T a
  acts_as Flow k h = stepped trusted e S T a (elim h [
    | inl read ↦ reads trusted most S T s leads e is a read.0 read.2
    | inr lack ↦ same_state S T s leads e.moment e.caller is.short a lack.1
        (lacks S.ledger T.ledger s e.moment e.caller is.short a lack.0)
  ])
  acts_as Http k h = stepped trusted e S T a (bad trusted most S T s leads e is a h)
  acts_as Rdp k h = stepped trusted e S T a (bad trusted most S T s leads e is a h)
  acts_as Restart k h =
      subst (Entered trusted e S T) (sym h.0) (record {
        ledger = h.1.2.sound;
        leads = again_leads h.1.0 T h.1.2;
        extends = λ on. again_extends S T leads h.1.0 (h.1.1 (on k)) h.1.2;
        tells = (
          All-nil (λ (u : CopyFate). FateHolds T.ledger.copies u.copy u.fate),
          λ tally is. absurd (cc),
        );
        order = tt;
      })

-- what the answers of one turn leave
record Turns (trusted : Bool) (e : Entry) (S : RunState) (told : List Told) : Type 0 where
  ledger : IsLedger (state_left S told).ledger
  leads : IsLedgerOf (state_left S told).units (state_left S told).ledger
  extends : (e.kind ≡ Restart → IsTrue trusted) → Extends S.ledger (state_left S told).ledger
  tells : All (λ (t : Told). Tells (state_left S told).ledger t.answered) told
  each : All (λ (t : Told). IsLedger t.after.ledger) told
  order : AnswersInOrder e.moment S told

turns : (trusted : Bool) (most : ℕ) (S : RunState) → IsLedger S.ledger → IsLedgerOf S.units S.ledger → (e : Entry) → IsEntry e
    → (told : List Told) → Acts trusted most e S told → Turns trusted e S told
turns trusted most S s leads e is told (t, one, acts) =
    let h = acts_as trusted most S t.after s leads e is t.answered e.kind refl acts in
    subst (Turns trusted e S) (sym one) (record {
      ledger = h.ledger;
      leads = h.leads;
      extends = h.extends;
      tells = All-cons (λ (u : Told). Tells t.after.ledger u.answered) t [] h.tells
          (All-nil (λ (u : Told). Tells t.after.ledger u.answered));
      each = All-cons (λ (u : Told). IsLedger u.after.ledger) t [] h.ledger
          (All-nil (λ (u : Told). IsLedger u.after.ledger));
      order = (h.order, tt);
    })

-- what a whole run leaves
pub record Went (trusted : Bool) (S : RunState) (ts : List Turn) : Type 0 where
  pub ledger : IsLedger (state_after S ts).ledger
  pub leads : IsLedgerOf (state_after S ts).units (state_after S ts).ledger
  pub extends : GoesOn trusted ts → Extends S.ledger (state_after S ts).ledger
  pub tells : GoesOn trusted ts → All (λ (t : Told). Tells (state_after S ts).ledger t.answered) (answers_of ts)
  pub each : All (λ (t : Told). IsLedger t.after.ledger) (answers_of ts)
  pub order : IsInOrder S ts

pub went : (trusted : Bool) (most : ℕ) (S : RunState) → IsLedger S.ledger → IsLedgerOf S.units S.ledger → (ts : List Turn)
    → IsRun trusted most S ts → Went trusted S ts
went trusted most S s leads [] r = record {
  ledger = s;
  leads = leads;
  extends = λ on. Extends-refl S.ledger;
  tells = λ on. All-nil (λ (t : Told). Tells S.ledger t.answered);
  each = All-nil (λ (t : Told). IsLedger t.after.ledger);
  order = tt;
}
went trusted most S s leads (t ∷ ts) r =
    let N = state_left S t.told in
    let M = state_after N ts in
    let here = turns trusted most S s leads t.entry r.0.0 t.told r.0.1 in
    let rest = went trusted most N here.ledger here.leads ts r.1 in
    let On = λ (u : Turn). u.entry.kind ≡ Restart → IsTrue trusted in
    record {
      ledger = rest.ledger;
      leads = rest.leads;
      extends = λ on. Extends-trans S.ledger N.ledger M.ledger (here.extends (All-head On t ts on))
          (rest.extends (All-tail On t ts on));
      tells = λ on. All-append (λ (u : Told). Tells M.ledger u.answered) t.told (answers_of ts)
          (All-weaker (λ (u : Told). Tells N.ledger u.answered) (λ (u : Told). Tells M.ledger u.answered)
          (λ u h. still_tells N.ledger M.ledger (rest.extends (All-tail On t ts on)) u.answered h) t.told here.tells)
          (rest.tells (All-tail On t ts on));
      each = All-append (λ (u : Told). IsLedger u.after.ledger) t.told (answers_of ts) here.each rest.each;
      order = (here.order, rest.order);
    }

-- a copy of any fate but never was made

closed_is_made : (H : History) → IsSoundHistory H → (copy : ℕ) → is_closed H.closed copy ≡ true →
    is_made H.made copy ≡ true
closed_is_made H s copy h =
    All-any (λ (x : ClosedCopy). IsTrue (is_made H.made x.copy)) (is_made H.made copy ≡ true)
    (λ x. x.copy == copy) H.closed s.closed_made
    (λ x is test. subst (λ k. is_made H.made k ≡ true) (eqb-true _ _ test) is) h

module _ (H : History) (s : IsSoundHistory H) (copy : ℕ) where
  made_where_closed : is_closed H.closed copy ≡ true → is_made H.made copy ≡ true
  made_where_closed = closed_is_made H s copy

  made_by_fate : (fate : Fate) → FateHolds H copy fate → is_of_made fate ≡ true → is_made H.made copy ≡ true
  made_by_fate fates.Never h of = absurd (cc)
  made_by_fate fates.Spooled h of = h
  made_by_fate fates.Accepted h of = made_where_closed (closed-closing H.closed copy ∙ ap (λ (o : Option Closing). is_some o) h)
  made_by_fate (fates.Moved to) h of = made_where_closed (closed-closing H.closed copy ∙ ap (λ (o : Option Closing). is_some o) h)
  made_by_fate (fates.Discarded cause) h of = made_where_closed (closed-closing H.closed copy ∙ ap (λ (o : Option Closing). is_some o) h)
  made_by_fate fates.Earlier h of = made_where_closed h

reply_holds : (M : Ledger) → IsSound M → (r : Reply) → IsTold M.copies r → TellsBalanced r → ReplyHolds M r
reply_holds M s r told balanced =
    let H = M.copies in
    let sound = (kept_of M s).history in (
      All-weaker (λ (t : CopyFate). FateHolds H t.copy t.fate) (CopyHolds M)
          (λ t h. (h, λ of. one_fate H sound t.copy (made_by_fate H sound t.copy t.fate h of))) (told_fates r) told,
      balanced,
    )

answer_holds : (M : Ledger) → IsSound M → (a : Answered) → Tells M a → AnswerHolds M a
answer_holds M s (Gave reply) h = reply_holds M s reply h.0 h.1
answer_holds M s (Refused refusal index) h = tt
answer_holds M s Memory h = tt
answer_holds M s Disk h = tt
answer_holds M s (Full len need most) h = tt

-- what was told of each copy holds at the end, and each tally adds up
pub run_holds : (trusted : Bool) (S : RunState) (ts : List Turn) → Went trusted S ts → GoesOn trusted ts
    → All (λ (t : Told). AnswerHolds (state_after S ts).ledger t.answered) (answers_of ts)
run_holds trusted S ts w on =
    let M = (state_after S ts).ledger in
    All-weaker (λ (t : Told). Tells M t.answered) (λ (t : Told). AnswerHolds M t.answered)
    (λ t h. answer_holds M w.ledger.sound t.answered h) (answers_of ts) (w.tells on)
