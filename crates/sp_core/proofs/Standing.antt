-- The core stands for the ledger that each kind of change leaves.
use Rattle.sp_access.specs.Flow.{FlowView}
use Rattle.sp_access.specs.Flows.{FlowsView, without_flow}
use Rattle.sp_base.specs.Rows.{Roomy}
use Rattle.sp_copies.specs.History.{History, all_shared, with_closed, with_given_back, with_held, with_made}
use Rattle.sp_copies.specs.Kept.{Kept, MayBeShared, Records}
use Rattle.sp_copies.proofs.ClosedSound.{used-with_closed}
use Rattle.sp_copies.specs.declared.closed.Closing.{Closing}
use Rattle.sp_copies.specs.declared.closed.Closing.TheVariants as closings
use Rattle.sp_copies.specs.declared.made.NewCopy.{NewCopy}
use Rattle.sp_copies.specs.declared.made.Share.{Share}
use Rattle.sp_core.specs.Stands.{Stands}
use Rattle.sp_core.specs.State.{CoreState}
use Rattle.sp_endpoint.specs.Endpoint.{EndpointView}
use Rattle.sp_endpoint.specs.Endpoints.{replaced, without_endpoint}
use Rattle.sp_ledger.proofs.EachKind.{begun_sound, change_sound, units_after}
use Rattle.sp_ledger.proofs.Moving.{move_counts}
use Rattle.sp_ledger.specs.Allowed.{IsAllowed, IsShare, MayMove, MayPublish}
use Rattle.sp_ledger.specs.Changes.{Change, becomes, binds, changed, closes, comes, frees, goes, holds, moves, publishes, unbinds, unbinds_all, with_logged, with_message}
use Rattle.sp_ledger.specs.Ledger.{Ledger, Published}
use Rattle.sp_ledger.specs.Limits.{spent}
use Rattle.sp_ledger.specs.Sound.{IsCounted, IsSound}
use Rattle.sp_ledger.specs.Step.{begun}
use Rattle.sp_copies.specs.History.{used_bytes}
use Rattle.sp_message.specs.declared.message.Message.{Message}
use Rattle.std.proofs.Common.{ap, arith, refl, subst, sym, ◌∙◌}
use Rattle.std.proofs.lemmas.List.Elements.{All-weaker}
use Rattle.std.specs.Prelude.{Bool, List, [], false, max, true, ℕ, ◌++◌, ◌+◌, ◌<◌, ◌^◌, ◌∷◌, ◌≡◌, ◌≤◌}

-- what holds between units holds after each change, and after a unit was begun
change_ledger : (c : Change) (L : Ledger) → IsCounted L → IsAllowed c L → IsCounted (changed c L)
change_ledger c L l may = record {
  sound = change_sound c L l.sound may;
  unit = let same = units_after (c ∷ []) L in let most = l.unit in omega (arith, same, most);
}

-- what the fields stand for
pub standing : (inside seen : CoreState) (L : Ledger) → inside ≡ seen → Stands seen L → Stands inside L
standing inside seen L is s = subst (λ (k : CoreState). Stands k L) (sym is) s

module _ (core : CoreState) (L : Ledger) (s : Stands core L) where
  pub begins : (unit clock moment : ℕ) → L.next.unit ≤ spent → unit ≡ core.next_unit + 1 → clock ≡ max core.clock moment →
      Stands (record core { next_unit = unit; clock = clock }) (begun moment L)
  begins unit clock moment left counted later = record {
    endpoints = s.endpoints;
    messages = s.messages;
    copies = s.copies;
    flows = s.flows;
    log = s.log;
    replays = s.replays;
    next_endpoint = s.next_endpoint;
    next_message = s.next_message;
    next_flow = s.next_flow;
    next_replay = s.next_replay;
    next_unit = counted ∙ ap (λ n. n + 1) s.next_unit;
    clock = later ∙ ap (λ m. max m moment) s.clock;
    ledger = record { sound = begun_sound moment L s.ledger.sound; unit = omega (arith, left) };
  }

  pub came : (E : Roomy EndpointView) (n : ℕ) (e : EndpointView) → IsAllowed (comes e) L →
      E.items ≡ core.endpoints.items ++ e ∷ [] → n ≡ e.number + 1 →
      Stands (record core { endpoints = E; next_endpoint = n }) (changed (comes e) L)
  came E n e may items number = record {
    endpoints = items ∙ ap (λ es. es ++ e ∷ []) s.endpoints;
    messages = s.messages;
    copies = s.copies;
    flows = s.flows;
    log = s.log;
    replays = s.replays;
    next_endpoint = number;
    next_message = s.next_message;
    next_flow = s.next_flow;
    next_replay = s.next_replay;
    next_unit = s.next_unit;
    clock = s.clock;
    ledger = change_ledger (comes e) L s.ledger may;
  }

  -- other endpoints stand there
  endpoints_stand : (E : Roomy EndpointView) (c : Change) → IsAllowed c L → (es : List EndpointView) →
      changed c L ≡ record L { endpoints = es } → E.items ≡ es → Stands (record core { endpoints = E }) (record L { endpoints = es })
  endpoints_stand E c may es is items = record {
    endpoints = items;
    messages = s.messages;
    copies = s.copies;
    flows = s.flows;
    log = s.log;
    replays = s.replays;
    next_endpoint = s.next_endpoint;
    next_message = s.next_message;
    next_flow = s.next_flow;
    next_replay = s.next_replay;
    next_unit = s.next_unit;
    clock = s.clock;
    ledger = subst IsCounted is (change_ledger c L s.ledger may);
  }

  pub went : (E : Roomy EndpointView) (n : ℕ) → IsAllowed (goes n) L → E.items ≡ without_endpoint n core.endpoints.items →
      Stands (record core { endpoints = E }) (changed (goes n) L)
  went E n may items = endpoints_stand E (goes n) may (without_endpoint n L.endpoints) refl (items ∙ ap (without_endpoint n) s.endpoints)

  pub became : (E : Roomy EndpointView) (e : EndpointView) → IsAllowed (becomes e) L → E.items ≡ replaced e core.endpoints.items →
      Stands (record core { endpoints = E }) (changed (becomes e) L)
  became E e may items = endpoints_stand E (becomes e) may (replaced e L.endpoints) refl (items ∙ ap (replaced e) s.endpoints)

  pub published : (M : Roomy Published) (C : Kept) (n : ℕ) (m : Message) (shares : List Share) → IsAllowed (publishes m shares) L →
      M.items ≡ core.messages.items ++ record { number = core.next_message; message = m; moment = core.clock } ∷ [] →
      ((H : History) → Records core.copies H → Records C (all_shared core.clock shares H)) →
      n ≡ core.next_message + 1 →
      Stands (record core { messages = M; copies = C; next_message = n }) (changed (publishes m shares) L)
  published M C n m shares may items made number = record {
    endpoints = s.endpoints;
    messages = items ∙ (λ i. s.messages i ++ record { number = s.next_message i; message = m; moment = s.clock i } ∷ []);
    copies = subst (λ (k : ℕ). Records C (all_shared k shares L.copies)) s.clock (made L.copies s.copies);
    flows = s.flows;
    log = ap (with_logged L.next.message (with_message m L)) s.log;
    replays = s.replays;
    next_endpoint = s.next_endpoint;
    next_message = number ∙ ap (λ k. k + 1) s.next_message;
    next_flow = s.next_flow;
    next_replay = s.next_replay;
    next_unit = s.next_unit;
    clock = s.clock;
    ledger = change_ledger (publishes m shares) L s.ledger may;
  }

  -- other copies stand there
  copies_stand : (C : Kept) (c : Change) → IsAllowed c L → (H : History) → changed c L ≡ record L { copies = H } → Records C H →
      Stands (record core { copies = C }) (record L { copies = H })
  copies_stand C c may H is records = record {
    endpoints = s.endpoints;
    messages = s.messages;
    copies = records;
    flows = s.flows;
    log = s.log;
    replays = s.replays;
    next_endpoint = s.next_endpoint;
    next_message = s.next_message;
    next_flow = s.next_flow;
    next_replay = s.next_replay;
    next_unit = s.next_unit;
    clock = s.clock;
    ledger = subst IsCounted is (change_ledger c L s.ledger may);
  }

  pub closed : (C : Kept) (copy : ℕ) (how : Closing) → IsAllowed (closes copy how) L →
      ((H : History) → Records core.copies H → Records C (with_closed copy how core.clock H)) →
      Stands (record core { copies = C }) (changed (closes copy how) L)
  closed C copy how may records =
      copies_stand C (closes copy how) may (with_closed copy how L.now L.copies) refl
      (subst (λ (k : ℕ). Records C (with_closed copy how k L.copies)) s.clock (records L.copies s.copies))

  -- where a copy may be moved, a number is left for the other
  pub number_left : (copy : ℕ) (new : NewCopy) → MayMove L copy new → L.copies.next ≤ 2 ^ 62
  number_left copy new may =
      let counts = move_counts L copy new s.ledger.sound may in
      let left = s.ledger.sound.copies.next in
      omega (arith, counts, left)

  -- and the other fits, once the first is closed
  pub fits_there : (copy : ℕ) (how : Closing) (moment : ℕ) (new : NewCopy) → MayMove L copy new →
      used_bytes (with_closed copy how moment L.copies) new.endpoint + new.size ≤ 2 ^ 40
  fits_there copy how moment new may =
      let less = used-with_closed L.copies copy how moment new.endpoint in
      let fits = may.fits in
      omega (arith, less, fits)

  pub moved : (left C : Kept) (copy to : ℕ) (new : NewCopy) → IsAllowed (moves copy new) L → to ≡ L.copies.next →
      ((H : History) → Records core.copies H → Records left (with_closed copy (closings.Moved to) core.clock H)) →
      ((H : History) → Records left H → Records C (with_made new H)) →
      Stands (record core { copies = C }) (changed (moves copy new) L)
  moved left C copy to new may is closed made =
      copies_stand C (moves copy new) may (with_made new (with_closed copy (closings.Moved L.copies.next) L.now L.copies))
      refl (made (with_closed copy (closings.Moved L.copies.next) L.now L.copies)
      (subst (λ (n : ℕ). Records left (with_closed copy (closings.Moved n) L.now L.copies)) is
      (subst (λ (k : ℕ). Records left (with_closed copy (closings.Moved to) k L.copies)) s.clock (closed L.copies s.copies))))

  pub held : (C : Kept) (copy flow : ℕ) → IsAllowed (holds copy flow) L →
      ((H : History) → Records core.copies H → Records C (with_held copy flow H)) →
      Stands (record core { copies = C }) (changed (holds copy flow) L)
  held C copy flow may records = copies_stand C (holds copy flow) may (with_held copy flow L.copies) refl (records L.copies s.copies)

  pub freed : (C : Kept) (copy : ℕ) → IsAllowed (frees copy) L →
      ((H : History) → Records core.copies H → Records C (with_given_back copy H)) →
      Stands (record core { copies = C }) (changed (frees copy) L)
  freed C copy may records = copies_stand C (frees copy) may (with_given_back copy L.copies) refl (records L.copies s.copies)

  pub bound : (F : FlowsView) (f : FlowView) → IsAllowed (binds f) L →
      F.flows ≡ core.flows.flows ++ record f { number = core.flows.next } ∷ [] → F.next ≡ core.flows.next + 1 →
      Stands (record core { flows = F }) (changed (binds f) L)
  bound F f may flows next = record {
    endpoints = s.endpoints;
    messages = s.messages;
    copies = s.copies;
    flows = flows ∙ (λ i. s.flows i ++ record f { number = (s.next_flow ∙ sym may.number) i } ∷ []);
    log = s.log;
    replays = s.replays;
    next_endpoint = s.next_endpoint;
    next_message = s.next_message;
    next_flow = next ∙ ap (λ n. n + 1) (s.next_flow ∙ sym may.number);
    next_replay = s.next_replay;
    next_unit = s.next_unit;
    clock = s.clock;
    ledger = change_ledger (binds f) L s.ledger may;
  }

  pub unbound : (F : FlowsView) (flow : ℕ) → IsAllowed (unbinds flow) L →
      F.flows ≡ without_flow flow core.flows.flows → F.next ≡ core.flows.next →
      Stands (record core { flows = F }) (changed (unbinds flow) L)
  unbound F flow may flows next = record {
    endpoints = s.endpoints;
    messages = s.messages;
    copies = s.copies;
    flows = flows ∙ ap (without_flow flow) s.flows;
    log = s.log;
    replays = s.replays;
    next_endpoint = s.next_endpoint;
    next_message = s.next_message;
    next_flow = next ∙ s.next_flow;
    next_replay = s.next_replay;
    next_unit = s.next_unit;
    clock = s.clock;
    ledger = change_ledger (unbinds flow) L s.ledger may;
  }

  pub all_unbound : (F : FlowsView) → IsAllowed unbinds_all L → F.flows ≡ [] → F.next ≡ core.flows.next →
      Stands (record core { flows = F }) (changed unbinds_all L)
  all_unbound F may flows next = record {
    endpoints = s.endpoints;
    messages = s.messages;
    copies = s.copies;
    flows = flows;
    log = s.log;
    replays = s.replays;
    next_endpoint = s.next_endpoint;
    next_message = s.next_message;
    next_flow = next ∙ s.next_flow;
    next_replay = s.next_replay;
    next_unit = s.next_unit;
    clock = s.clock;
    ledger = change_ledger unbinds_all L s.ledger may;
  }

-- where a message may be published with these copies, they may be made
pub may_be_shared : (L : Ledger) → IsSound L → (m : Message) (shares : List Share) → MayPublish L m shares → MayBeShared shares L.copies
may_be_shared L s m shares may = record {
  numbers = let copies = may.copies in omega (arith, copies);
  fit = All-weaker (IsShare L m) (λ t. used_bytes L.copies t.copy.endpoint + t.copy.size ≤ 2 ^ 40) (λ t is. fits t is t.is_spooled refl) shares may.each;
  apart = may.apart;
}
  where
    fits : (t : Share) → IsShare L m t → (b : Bool) → t.is_spooled ≡ b → used_bytes L.copies t.copy.endpoint + t.copy.size ≤ 2 ^ 40
    fits t is true spooled = let most = is.fits spooled in omega (arith, most)
    fits t is false spooled = let small = is.small spooled in let quota = s.copies.quota t.copy.endpoint in omega (arith, small, quota)
