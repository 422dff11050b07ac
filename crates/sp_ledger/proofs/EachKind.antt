-- Each kind of change, where it is allowed, keeps a ledger sound.
use Rattle.sp_access.specs.Activity.{flows_of, is_first}
use Rattle.sp_access.specs.Flows.{flow_count, without_flow}
use Rattle.sp_access.specs.Flow.{FlowView}
use Rattle.sp_base.specs.Name.{is_caller}
use Rattle.sp_copies.proofs.MadeSound.{made_sound, used-with_made}
use Rattle.sp_copies.specs.Counts.{spooled_count}
use Rattle.sp_copies.specs.History.{History, with_closed, with_given_back, with_held, with_made}
use Rattle.sp_copies.specs.declared.closed.Closing.TheVariants as closings
use Rattle.sp_copies.specs.declared.held.HeldCopy.{HeldCopy}
use Rattle.sp_copies.specs.declared.made.MadeCopy.{MadeCopy}
use Rattle.sp_copies.specs.declared.made.NewCopy.{NewCopy}
use Rattle.sp_endpoint.specs.Endpoint.{EndpointView}
use Rattle.sp_endpoint.specs.Endpoints.{replaced, without_endpoint}
use Rattle.sp_ledger.proofs.CopiesKept.{AreKept, below_next, closed_kept, freed_kept, held_kept, kept_among, kept_of}
use Rattle.sp_ledger.proofs.CopiesKept.{made_links, sound_of}
use Rattle.sp_ledger.proofs.EndpointsKept.{after_becoming, after_coming, after_going, flows_among, flows_without}
use Rattle.sp_ledger.proofs.EndpointsKept.{has_endpoint_in_place, there-without, there_in_place}
use Rattle.sp_ledger.proofs.Listed.{All-any, All-both, and_both, and_left, any_grows, any_kept, any_last, pairs_map}
use Rattle.sp_ledger.proofs.Logged.{logged_after}
use Rattle.sp_ledger.proofs.Moving.{enough_left, fewer_movable, move_counts, moved_kept}
use Rattle.sp_ledger.proofs.OneKept.{bound-flow, there-weaker}
use Rattle.sp_ledger.proofs.Shared.{MayShare, shared_kept, shared_next}
use Rattle.sp_ledger.proofs.TurnsKept.{held_below, turn_bound, turn_held, turn_let_go, turn_made, turn_shared}
use Rattle.sp_ledger.proofs.TurnsKept.{turn_unbound, turns_becoming, turns_coming}
use Rattle.sp_ledger.specs.Allowed.{AreAllowed, HasTurn, IsAllowed, IsShare, MayBecome, MayBind, MayCome, MayPublish}
use Rattle.sp_ledger.specs.Allowed.{MayRepeat, MayStart}
use Rattle.sp_ledger.specs.Changes.{Change, Share, all_changed, all_shared, binds, becomes, changed, closes, comes}
use Rattle.sp_ledger.specs.Changes.{ends, frees, goes, goes_on, holds, logs, moves, publishes, repeats, starts}
use Rattle.sp_ledger.specs.Changes.{unbinds, unbinds_all, with_message}
use Rattle.sp_ledger.specs.Ledger.{Ledger, Published, Replay}
use Rattle.sp_ledger.specs.Limits.{greatest_quota}
use Rattle.sp_ledger.specs.One.{is_bound_for, is_by_move}
use Rattle.sp_ledger.specs.Sound.{AreReplays, IsSound, has_endpoint, movable_count, suits_flow}
use Rattle.sp_ledger.specs.Step.{begun}
use Rattle.sp_ledger.specs.Turns.{IsInTurn, is_in}
use Rattle.sp_message.specs.Size.{size_of}
use Rattle.sp_message.specs.declared.message.Message.{Message}
use Rattle.std.proofs.Common.{ap, arith, le_trans, refl, subst, sym, ◌∙◌}
use Rattle.std.proofs.lemmas.Bool.{eq-eqb, eqb-true}
use Rattle.std.proofs.lemmas.List.Elements.{All-filter, All-map, All-nil, All-push, All-weaker}
use Rattle.std.proofs.lemmas.List.Kept.{AllPairs-filter}
use Rattle.std.proofs.lemmas.List.Quantifiers.{all_pairs_push}
use Rattle.std.specs.List.{list_any}
use Rattle.std.specs.Prelude.{All, Bool, IsTrue, List, Some, [], cond, false, if◌then◌else◌, map, not, true, ℕ, ◌&&◌}
use Rattle.std.specs.Prelude.{◌++◌, ◌+◌, ◌<◌, ◌==◌, ◌∷◌, ◌≡◌, ◌≤◌}

-- a unit begins
pub begun_sound : (moment : ℕ) (L : Ledger) → IsSound L → IsSound (begun moment L)
begun_sound moment L s =
    sound_of (begun moment L)
    (kept_among L.flows L.endpoints L.messages L.next.endpoint L.next.unit L.flows L.endpoints L.messages
    L.next.endpoint (L.next.unit + 1) L.copies (kept_of L s) s.one.held.bound s.one.open_there (λ c is. is)
    (omega arith) (omega arith))
    s.copies.next s.endpoints s.messages s.flows s.replays s.logged
    (record {
      endpoint = s.next.endpoint;
      message = s.next.message;
      flow = s.next.flow;
      replay = s.next.replay;
      unit = omega arith;
    })
    s.turns

-- an endpoint comes, goes, or has other fields
comes_sound : (L : Ledger) (e : EndpointView) → IsSound L → MayCome L e → IsSound (changed (comes e) L)
comes_sound L e s may =
    let number = may.number in
    let unspent = may.unspent in
    sound_of (changed (comes e) L)
    (kept_among L.flows L.endpoints L.messages L.next.endpoint L.next.unit L.flows (L.endpoints ++ e ∷ [])
    L.messages (e.number + 1) L.next.unit L.copies (kept_of L s) s.one.held.bound
    (there-weaker L.endpoints (L.endpoints ++ e ∷ [])
    (λ n is. any_grows {X = EndpointView} (λ d. d.number == n) L.endpoints (e ∷ []) is) L.copies.closed
    L.copies.made s.one.open_there) (λ c is. is) (omega (arith, number)) (omega arith))
    s.copies.next (after_coming L e s.endpoints may) s.messages
    (flows_among L.next.flow L.endpoints (L.endpoints ++ e ∷ []) L.flows
    (λ f is. any_grows {X = EndpointView} (λ d. (d.number == f.endpoint) && suits_flow d.kind f.selector)
    L.endpoints (e ∷ []) is) s.flows) s.replays s.logged
    (record {
      endpoint = omega (arith, unspent);
      message = s.next.message;
      flow = s.next.flow;
      replay = s.next.replay;
      unit = s.next.unit;
    })
    (turns_coming L e s (kept_of L s).history may.number)

goes_sound : (L : Ledger) (endpoint : ℕ) → IsSound L → spooled_count L.copies (Some endpoint) ≡ 0 →
    flow_count L.flows endpoint ≡ 0 → IsSound (changed (goes endpoint) L)
goes_sound L endpoint s none unbound =
    sound_of (changed (goes endpoint) L)
    (kept_among L.flows L.endpoints L.messages L.next.endpoint L.next.unit L.flows
    (without_endpoint endpoint L.endpoints) L.messages L.next.endpoint L.next.unit L.copies (kept_of L s)
    s.one.held.bound
    (there-without endpoint L.endpoints L.copies.closed L.copies.made none s.one.open_there) (λ c is. is)
    (omega arith) (omega arith))
    s.copies.next (after_going L.next.endpoint endpoint L.endpoints s.endpoints) s.messages
    (flows_without L.next.flow endpoint L.endpoints L.flows unbound s.flows) s.replays s.logged s.next
    (All-filter (λ (e : EndpointView). not (e.number == endpoint)) (IsInTurn L.flows L.copies) L.endpoints s.turns)

becomes_sound : (L : Ledger) (e : EndpointView) → IsSound L → MayBecome L e → IsSound (changed (becomes e) L)
becomes_sound L e s may =
    sound_of (changed (becomes e) L)
    (kept_among L.flows L.endpoints L.messages L.next.endpoint L.next.unit L.flows (replaced e L.endpoints)
    L.messages L.next.endpoint L.next.unit L.copies (kept_of L s) s.one.held.bound
    (there_in_place L e may L.copies.closed L.copies.made s.one.open_there) (λ c is. is) (omega arith) (omega arith))
    s.copies.next (after_becoming L e may L.next.endpoint s.endpoints) s.messages
    (flows_among L.next.flow L.endpoints (replaced e L.endpoints) L.flows (has_endpoint_in_place L e may) s.flows)
    s.replays s.logged s.next (turns_becoming L e s (kept_of L s).history may)

-- a message is published
publishes_sound : (L : Ledger) (m : Message) (shares : List Share) → IsSound L → MayPublish L m shares →
    IsSound (changed (publishes m shares) L)
publishes_sound L m shares s may =
    let new : Published = record { number = L.next.message; message = m; moment = L.now } in
    let unspent = may.unspent in
    let room = may.copies in
    let next = shared_next L.flows L.endpoints (with_message m L) L.next.endpoint L.next.unit L.now shares L.copies in
    let before = kept_among L.flows L.endpoints L.messages L.next.endpoint L.next.unit L.flows L.endpoints
    (with_message m L) L.next.endpoint L.next.unit L.copies (kept_of L s) s.one.held.bound s.one.open_there
    (λ c is. any_grows {X = Published} (λ p. (p.number == c.message) && (size_of p.message == c.size))
    L.messages (new ∷ []) is) (omega arith) (omega arith) in
    let sound = shared_kept L.flows L.endpoints (with_message m L) L.next.endpoint L.next.unit L.now s.next.unit
    shares L.copies (All-weaker (IsShare L m)
    (λ t. MayShare L.flows L.endpoints (with_message m L) L.next.endpoint L.next.unit L.now t L.copies)
    (λ t is. may_share t is) shares may.each) may.apart before in
    sound_of (changed (publishes m shares) L) sound
    (let enough = enough_left (all_shared L.now shares L.copies) sound.history in omega (arith, next, room, enough))
    s.endpoints
    (record {
      rise = all_pairs_push (λ (a b : Published). a.number < b.number) L.messages new s.messages.rise
          (λ k d lt. s.messages.below k d lt);
      below = All-push (λ (a : Published). a.number < L.next.message + 1) L.messages new
          (All-weaker (λ (a : Published). a.number < L.next.message)
          (λ (a : Published). a.number < L.next.message + 1) (λ a lt. omega (arith, lt)) L.messages
          s.messages.below) (omega arith);
    })
    s.flows s.replays
    (logged_after L m s.messages s.logged)
    (record {
      endpoint = s.next.endpoint;
      message = omega (arith, unspent);
      flow = s.next.flow;
      replay = s.next.replay;
      unit = s.next.unit;
    })
    (All-weaker (IsInTurn L.flows L.copies) (IsInTurn L.flows (all_shared L.now shares L.copies))
    (λ e t. turn_shared L.flows e L.now shares L.copies (held_below L.copies (kept_of L s).history) t) L.endpoints s.turns)
  where
    may_share : (t : Share) → IsShare L m t →
        MayShare L.flows L.endpoints (with_message m L) L.next.endpoint L.next.unit L.now t L.copies
    may_share t is = record {
      fine = record {
        there = is.there;
        below = All-any (λ (e : EndpointView). e.number < L.next.endpoint) (t.copy.endpoint < L.next.endpoint)
            (λ e. e.number == t.copy.endpoint) L.endpoints s.endpoints.below
            (λ e lt here. subst (λ n. n < L.next.endpoint) (eqb-true _ _ here) lt) is.there;
        message = any_last {X = Published} (λ p. (p.number == t.copy.message) && (size_of p.message == t.copy.size))
            L.messages (record { number = L.next.message; message = m; moment = L.now })
            (and_both (L.next.message == t.copy.message) _ (eq-eqb _ _ (sym is.message)) (eq-eqb _ _ (sym is.size)));
        unmoved = ap is_by_move is.origin;
      };
      fits = is.fits;
      small = is.small;
    }

-- the copies change, and all else stays
copies_sound : (L : Ledger) (K : History) → IsSound L →
    AreKept greatest_quota L.flows L.endpoints L.messages L.next.endpoint L.next.unit K →
    K.next + movable_count K ≤ L.copies.next + movable_count L.copies →
    ((e : EndpointView) → IsInTurn L.flows L.copies e → IsInTurn L.flows K e) → IsSound (record L { copies = K })
copies_sound L K s k fewer in_turn =
    sound_of (record L { copies = K }) k (le_trans fewer s.copies.next) s.endpoints s.messages s.flows s.replays
    s.logged s.next (All-weaker (IsInTurn L.flows L.copies) (IsInTurn L.flows K) in_turn L.endpoints s.turns)

-- a flow is bound
binds_sound : (L : Ledger) (f : FlowView) → IsSound L → MayBind L f → IsSound (changed (binds f) L)
binds_sound L f s may =
    let number = may.number in
    let unspent = may.unspent in
    sound_of (changed (binds f) L)
    (kept_among L.flows L.endpoints L.messages L.next.endpoint L.next.unit (L.flows ++ f ∷ []) L.endpoints
    L.messages L.next.endpoint L.next.unit L.copies (kept_of L s)
    (bound-flow L.flows f L.copies.made L.copies.held s.one.held.bound) s.one.open_there (λ c is. is)
    (omega arith) (omega arith))
    s.copies.next s.endpoints s.messages
    (record {
      rise = all_pairs_push (λ (a b : FlowView). a.number < b.number) L.flows f s.flows.rise
          (All-weaker (λ (a : FlowView). a.number < L.next.flow) (λ (a : FlowView). a.number < f.number)
          (λ a lt. omega (arith, lt, number)) L.flows s.flows.below);
      below = All-push (λ (a : FlowView). a.number < f.number + 1) L.flows f
          (All-weaker (λ (a : FlowView). a.number < L.next.flow) (λ (a : FlowView). a.number < f.number + 1)
          (λ a lt. omega (arith, lt, number)) L.flows s.flows.below) (omega arith);
      there = All-push (λ (a : FlowView). IsTrue (has_endpoint L.endpoints a)) L.flows f s.flows.there may.there;
      callers = All-push (λ (a : FlowView). IsTrue (is_caller a.caller)) L.flows f s.flows.callers may.caller;
    })
    s.replays s.logged
    (record {
      endpoint = s.next.endpoint;
      message = s.next.message;
      flow = omega (arith, unspent);
      replay = s.next.replay;
      unit = s.next.unit;
    })
    (All-weaker (IsInTurn L.flows L.copies) (IsInTurn (L.flows ++ f ∷ []) L.copies)
    (λ e t. turn_bound L.flows f L.copies e t) L.endpoints s.turns)

-- a flow goes that holds nothing
unbinds_sound : (L : Ledger) (flow : ℕ) → IsSound L → All (λ h. (h.flow == flow) ≡ false) L.copies.held →
    IsSound (changed (unbinds flow) L)
unbinds_sound L flow s none =
    let keep : FlowView → Bool = λ f. not (f.number == flow) in
    sound_of (changed (unbinds flow) L)
    (kept_among L.flows L.endpoints L.messages L.next.endpoint L.next.unit (without_flow flow L.flows) L.endpoints
    L.messages L.next.endpoint L.next.unit L.copies (kept_of L s)
    (All-weaker (λ (h : HeldCopy). IsTrue (is_bound_for L.flows L.copies.made h) × ((h.flow == flow) ≡ false))
    (λ (h : HeldCopy). IsTrue (is_bound_for (without_flow flow L.flows) L.copies.made h))
    (λ h both. stays h both.0 both.1) L.copies.held
    (All-both (λ (h : HeldCopy). IsTrue (is_bound_for L.flows L.copies.made h))
    (λ (h : HeldCopy). (h.flow == flow) ≡ false) L.copies.held s.one.held.bound none))
    s.one.open_there (λ c is. is) (omega arith) (omega arith))
    s.copies.next s.endpoints s.messages
    (record {
      rise = AllPairs-filter (λ (a b : FlowView). a.number < b.number) keep L.flows s.flows.rise;
      below = All-filter keep (λ (a : FlowView). a.number < L.next.flow) L.flows s.flows.below;
      there = All-filter keep (λ (a : FlowView). IsTrue (has_endpoint L.endpoints a)) L.flows s.flows.there;
      callers = All-filter keep (λ (a : FlowView). IsTrue (is_caller a.caller)) L.flows s.flows.callers;
    })
    s.replays s.logged s.next
    (All-weaker (IsInTurn L.flows L.copies) (IsInTurn (without_flow flow L.flows) L.copies)
    (λ e t. turn_unbound L.flows flow L.copies e none t) L.endpoints s.turns)
  where
    stays : (h : HeldCopy) → IsTrue (is_bound_for L.flows L.copies.made h) → (h.flow == flow) ≡ false →
        IsTrue (is_bound_for (without_flow flow L.flows) L.copies.made h)
    stays h is other =
        any_kept {X = FlowView} (λ f. (f.number == h.flow) && list_any
        (λ (c : MadeCopy). (c.number == h.copy) && (c.endpoint == f.endpoint)) L.copies.made)
        (λ f. not (f.number == flow))
        (λ f k. let same : f.number ≡ h.flow = eqb-true _ _ (and_left (f.number == h.flow) _ k) in
        ap not (subst (λ n. (n == flow) ≡ false) (sym same) other))
        L.flows is

-- all flows go where none of them holds anything
unbinds_all_sound : (L : Ledger) → IsSound L → L.copies.held ≡ [] → IsSound (changed unbinds_all L)
unbinds_all_sound L s none =
    sound_of (changed unbinds_all L)
    (kept_among L.flows L.endpoints L.messages L.next.endpoint L.next.unit [] L.endpoints L.messages
    L.next.endpoint L.next.unit L.copies (kept_of L s)
    (on_none (λ h. IsTrue (is_bound_for [] L.copies.made h)))
    s.one.open_there (λ c is. is) (omega arith) (omega arith))
    s.copies.next s.endpoints s.messages
    (record {
      rise = λ i j d lt le. absurd (omega (arith, le));
      below = All-nil (λ (a : FlowView). a.number < L.next.flow);
      there = All-nil (λ (a : FlowView). IsTrue (has_endpoint L.endpoints a));
      callers = All-nil (λ (a : FlowView). IsTrue (is_caller a.caller));
    })
    s.replays s.logged s.next
    (All-weaker (IsInTurn L.flows L.copies) (IsInTurn [] L.copies)
    (λ e t. record {
      first = λ exclusive. on_none (λ h. is_in L.copies.made e.number h ≡ true →
          is_first (flows_of [] e.number) h.flow ≡ true);
      alone = t.alone;
    }) L.endpoints s.turns)
  where
    on_none : (P : HeldCopy → Type 0) → All P L.copies.held
    on_none P = subst (All P) (sym none) (All-nil P)

-- a replay makes a copy
repeats_sound : (L : Ledger) (c : NewCopy) → IsSound L → MayRepeat L c → IsSound (changed (repeats c) L)
repeats_sound L c s may =
    let fits = may.fits in
    let unspent = may.unspent in
    let sound = made_sound L.copies c (kept_of L s).history (omega (arith, fits)) in
    let enough = enough_left (with_made c L.copies) sound in
    sound_of (changed (repeats c) L)
    (made_links L.flows L.endpoints L.messages L.next.endpoint L.next.unit greatest_quota greatest_quota s.next.unit
    c L.copies
    (record {
      there = may.there;
      below = below_next L c.endpoint s may.there;
      message = may.message;
      unmoved = may.origin;
    })
    (kept_of L s) sound (used-with_made L.copies c greatest_quota s.copies.quota fits))
    (omega (arith, enough, unspent)) s.endpoints s.messages s.flows s.replays s.logged s.next
    (All-weaker (IsInTurn L.flows L.copies) (IsInTurn L.flows (with_made c L.copies))
    (λ e t. turn_made L.flows e c L.copies (held_below L.copies (kept_of L s).history) t) L.endpoints s.turns)

-- a replay starts, or goes on
starts_sound : (L : Ledger) (r : Replay) → IsSound L → MayStart L r → IsSound (changed (starts r) L)
starts_sound L r s may =
    let number = may.number in
    let unspent = may.unspent in
    sound_of (changed (starts r) L) (kept_of L s) s.copies.next s.endpoints s.messages s.flows
    (record {
      rise = all_pairs_push (λ (a b : Replay). a.number < b.number) L.replays r s.replays.rise
          (All-weaker (λ (a : Replay). a.number < L.next.replay) (λ (a : Replay). a.number < r.number)
          (λ a lt. omega (arith, lt, number)) L.replays s.replays.below);
      below = All-push (λ (a : Replay). a.number < r.number + 1) L.replays r
          (All-weaker (λ (a : Replay). a.number < L.next.replay) (λ (a : Replay). a.number < r.number + 1)
          (λ a lt. omega (arith, lt, number)) L.replays s.replays.below) (omega arith);
    })
    s.logged
    (record {
      endpoint = s.next.endpoint;
      message = s.next.message;
      flow = s.next.flow;
      replay = omega (arith, unspent);
      unit = s.next.unit;
    })
    s.turns

replays_go_on : (next : ℕ) (r : Replay) (rs : List Replay) → AreReplays next rs →
    AreReplays next (map (λ old. if old.number == r.number then r else old) rs)
replays_go_on next r rs are = record {
  rise = pairs_map (λ (a b : Replay). a.number < b.number) put (λ old. (put old).number ≡ old.number)
      (λ a b m n lt. omega (arith, m, n, lt)) rs (λ k d lt. same _) are.rise;
  below = All-map (λ (a : Replay). a.number < next) put rs
      (All-weaker (λ (a : Replay). a.number < next) (λ (a : Replay). (put a).number < next)
      (λ a lt. let number = same a in omega (arith, lt, number)) rs are.below);
}
  where
    put : Replay → Replay
    put old = cond (old.number == r.number) r old

    same : (old : Replay) → (put old).number ≡ old.number
    same old = one (old.number == r.number) refl
      where
        one : (b : Bool) → (old.number == r.number) ≡ b → (cond b r old).number ≡ old.number
        one true is = sym (eqb-true _ _ is)
        one false is = refl

-- each kind of change
pub change_sound : (c : Change) (L : Ledger) → IsSound L → IsAllowed c L → IsSound (changed c L)
change_sound (comes e) L s may = comes_sound L e s may
change_sound (goes endpoint) L s may = goes_sound L endpoint s may.0 may.1
change_sound (becomes e) L s may = becomes_sound L e s may
change_sound (publishes m shares) L s may = publishes_sound L m shares s may
change_sound (logs log) L s may =
    sound_of (changed (logs log) L) (kept_of L s) s.copies.next s.endpoints s.messages s.flows s.replays may s.next
    s.turns
change_sound (repeats c) L s may = repeats_sound L c s may
change_sound (closes copy how) L s may =
    copies_sound L (with_closed copy how L.now L.copies) s
    (closed_kept L.flows L.endpoints L.messages L.next.endpoint L.next.unit greatest_quota copy how L.now L.copies
    (kept_of L s) may.0 may.1) (let fewer = fewer_movable L.copies copy how L.now in omega (arith, fewer))
    (λ e t. turn_let_go L.flows e L.copies (with_closed copy how L.now L.copies) copy refl refl t)
change_sound (moves copy new) L s may =
    copies_sound L (with_made new (with_closed copy (closings.Moved L.copies.next) L.now L.copies)) s
    (moved_kept L copy new s may) (move_counts L copy new s may)
    (λ e t. let K = with_closed copy (closings.Moved L.copies.next) L.now L.copies in
    turn_made L.flows e new K (All-filter (λ (h : HeldCopy). not (h.copy == copy))
    (λ (h : HeldCopy). h.copy < L.copies.next) L.copies.held (held_below L.copies (kept_of L s).history))
    (turn_let_go L.flows e L.copies K copy refl refl t))
change_sound (holds copy flow) L s may =
    sound_of (changed (holds copy flow) L)
    (held_kept L.flows L.endpoints L.messages L.next.endpoint L.next.unit copy flow L.copies (kept_of L s) may.free
    may.bound may.attempts) s.copies.next s.endpoints s.messages s.flows s.replays s.logged s.next
    (All-weaker (λ (e : EndpointView). HasTurn L (record { copy = copy; flow = flow }) e × IsInTurn L.flows L.copies e)
    (IsInTurn L.flows (with_held copy flow L.copies))
    (λ e both. turn_held L.flows e L copy flow both.0 refl both.1) L.endpoints
    (All-both (HasTurn L (record { copy = copy; flow = flow })) (IsInTurn L.flows L.copies) L.endpoints may.turn s.turns))
change_sound (frees copy) L s may =
    copies_sound L (with_given_back copy L.copies) s
    (freed_kept L.flows L.endpoints L.messages L.next.endpoint L.next.unit copy L.copies (kept_of L s)) (omega arith)
    (λ e t. turn_let_go L.flows e L.copies (with_given_back copy L.copies) copy refl refl t)
change_sound (binds f) L s may = binds_sound L f s may
change_sound (unbinds flow) L s may = unbinds_sound L flow s may.1
change_sound unbinds_all L s may = unbinds_all_sound L s may
change_sound (starts r) L s may = starts_sound L r s may
change_sound (goes_on r) L s may =
    sound_of (changed (goes_on r) L) (kept_of L s) s.copies.next s.endpoints s.messages s.flows
    (replays_go_on L.next.replay r L.replays s.replays) s.logged s.next s.turns
change_sound (ends replay) L s may =
    sound_of (changed (ends replay) L) (kept_of L s) s.copies.next s.endpoints s.messages s.flows
    (record {
      rise = AllPairs-filter (λ (a b : Replay). a.number < b.number) (λ r. not (r.number == replay))
          L.replays s.replays.rise;
      below =
          All-filter (λ (r : Replay). not (r.number == replay)) (λ (r : Replay). r.number < L.next.replay) L.replays
          s.replays.below;
    }) s.logged s.next s.turns

-- and so a list of them
pub changes_sound : (changes : List Change) (L : Ledger) → IsSound L → AreAllowed changes L →
    IsSound (all_changed changes L)
changes_sound [] L s may = s
changes_sound (c ∷ cs) L s may = changes_sound cs (changed c L) (change_sound c L s may.0) may.1

-- no change counts units
unit_after : (c : Change) (L : Ledger) → (changed c L).next.unit ≡ L.next.unit
unit_after (comes e) L = refl
unit_after (goes endpoint) L = refl
unit_after (becomes e) L = refl
unit_after (publishes m shares) L = refl
unit_after (logs log) L = refl
unit_after (repeats c) L = refl
unit_after (closes copy how) L = refl
unit_after (moves copy new) L = refl
unit_after (holds copy flow) L = refl
unit_after (frees copy) L = refl
unit_after (binds f) L = refl
unit_after (unbinds flow) L = refl
unit_after unbinds_all L = refl
unit_after (starts r) L = refl
unit_after (goes_on r) L = refl
unit_after (ends replay) L = refl

pub units_after : (changes : List Change) (L : Ledger) → (all_changed changes L).next.unit ≡ L.next.unit
units_after [] L = refl
units_after (c ∷ cs) L = units_after cs (changed c L) ∙ unit_after c L
