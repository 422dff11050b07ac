-- The changes of each step are allowed, one after another.
use Rattle.sp_access.specs.Flows.{flow_count, flow_numbered, flow_of, is_bound}
use Rattle.sp_access.specs.Flow.{FlowView}
use Rattle.sp_base.specs.Name.{is_caller}
use Rattle.sp_base.specs.declared.refusal.Kind.TheVariants as kinds
use Rattle.sp_base.specs.declared.refusal.Refusal.TheVariants.{BadSubscription, BindLimit, InUse, NotHeld}
use Rattle.sp_base.specs.declared.refusal.Refusal.TheVariants.{UnknownEndpoint, UnknownFlow}
use Rattle.sp_config.proofs.Settled.{defaults_in_range}
use Rattle.sp_config.specs.Attributes.{defaults, quota_of}
use Rattle.sp_config.specs.Settings.{with_settings}
use Rattle.sp_config.specs.declared.kind.EndpointKind.{EndpointKind}
use Rattle.sp_config.specs.declared.setting.Setting.{Setting}
use Rattle.sp_copies.specs.Counts.{spooled_count}
use Rattle.sp_copies.proofs.Chosen.{Apart, all_held_among_made, all_held_apart, all_held_is_held, apart_take, due_among_made, due_apart, due_is_free, free_apart, held_among_made}
use Rattle.sp_copies.proofs.Chosen.{held_apart, held_is_held}
use Rattle.sp_copies.specs.Due.{due_copies}
use Rattle.sp_copies.specs.History.{History, all_held, copy_of, free_copies, held_copies, held_copy, is_free, is_held, is_held_by, is_made}
use Rattle.sp_copies.specs.History.{is_open_in, is_spooled, open_copies, used_bytes}
use Rattle.sp_copies.specs.declared.closed.Cause.TheVariants.{Deleted, TopicChanged}
use Rattle.sp_copies.specs.declared.closed.Closing.TheVariants as closings
use Rattle.sp_copies.specs.declared.held.CopyAttempts.{CopyAttempts}
use Rattle.sp_copies.specs.declared.held.HeldCopy.{HeldCopy}
use Rattle.sp_copies.specs.declared.made.MadeCopy.{MadeCopy}
use Rattle.sp_endpoint.specs.Endpoint.{EndpointView}
use Rattle.sp_endpoint.specs.Endpoints.{is_queue, is_there, named, numbered, queue_named}
use Rattle.sp_endpoint.specs.Takers.{takers}
use Rattle.sp_event.specs.declared.answer.Reply.{Reply}
use Rattle.sp_event.specs.declared.answer.Reply.TheVariants as replies
use Rattle.sp_event.specs.declared.request.Event.{Event}
use Rattle.sp_event.specs.declared.request.Event.TheVariants as events
use Rattle.sp_event.specs.declared.request.Outcome.{Outcome}
use Rattle.sp_event.specs.declared.request.Outcome.TheVariants as outcomes
use Rattle.sp_ledger.proofs.Chosen.{pairs_made}
use Rattle.sp_ledger.proofs.CopiesKept.{kept_of}
use Rattle.sp_ledger.proofs.Decided.{OnPassed, Passes, each_passes, passed_on_found, passed_unless, passed_weaker}
use Rattle.sp_ledger.proofs.Decided.{number_left, parts_of, passes-append, where_accepted}
use Rattle.sp_ledger.proofs.EachKind.{begun_sound, changes_sound, units_after}
use Rattle.sp_ledger.proofs.Ended.{MayEnd, MayReturn, ending_allowed, endings_allowed, returning_allowed}
use Rattle.sp_ledger.proofs.Ended.{returns_allowed, returns_flows, returns_let_go}
use Rattle.sp_ledger.proofs.EndpointsKept.{has_endpoint_in_place}
use Rattle.sp_ledger.proofs.Fields.{allowed_keep_ranges, endpoint_found, may_become, new_suits, quota_below}
use Rattle.sp_ledger.proofs.Fields.{flow_suits, settings_suit, shares_no_other, shares_own, texts_suit, topic_suits}
use Rattle.sp_ledger.proofs.GivenBack.{all_gone, none_held}
use Rattle.sp_ledger.proofs.HandedOut.{in_endpoint, pulled_free, pulled_in, pulled_made, pulled_rise, pulled_taken}
use Rattle.sp_ledger.proofs.Listed.{All-any, All-both, All-find, All-kept, and_both, and_left, and_right}
use Rattle.sp_ledger.proofs.Listed.{any_found, any_self, any_weaker, find_passes, lesser_is_not, none_found, not_false}
use Rattle.sp_ledger.proofs.Numbered.{step_has_number}
use Rattle.sp_ledger.proofs.OneByOne.{allowed_append}
use Rattle.sp_ledger.proofs.OneKind.{close_allowed, closes_all, hold_allowed}
use Rattle.sp_ledger.proofs.TurnsTaken.{found_by_key, own_key, turn_taken}
use Rattle.sp_ledger.proofs.Taken.{takers_all, takers_apart}
use Rattle.sp_ledger.specs.Allowed.{AreAllowed, HasTurn, IsAllowed, IsShare, MayBecome, MayBind, changes_of}
use Rattle.sp_ledger.specs.Changes.{Change, Share, all_changed, binds, becomes, closes, holds, unbinds, unbinds_all}
use Rattle.sp_ledger.specs.Endings.{one_by_one, returning}
use Rattle.sp_ledger.specs.Events.{outcome, step}
use Rattle.sp_ledger.specs.Ledger.{Ledger}
use Rattle.sp_ledger.specs.Limits.{last_copy, most_ended, most_endpoints, most_subscriptions, spent}
use Rattle.sp_ledger.specs.OnCopies.{delete_copies, deleted, deletions, is_named, tick}
use Rattle.sp_ledger.specs.OnEndpoints.{change_step, deprovision, provision, shares_otherwise, subscribe, unsubscribe}
use Rattle.sp_ledger.specs.OnFlows.{all_given_back, bind, can_take, deliveries, fits_kind, is_rebound, new_flow, outdated, pull}
use Rattle.sp_ledger.specs.OnFlows.{given_back, pulled, rebinding, rebound, restart, settle, settling}
use Rattle.sp_ledger.specs.OnFlows.{topic_check, unbind}
use Rattle.sp_ledger.specs.One.{is_bound_for}
use Rattle.sp_ledger.specs.Publish.{publish, quota_check, share_for}
use Rattle.sp_ledger.specs.Sound.{IsEndpoint, IsLedger, IsSound, suits_flow}
use Rattle.sp_ledger.specs.Step.{Step, accepted, begun, does, is_copy_spent, is_spent, on_found}
use Rattle.sp_message.specs.Size.{size_of}
use Rattle.sp_settle.specs.declared.questions.Reason.TheVariants as reasons
use Rattle.sp_message.specs.declared.message.Message.{Message}
use Rattle.std.proofs.Common.{append_assoc, arith, length-append, refl, subst, sym, ◌∙◌}
use Rattle.std.proofs.lemmas.Bool.{eq-eqb, eqb-true, leb-false, ltb-false}
use Rattle.std.proofs.lemmas.List.{length-map}
use Rattle.std.proofs.lemmas.List.Elements.{All-filter, All-map, All-take, All-weaker}
use Rattle.std.proofs.lemmas.List.Kept.{AllPairs-filter}
use Rattle.std.proofs.lemmas.List.Sums.{count_by-le-length, length-filter}
use Rattle.std.specs.List.{list_any}
use Rattle.std.specs.Prelude.{All, AllPairs, Bool, IsTrue, List, None, Option, Some, [], bytes_eq, cond, false, filter}
use Rattle.std.specs.Prelude.{length, map, nat_le, not, take, true, ℕ, ◌&&◌, ◌++◌, ◌+◌, ◌<◌, ◌==◌, ◌∷◌, ◌≡◌, ◌≤◌}

abbrev Allowed : Ledger → List Change → Reply → Type 0
Allowed L changes reply = AreAllowed changes L

-- where the first is so and not both, the second isn't
second_false : (a b : Bool) → (a && b) ≡ false → a ≡ true → b ≡ false
second_false true b is here = is
second_false false b is here = absurd (cc)

module _ (L : Ledger) (s : IsSound L) where
  -- a copy that was made is the one of its number
  abbrev OwnKey : MadeCopy → Type 0
  OwnKey c = All (λ d. (d.number == c.number) ≡ true → d ≡ c) L.copies.made

  provision_allowed : (caller name : List ℕ) (kind : EndpointKind) (settings : List Setting) →
      OnPassed (Allowed L) (provision caller name kind settings L)
  provision_allowed caller name kind settings p = (
    record {
      number = refl;
      unspent = leb-false spent L.next.endpoint p.1.1.1.0;
      named = none_found {X = EndpointView} (λ e. bytes_eq e.name name) L.endpoints p.1.0;
      place = leb-false most_endpoints (length L.endpoints) p.1.1.0;
      fits = record {
        ranges = allowed_keep_ranges kind settings (defaults caller) (defaults_in_range caller) p.0;
        subscriptions = omega arith;
        suits = new_suits kind L.next.endpoint caller name settings p.0;
      };
    },
    tt,
  )

  deprovision_allowed : (name : List ℕ) → OnPassed (Allowed L) (deprovision name L)
  deprovision_allowed name =
      passed_on_found {X = EndpointView} (Allowed L) (UnknownEndpoint name) _ (named name L.endpoints)
      (λ e found p. (
        (
          eqb-true _ 0 (and_right (flow_count L.flows e.number == 0) _ (not_false _ p.0)),
          eqb-true _ 0
              (and_left (flow_count L.flows e.number == 0) _ (not_false _ p.0)),
        ),
        tt,
      ))

  change_allowed : (name : List ℕ) (settings : List Setting) → OnPassed (Allowed L) (change_step name settings L)
  change_allowed name settings =
      passed_on_found {X = EndpointView} (Allowed L) (UnknownEndpoint name) _ (named name L.endpoints)
      (λ e found p.
      let old = endpoint_found L (λ x. bytes_eq x.name name) e s.endpoints found in (
        may_become L (λ x. bytes_eq x.name name) e (record e { attributes = with_settings settings e.attributes })
            s.endpoints found refl refl refl
            (λ other. eqb-true _ 0 (and_right (flow_count L.flows e.number == 0) _
            (not_false _ (second_false _ _ p.1.0 other))))
            (record {
              ranges = allowed_keep_ranges e.kind settings e.attributes old.ranges p.0;
              subscriptions = old.subscriptions;
              suits = settings_suit e.kind settings e p.0 old.suits;
            }),
        tt,
      ))

  -- a queue that is found may have other texts
  texts_allowed : (name : List ℕ) (queue : EndpointView) (texts : List (List ℕ)) →
      queue_named name L.endpoints ≡ Some queue → length texts ≤ most_subscriptions →
      AreAllowed (becomes (record queue { subscriptions = texts }) ∷ []) L
  texts_allowed name queue texts found few =
      let p : EndpointView → Bool = λ x. is_queue x.kind && bytes_eq x.name name in
      let old = endpoint_found L p queue s.endpoints found in (
        may_become L p queue (record queue { subscriptions = texts }) s.endpoints found refl refl refl
            (λ other. absurd (let alike = shares_own queue.attributes in let no_one : true ≡ false = sym other ∙ alike in cc))
            (record {
              ranges = old.ranges;
              subscriptions = few;
              suits = texts_suit queue.kind texts queue
                  (and_left (is_queue queue.kind) _ (find_passes p L.endpoints queue found)) old.suits;
            }),
        tt,
      )

  subscribe_allowed : (name text : List ℕ) → OnPassed (Allowed L) (subscribe name text L)
  subscribe_allowed name text =
      passed_on_found {X = EndpointView} (Allowed L) (UnknownEndpoint name) _ (queue_named name L.endpoints)
      (λ queue found p. texts_allowed name queue (queue.subscriptions ++ text ∷ []) found
      (let more = length-append queue.subscriptions (text ∷ []) in
      let room = leb-false most_subscriptions (length queue.subscriptions) p.1.0 in omega (arith, more, room)))

  unsubscribe_allowed : (name text : List ℕ) → OnPassed (Allowed L) (unsubscribe name text L)
  unsubscribe_allowed name text =
      passed_on_found {X = EndpointView} (Allowed L) (UnknownEndpoint name) _ (queue_named name L.endpoints)
      (λ queue found p.
      let keep : List ℕ → Bool = λ t. not (bytes_eq t text) in
      let old = endpoint_found L (λ x. is_queue x.kind && bytes_eq x.name name) queue s.endpoints found in
      let most = old.subscriptions in
      texts_allowed name queue (filter keep queue.subscriptions) found
      (let same = length-filter keep queue.subscriptions in
      let less = count_by-le-length keep queue.subscriptions in omega (arith, same, less, most)))

  publish_allowed : (m : Message) → OnPassed (Allowed L) (publish m L)
  publish_allowed m p =
      let into = takers L.endpoints m in
      let size = size_of m in
      let numbers = is_spent L.next.message kinds.Message ∷ is_copy_spent (L.copies.next + length into) ∷ [] in
      let parts : Passes (map (quota_check L size) into) × Passes numbers =
      passes-append (map (quota_check L size) into) numbers p.1 in
      let room = ltb-false (last_copy + 1) (L.copies.next + length into) parts.1.1.0 in
      let many = length-map into (share_for m L.next.message L.now) in (
        record {
          unspent = leb-false spent L.next.message parts.1.0;
          copies = omega (arith, room, many);
          each =
              All-map (IsShare L m) (share_for m L.next.message L.now) into
              (All-weaker (λ (e : EndpointView). ((quota_check L size e).broken ≡ false)
              × (IsTrue (is_there L.endpoints e.number) × IsEndpoint e))
              (λ (e : EndpointView). IsShare L m (share_for m L.next.message L.now e))
              (λ e h. share_fits e h.0 h.1.0 h.1.1) into
              (All-both (λ (e : EndpointView). (quota_check L size e).broken ≡ false)
              (λ (e : EndpointView). IsTrue (is_there L.endpoints e.number) × IsEndpoint e) into
              (each_passes (quota_check L size) into parts.0)
              (takers_all L m (λ (e : EndpointView). IsTrue (is_there L.endpoints e.number) × IsEndpoint e)
              all_there)));
          apart = pairs_made (λ (a b : Share). (a.copy.endpoint == b.copy.endpoint) ≡ false)
              (share_for m L.next.message L.now) into (takers_apart L m s.endpoints.rise);
        },
        tt,
      )
    where
      all_there : All (λ e. IsTrue (is_there L.endpoints e.number) × IsEndpoint e) L.endpoints
      all_there =
          All-both (λ (e : EndpointView). IsTrue (is_there L.endpoints e.number)) IsEndpoint L.endpoints
          (All-weaker (λ (e : EndpointView). (e.number == e.number) ≡ true → is_there L.endpoints e.number ≡ true)
          (λ (e : EndpointView). IsTrue (is_there L.endpoints e.number))
          (λ e h. h (eq-eqb e.number e.number refl)) L.endpoints
          (any_self {X = EndpointView} (λ d e. e.number == d.number) L.endpoints)) s.endpoints.each

      share_fits : (e : EndpointView) → (quota_check L (size_of m) e).broken ≡ false →
          IsTrue (is_there L.endpoints e.number) → IsEndpoint e → IsShare L m (share_for m L.next.message L.now e)
      share_fits e fits there is = record {
        there = there;
        message = refl;
        size = refl;
        origin = refl;
        fits = λ spooled. let most =
            ltb-false (quota_of e.attributes) (used_bytes L.copies e.number + size_of m) fits in let greatest =
            quota_below e.attributes is.ranges in omega (arith, most, greatest);
        small = λ isnt. absurd (cc);
      }

  open_spooled : (e : ℕ) → All (λ c. is_spooled L.copies c.number ≡ true) (open_copies L.copies e)
  open_spooled e =
      All-weaker (λ (c : MadeCopy). ((c.number == c.number) ≡ true → is_made L.copies.made c.number ≡ true) × IsTrue
      (is_open_in L.copies.closed e c)) (λ (c : MadeCopy). is_spooled L.copies c.number ≡ true)
      (λ c h. and_both (is_made L.copies.made c.number) _ (h.0 (eq-eqb c.number c.number refl))
      (and_right (c.endpoint == e) _ h.1)) (open_copies L.copies e)
      (All-both (λ (c : MadeCopy). (c.number == c.number) ≡ true → is_made L.copies.made c.number ≡ true)
      (λ (c : MadeCopy). IsTrue (is_open_in L.copies.closed e c)) (open_copies L.copies e)
      (All-filter (is_open_in L.copies.closed e)
      (λ (c : MadeCopy). (c.number == c.number) ≡ true → is_made L.copies.made c.number ≡ true) L.copies.made
      (any_self {X = MadeCopy} (λ c d. d.number == c.number) L.copies.made))
      (All-kept (is_open_in L.copies.closed e) L.copies.made))

  outdated_allowed : (e bound : EndpointView) →
      AreAllowed (map (λ c. closes c.number (closings.Discarded TopicChanged)) (outdated L e bound)) L
  outdated_allowed e bound = one (is_rebound e bound)
    where
      apart : AllPairs (λ c d. (c.number == d.number) ≡ false) (open_copies L.copies e.number)
      apart = λ i j d lt le. lesser_is_not _ _
          (AllPairs-filter (λ (c d : MadeCopy). c.number < d.number) (is_open_in L.copies.closed e.number)
          L.copies.made s.one.numbered.rise i j d lt le)

      one : (b : Bool) → AreAllowed
          (map (λ c. closes c.number (closings.Discarded TopicChanged)) (cond b (open_copies L.copies e.number) [])) L
      one true = close_allowed (closings.Discarded TopicChanged) refl (open_copies L.copies e.number) L
          (open_spooled e.number) apart
      one false = tt

  -- another topic, and then a flow, where the copies were closed
  topic_and_flow : (e bound : EndpointView) (H : History) (f : FlowView) → MayBecome L bound →
      All (λ d. (d.number == bound.number) ≡ true → shares_otherwise d.attributes bound.attributes ≡ false) L.endpoints →
      MayBind L f → AreAllowed (rebinding e bound ++ binds f ∷ []) (record L { copies = H })
  topic_and_flow e bound H f may alike bind = one (is_rebound e bound)
    where
      one : (b : Bool) → AreAllowed (cond b (becomes bound ∷ []) [] ++ binds f ∷ []) (record L { copies = H })
      one true = (
        record {
          named = may.named;
          kind = may.kind;
          sharing = All-weaker (λ (d : EndpointView). (d.number == bound.number) ≡ true →
              shares_otherwise d.attributes bound.attributes ≡ false)
              (λ (d : EndpointView). (d.number == bound.number) ≡ true →
              shares_otherwise d.attributes bound.attributes ≡ true → spooled_count H (Some bound.number) ≡ 0)
              (λ d same is other. absurd (let alike = same is in let no_one : true ≡ false = sym other ∙ alike in cc))
              L.endpoints alike;
          fits = may.fits;
        },
        (
          record {
            number = bind.number;
            unspent = bind.unspent;
            there = has_endpoint_in_place L bound may f bind.there;
            caller =
                bind.caller;
          },
          tt,
        ),
      )
      one false = (
        record {
          number = bind.number;
          unspent = bind.unspent;
          there = bind.there;
          caller = bind.caller;
        },
        tt,
      )

  bind_allowed : (caller name : List ℕ) (selector topic : Option (List ℕ)) → is_caller caller ≡ true →
      OnPassed (Allowed L) (bind caller name selector topic L)
  bind_allowed caller name selector topic short =
      passed_unless (Allowed L) (topic_check topic)
      (on_found (named name L.endpoints) (UnknownEndpoint name) on_endpoint)
      (passed_on_found {X = EndpointView} (Allowed L) (UnknownEndpoint name) on_endpoint (named name L.endpoints)
      (λ e found p.
      let old = endpoint_found L (λ x. bytes_eq x.name name) e s.endpoints found in
      let new : EndpointView = rebound e selector topic in
      let f : FlowView = new_flow L.next.flow caller e selector in
      let may = may_become L (λ x. bytes_eq x.name name) e new s.endpoints found refl refl refl
      (λ other. absurd (let alike = shares_own e.attributes in let no_one : true ≡ false = sym other ∙ alike in cc))
      (record {
        ranges = old.ranges;
        subscriptions = old.subscriptions;
        suits = topic_suits e.kind selector topic e (not_false _ p.0) old.suits;
      }) in
      let gone = map (λ (c : MadeCopy). closes c.number (closings.Discarded TopicChanged)) (outdated L e new) in
      let more = rebinding e new ++ binds f ∷ [] in
      let there = any_found {X = EndpointView} (λ x. bytes_eq x.name name)
      (λ x. (x.number == e.number) && suits_flow x.kind f.selector) L.endpoints e found
      (and_both (e.number == e.number) _ (eq-eqb e.number e.number refl) (flow_suits e.kind selector)) in
      subst (λ cs. AreAllowed cs L) (sym (append_assoc gone (rebinding e new) (binds f ∷ [])))
      (allowed_append gone more L (outdated_allowed e new)
      (subst (AreAllowed more) (sym (closes_all (closings.Discarded TopicChanged) (outdated L e new) L))
      (topic_and_flow e new (all_changed gone L).copies f may
      (shares_no_other L (λ x. bytes_eq x.name name) e new s.endpoints found refl refl)
      (record { number = refl; unspent = leb-false spent L.next.flow p.1.1.1.0; there = there; caller = short }))))))
    where
      on_endpoint : EndpointView → Step
      on_endpoint e =
          does (record { broken = not (fits_kind e.kind topic); refusal = BadSubscription 0 }
          ∷ record {
            broken = is_rebound e (rebound e selector topic) && not (flow_count L.flows e.number == 0);
            refusal = InUse (flow_count L.flows e.number) (spooled_count L.copies (Some e.number));
          }
          ∷ record {
            broken = nat_le e.attributes.max_bind_count (flow_count L.flows e.number);
            refusal = BindLimit (flow_count L.flows e.number) e.attributes.max_bind_count;
          }
          ∷ is_spent L.next.flow kinds.Flow
          ∷ [])
          (map (λ c. closes c.number (closings.Discarded TopicChanged)) (outdated L e (rebound e selector topic))
          ++ rebinding e (rebound e selector topic)
          ++ binds (new_flow L.next.flow caller e selector)
          ∷ [])
          (replies.Bind e.name L.next.flow (length (outdated L e (rebound e selector topic))))

  -- a copy that was made is the one of its number, which was drawn
  abbrev IsDrawn : MadeCopy → Type 0
  IsDrawn c = OwnKey c × (c.number < L.copies.next)

  all_drawn : All IsDrawn L.copies.made
  all_drawn =
      All-both OwnKey (λ (c : MadeCopy). c.number < L.copies.next) L.copies.made
      (own_key {X = MadeCopy} (λ c. c.number) L.copies.made s.one.numbered.rise) s.one.numbered.below

  -- a held copy is spooled
  pub held_is_spooled : (flow copy : ℕ) → is_held_by L.copies.held flow copy ≡ true → is_spooled L.copies copy ≡ true
  held_is_spooled flow copy h =
      All-any (λ (x : HeldCopy). IsTrue (is_spooled L.copies x.copy)) (is_spooled L.copies copy ≡ true)
      (λ x. (x.copy == copy) && (x.flow == flow)) L.copies.held s.one.held.spooled
      (λ x is test. subst (λ k. is_spooled L.copies k ≡ true) (eqb-true _ _ (and_left (x.copy == copy) _ test)) is) h

  held_copy_is_spooled : (copy : ℕ) → is_held L.copies.held copy ≡ true → is_spooled L.copies copy ≡ true
  held_copy_is_spooled copy h =
      All-any (λ (x : HeldCopy). IsTrue (is_spooled L.copies x.copy)) (is_spooled L.copies copy ≡ true)
      (λ x. x.copy == copy) L.copies.held s.one.held.spooled
      (λ x is test. subst (λ k. is_spooled L.copies k ≡ true) (eqb-true _ _ test) is) h

  -- and may be given back
  may_return : (flow : ℕ) (c : MadeCopy) → IsDrawn c → is_held_by L.copies.held flow c.number ≡ true → MayReturn L c
  may_return flow c drawn held = (
    record { own = drawn.0; below = drawn.1; spooled = held_is_spooled flow c.number held },
    any_weaker {X = HeldCopy} (λ h. (h.copy == c.number) && (h.flow == flow)) (λ h. h.copy == c.number)
        (λ h k. and_left (h.copy == c.number) _ k) L.copies.held held,
  )

  pub held_all_may : (flow : ℕ) → All (MayReturn L) (held_copies L.copies flow)
  held_all_may flow =
      let mine : MadeCopy → Type 0 = λ c. is_held_by L.copies.held flow c.number ≡ true in
      All-weaker (λ (c : MadeCopy). IsDrawn c × mine c) (MayReturn L)
      (λ c h. may_return flow c h.0 h.1) (held_copies L.copies flow)
      (All-both IsDrawn mine (held_copies L.copies flow) (held_among_made IsDrawn L.copies flow all_drawn)
      (held_is_held L.copies flow))

  pub given_back_allowed : (flow : ℕ) → AreAllowed (given_back L flow) L
  given_back_allowed flow =
      returns_allowed (held_copies L.copies flow) L s (held_all_may flow) (held_apart L.copies flow (kept_of L s).history)

  unbind_allowed : (caller : List ℕ) (flow : ℕ) → OnPassed (Allowed L) (unbind caller flow L)
  unbind_allowed caller flow =
      passed_on_found {X = FlowView} (Allowed L) (UnknownFlow flow) _ (flow_of L.flows caller flow)
      (λ f found p.
      let own : FlowView → Bool = λ g. (g.number == flow) && bytes_eq g.caller caller in
      let cs = held_copies L.copies flow in
      allowed_append (given_back L flow) (unbinds flow ∷ []) L (given_back_allowed flow) (
        (
          subst (λ fs. is_bound fs flow ≡ true) (sym (returns_flows cs L))
              (any_found {X = FlowView} own (λ g. g.number == flow) L.flows f found
              (and_left (f.number == flow) _ (find_passes own L.flows f found))),
          subst (λ held. All (λ (h : HeldCopy). (h.flow == flow) ≡ false) held) (sym (returns_let_go cs L))
              (none_held L.copies flow (kept_of L s).history),
        ),
        tt,
      ))

  -- what all flows hold may be given back
  pub all_held_may : All (MayReturn L) (all_held L.copies)
  all_held_may =
      let held : MadeCopy → Type 0 = λ c. is_held L.copies.held c.number ≡ true in
      All-weaker (λ (c : MadeCopy). IsDrawn c × held c) (MayReturn L)
      (λ c h. (record { own = h.0.0; below = h.0.1; spooled = held_copy_is_spooled c.number h.1 }, h.1))
      (all_held L.copies)
      (All-both IsDrawn held (all_held L.copies) (all_held_among_made IsDrawn L.copies all_drawn)
      (all_held_is_held L.copies))

  restart_allowed : OnPassed (Allowed L) (restart L)
  restart_allowed = one (length L.flows == 0)
    where
      back : List Change
      back = one_by_one returning (all_held L.copies) L

      one : (b : Bool) → AreAllowed (cond b [] (all_given_back L)) L
      one true = tt
      one false = allowed_append back (unbinds_all ∷ []) L
          (returns_allowed (all_held L.copies) L s all_held_may (all_held_apart L.copies (kept_of L s).history))
          (returns_let_go (all_held L.copies) L ∙ all_gone L.copies (kept_of L s).history, tt)

  pull_allowed : (caller : List ℕ) (flow count : ℕ) → All (λ a. a.count + 1 < L.next.unit) L.copies.attempts →
      OnPassed (Allowed L) (pull caller flow count L)
  pull_allowed caller flow count few =
      passed_on_found {X = FlowView} (Allowed L) (UnknownFlow flow)
      (λ f. on_found (numbered f.endpoint L.endpoints) (UnknownFlow flow) on_endpoint) (flow_of L.flows caller flow)
      (λ f found.
      passed_on_found {X = EndpointView} (Allowed L) (UnknownFlow flow) on_endpoint (numbered f.endpoint L.endpoints)
      (λ e there p. hands_out f e found there))
    where
      on_endpoint : EndpointView → Step
      on_endpoint e =
          does [] (map (λ c. holds c.number flow) (pulled L e flow count))
          (replies.Pull flow (deliveries L (pulled L e flow count)))

      own : FlowView → Bool
      own g = (g.number == flow) && bytes_eq g.caller caller

      hands_out : (f : FlowView) (e : EndpointView) → flow_of L.flows caller flow ≡ Some f →
          numbered f.endpoint L.endpoints ≡ Some e → AreAllowed (map (λ c. holds c.number flow) (pulled L e flow count)) L
      hands_out f e found there =
          let number : f.number ≡ flow = eqb-true _ _ (and_left (f.number == flow) _ (find_passes own L.flows f found)) in
          let endpoint : e.number ≡ f.endpoint =
          eqb-true _ _ (find_passes (λ (x : EndpointView). x.number == f.endpoint) L.endpoints e there) in
          let bound : flow_numbered L.flows f.number ≡ Some f = found_by_key {X = FlowView} (λ g. g.number) own L.flows f s.flows.rise found in
          hold_allowed flow (pulled L e flow count) L (pulled_free L e flow count)
          (pulled_rise L e flow count (kept_of L s).history)
          (All-weaker (λ (c : MadeCopy). list_any (in_endpoint L.copies e.number L.now c) L.copies.made ≡ true)
          (λ (c : MadeCopy). IsTrue (is_bound_for L.flows L.copies.made (record { copy = c.number; flow = flow })))
          (λ c here.
          any_found {X = FlowView} own
          (λ g. (g.number == flow) && list_any
          (λ (d : MadeCopy). (d.number == c.number) && (d.endpoint == g.endpoint)) L.copies.made) L.flows f found
          (and_both (f.number == flow) _ (eq-eqb _ _ number)
          (subst (λ n. list_any (λ (d : MadeCopy). (d.number == c.number) && (d.endpoint == n)) L.copies.made ≡ true)
          endpoint here)))
          (pulled L e flow count) (pulled_in L e flow count))
          (All-weaker (λ (a : CopyAttempts). a.count + 1 < L.next.unit)
          (λ (a : CopyAttempts). list_any (λ (c : MadeCopy). c.number == a.copy) (pulled L e flow count) ≡ true →
          a.count + 1 < L.next.unit) (λ a lt among. lt) L.copies.attempts few)
          (All-weaker (λ (c : MadeCopy). (OwnKey c × (c.endpoint ≡ e.number)) × (can_take L e flow c ≡ true))
          (λ (c : MadeCopy). All (HasTurn L (record { copy = c.number; flow = flow })) L.endpoints)
          (λ c all. subst (λ n. All (HasTurn L (record { copy = c.number; flow = n })) L.endpoints) number
          (turn_taken L s f e bound there c (subst (λ n. can_take L e n c ≡ true) (sym number) all.1) all.0.1 all.0.0))
          (pulled L e flow count)
          (All-both (λ (c : MadeCopy). OwnKey c × (c.endpoint ≡ e.number)) (λ (c : MadeCopy). can_take L e flow c ≡ true)
          (pulled L e flow count)
          (pulled_made L e flow count OwnKey (own_key {X = MadeCopy} (λ c. c.number) L.copies.made s.one.numbered.rise))
          (pulled_taken L e flow count)))

  -- the copy that a flow holds may be given back
  pub held_may : (flow copy : ℕ) (c : MadeCopy) → held_copy L.copies flow copy ≡ Some c →
      MayReturn L c × (c.number ≡ copy)
  held_may flow copy c found = one (is_held_by L.copies.held flow copy) refl found
    where
      one : (b : Bool) → is_held_by L.copies.held flow copy ≡ b → cond b (copy_of L.copies.made copy) None ≡ Some c →
          MayReturn L c × (c.number ≡ copy)
      one false held k = absurd (cc)
      one true held k =
          let p : MadeCopy → Bool = λ x. x.number == copy in
          let number : c.number ≡ copy = eqb-true _ _ (find_passes p L.copies.made c k) in (
            may_return flow c (All-find IsDrawn p L.copies.made c all_drawn k)
                (subst (λ n. is_held_by L.copies.held flow n ≡ true) (sym number) held),
            number,
          )

  settling_allowed : (outcome : Outcome) (c : MadeCopy) → MayReturn L c → IsAllowed (settling outcome c L) L
  settling_allowed outcomes.Accepted c may = (may.0.spooled, refl)
  settling_allowed outcomes.Failed c may = returning_allowed L s c may
  settling_allowed outcomes.Rejected c may = ending_allowed L s c may.0 reasons.Rejected

  settle_allowed : (caller : List ℕ) (flow copy : ℕ) (outcome : Outcome) →
      OnPassed (Allowed L) (settle caller flow copy outcome L)
  settle_allowed caller flow copy outcome =
      passed_on_found {X = FlowView} (Allowed L) (UnknownFlow flow) _ (flow_of L.flows caller flow)
      (λ f found.
      passed_on_found {X = MadeCopy} (Allowed L) (NotHeld copy) _ (held_copy L.copies flow copy)
      (λ c held p. (settling_allowed outcome c (held_may flow copy c held).0, tt)))

  -- the first copies that are due may end
  pub due_may : All (MayEnd L) (take most_ended (due_copies L.copies L.now))
  due_may =
      let due = due_copies L.copies L.now in
      let unheld : MadeCopy → Type 0 = λ c. is_free L.copies c.number ≡ true in
      All-take (MayEnd L) most_ended due
      (All-weaker (λ (c : MadeCopy). IsDrawn c × unheld c) (MayEnd L)
      (λ c h. record {
        own = h.0.0;
        below = h.0.1;
        spooled = and_left (is_spooled L.copies c.number) _ h.1;
      }) due (All-both IsDrawn unheld due (due_among_made IsDrawn L.copies L.now all_drawn) (due_is_free L.copies L.now)))

  pub due_differ : AllPairs Apart (take most_ended (due_copies L.copies L.now))
  due_differ = apart_take most_ended (due_copies L.copies L.now) (due_apart L.copies L.now (kept_of L s).history)

  pub tick_allowed : OnPassed (Allowed L) (tick L)
  tick_allowed p =
      endings_allowed reasons.Expired (take most_ended (due_copies L.copies L.now)) L s due_may due_differ

  pub deletions_allowed : (e : EndpointView) (copy : Option ℕ) → AreAllowed (deletions L e copy) L
  deletions_allowed e copy =
      let open_there : MadeCopy → Type 0 = λ c. is_spooled L.copies c.number ≡ true in
      let unheld : MadeCopy → Bool = λ c. not (is_held L.copies.held c.number) in
      let free = free_copies L.copies e.number in
      close_allowed (closings.Discarded Deleted) refl (deleted L e copy) L
      (All-take open_there most_ended (filter (is_named copy) free)
      (All-filter (is_named copy) open_there free
      (All-filter unheld open_there (open_copies L.copies e.number) (open_spooled e.number))))
      (apart_take most_ended (filter (is_named copy) free)
      (AllPairs-filter Apart (is_named copy) free (free_apart L.copies e.number (kept_of L s).history)))

  delete_allowed : (name : List ℕ) (copy : Option ℕ) → OnPassed (Allowed L) (delete_copies name copy L)
  delete_allowed name copy =
      passed_on_found {X = EndpointView} (Allowed L) (UnknownEndpoint name) _ (named name L.endpoints)
      (λ e found p. deletions_allowed e copy)

  pub step_allowed : (caller : List ℕ) → is_caller caller ≡ true →
      All (λ a. a.count + 1 < L.next.unit) L.copies.attempts → (event : Event) →
      OnPassed (Allowed L) (step caller event L)
  step_allowed caller short few (events.Provision name kind settings) = provision_allowed caller name kind settings
  step_allowed caller short few (events.Deprovision name) = deprovision_allowed name
  step_allowed caller short few (events.Change name settings) = change_allowed name settings
  step_allowed caller short few (events.Subscribe name text) = subscribe_allowed name text
  step_allowed caller short few (events.Unsubscribe name text) = unsubscribe_allowed name text
  step_allowed caller short few (events.Publish m) = publish_allowed m
  step_allowed caller short few (events.Bind name selector topic) = bind_allowed caller name selector topic short
  step_allowed caller short few (events.Unbind flow) = unbind_allowed caller flow
  step_allowed caller short few (events.Pull flow count) = pull_allowed caller flow count few
  step_allowed caller short few (events.Settle flow copy outcome) = settle_allowed caller flow copy outcome
  step_allowed caller short few events.Tick = tick_allowed
  step_allowed caller short few (events.DeleteCopies name copy) = delete_allowed name copy
  step_allowed caller short few events.Restart = restart_allowed

-- what an accepted event leaves is sound
pub outcome_sound : (L : Ledger) → IsLedger L → (moment : ℕ) (caller : List ℕ) → is_caller caller ≡ true →
    (event : Event) (M : Ledger) (told : List Reply) → outcome moment caller event L ≡ accepted M told → IsLedger M
outcome_sound L s moment caller short event M told e =
    let B = begun moment L in
    let sound = begun_sound moment L s.sound in
    let few = All-weaker (λ (a : CopyAttempts). a.count < L.next.unit)
    (λ (a : CopyAttempts). a.count + 1 < L.next.unit + 1) (λ a lt. omega (arith, lt)) L.copies.attempts
    s.sound.copies.attempts in
    let left = number_left L B (step caller event B) (step_has_number L s moment caller event) M told e in
    let after = where_accepted L B (λ m t. IsSound m × (m.next.unit ≡ L.next.unit + 1)) (step caller event B)
    (passed_weaker (Allowed B)
    (λ changes reply. IsSound (all_changed changes B) × ((all_changed changes B).next.unit ≡ L.next.unit + 1))
    (λ changes reply may. (changes_sound changes B sound may, units_after changes B))
    (step caller event B) (step_allowed B sound caller short few event))
    M told e in
    let number = left.number in
    let same = after.1 in
    record {
      sound = after.0;
      unit = omega (arith, number, same);
      unbound = λ above. left.last (omega (arith, above, same));
    }

-- an accepted event's changes are allowed where it began, and leave the ledger after it
pub accepted_changes : (L : Ledger) → IsLedger L → (moment : ℕ) (caller : List ℕ) → is_caller caller ≡ true →
    (event : Event) (M : Ledger) (told : List Reply) → outcome moment caller event L ≡ accepted M told →
    AreAllowed (changes_of (step caller event (begun moment L)))
    (begun moment L) × (all_changed (changes_of (step caller event (begun moment L))) (begun moment L) ≡ M)
accepted_changes L s moment caller short event M told e =
    let B = begun moment L in
    let few = All-weaker (λ (a : CopyAttempts). a.count < L.next.unit)
    (λ (a : CopyAttempts). a.count + 1 < L.next.unit + 1) (λ a lt. omega (arith, lt)) L.copies.attempts
    s.sound.copies.attempts in
    parts_of L B (step caller event B) (step_allowed B (begun_sound moment L s.sound) caller short few event) M told e
