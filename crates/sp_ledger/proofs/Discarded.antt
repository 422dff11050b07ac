-- Another topic leaves no old copy spooled.
use Rattle.sp_access.specs.Flow.{FlowView}
use Rattle.sp_base.specs.declared.refusal.Refusal.TheVariants.{UnknownEndpoint}
use Rattle.sp_copies.proofs.Counting.{filter-none}
use Rattle.sp_copies.specs.History.{History, is_closed, is_open_in, open_copies, with_closed}
use Rattle.sp_copies.specs.declared.closed.Cause.TheVariants.{TopicChanged}
use Rattle.sp_copies.specs.declared.closed.ClosedCopy.{ClosedCopy}
use Rattle.sp_copies.specs.declared.closed.Closing.TheVariants.{Discarded}
use Rattle.sp_copies.specs.declared.made.MadeCopy.{MadeCopy}
use Rattle.sp_endpoint.specs.Endpoint.{EndpointView}
use Rattle.sp_endpoint.specs.Endpoints.{named}
use Rattle.sp_event.specs.declared.answer.Reply.{Reply}
use Rattle.sp_event.specs.declared.request.Event.TheVariants as events
use Rattle.sp_ledger.proofs.Chosen.{WherePasses, where_passes}
use Rattle.sp_ledger.proofs.Closings.{still_closed}
use Rattle.sp_ledger.proofs.Decided.{passed_on_found, passed_unless, where_accepted}
use Rattle.sp_ledger.proofs.Listed.{or_left, or_right}
use Rattle.sp_ledger.proofs.OneByOne.{changed_append}
use Rattle.sp_ledger.specs.Changes.{Change, all_changed, becomes, binds, changed, closes}
use Rattle.sp_ledger.specs.Events.{outcome}
use Rattle.sp_ledger.specs.Ledger.{Ledger}
use Rattle.sp_ledger.specs.Limits.{spent}
use Rattle.sp_ledger.specs.OnFlows.{bind, is_rebound, new_flow, rebinding, outdated, rebound, topic_check}
use Rattle.sp_ledger.specs.Step.{accepted, begun, on_found}
use Rattle.std.proofs.Common.{ap, append-nil, append_assoc, refl, subst, sym, ◌∙◌}
use Rattle.std.proofs.lemmas.Bool.{and_from, eq-eqb}
use Rattle.std.proofs.lemmas.List.Elements.{All-cons, All-nil, All-weaker}
use Rattle.std.proofs.lemmas.List.Folds.{list_any-append, list_any_none}
use Rattle.std.specs.Prelude.{All, Bool, List, Option, Some, [], cond, false, filter, fold, map, max, not, true}
use Rattle.std.specs.Prelude.{unwrap_or, ℕ, ◌&&◌, ◌++◌, ◌<◌, ◌==◌, ◌∷◌, ◌≡◌}

-- copies are discarded for their endpoint's topic, one after another
abbrev all_discarded : ℕ → List ℕ → History → History
all_discarded moment copies H = fold (λ h copy. with_closed copy (Discarded TopicChanged) moment h) H copies

-- how another topic closes a copy
abbrev pub for_topic : ℕ → ℕ → ClosedCopy
for_topic moment copy = record { copy = copy; how = Discarded TopicChanged; moment = moment }

-- the closings stand behind all others
pub discarded_closed : (moment : ℕ) (cs : List ℕ) (H : History) →
    (all_discarded moment cs H).closed ≡ H.closed ++ map (for_topic moment) cs
discarded_closed moment [] H = sym (append-nil H.closed)
discarded_closed moment (c ∷ cs) H =
    discarded_closed moment cs (with_closed c (Discarded TopicChanged) moment H) ∙ append_assoc H.closed
    (for_topic moment c ∷ []) (map (for_topic moment) cs)

-- what was made stays
pub discarded_made : (moment : ℕ) (cs : List ℕ) (H : History) → (all_discarded moment cs H).made ≡ H.made
discarded_made moment [] H = refl
discarded_made moment (c ∷ cs) H = discarded_made moment cs (with_closed c (Discarded TopicChanged) moment H)

-- each copy that is discarded is closed
all_closed : (moment : ℕ) (cs : List MadeCopy) →
    All (λ c. is_closed (map (for_topic moment) (map (λ d. d.number) cs)) c.number ≡ true) cs
all_closed moment [] = All-nil (λ (c : MadeCopy). is_closed [] c.number ≡ true)
all_closed moment (c ∷ cs) =
    let closed = map (for_topic moment) (map (λ (d : MadeCopy). d.number) cs) in
    All-cons (λ (d : MadeCopy). is_closed (for_topic moment c.number ∷ closed) d.number ≡ true) c cs
    (or_left (c.number == c.number) (is_closed closed c.number) (eq-eqb c.number c.number refl))
    (All-weaker (λ (d : MadeCopy). is_closed closed d.number ≡ true)
    (λ (d : MadeCopy). is_closed (for_topic moment c.number ∷ closed) d.number ≡ true)
    (λ d h. or_right (c.number == d.number) (is_closed closed d.number) h) cs (all_closed moment cs))

any_behind : (closed more : List ClosedCopy) (copy : ℕ) → is_closed more copy ≡ true →
    is_closed (closed ++ more) copy ≡ true
any_behind closed more copy h =
    list_any-append {X = ClosedCopy} (λ x. x.copy == copy) closed more ∙ or_right (is_closed closed copy)
    (is_closed more copy) h

-- none of an endpoint's copies is spooled once all that were have been discarded
pub none_open : (moment : ℕ) (H : History) (e : ℕ) →
    open_copies (all_discarded moment (map (λ c. c.number) (open_copies H e)) H) e ≡ []
none_open moment H e =
    let numbers = map (λ (c : MadeCopy). c.number) (open_copies H e) in
    let K = all_discarded moment numbers H in
    subst (λ made. filter (is_open_in K.closed e) made ≡ []) (sym (discarded_made moment numbers H))
    (subst (λ closed. filter (is_open_in closed e) H.made ≡ []) (sym (discarded_closed moment numbers H))
    (filter-none (is_open_in (H.closed ++ map (for_topic moment) numbers) e) H.made
    (list_any_none (is_open_in (H.closed ++ map (for_topic moment) numbers) e) H.made
    (All-weaker (WherePasses (is_open_in H.closed e)
    (λ (c : MadeCopy). is_closed (map (for_topic moment) numbers) c.number ≡ true))
    (λ (c : MadeCopy). is_open_in (H.closed ++ map (for_topic moment) numbers) e c ≡ false)
    (λ c h. shut c (map (for_topic moment) numbers) h) H.made
    (where_passes (is_open_in H.closed e)
    (λ (c : MadeCopy). is_closed (map (for_topic moment) numbers) c.number ≡ true) H.made
    (all_closed moment (open_copies H e)))))))
  where
    shut : (c : MadeCopy) (more : List ClosedCopy) →
        (is_open_in H.closed e c ≡ true → is_closed more c.number ≡ true) → is_open_in (H.closed ++ more) e c ≡ false
    shut c more h = one (c.endpoint == e) (is_closed H.closed c.number) refl refl
      where
        closed_so : is_closed (H.closed ++ more) c.number ≡ true → (b : Bool) →
            (b && not (is_closed (H.closed ++ more) c.number)) ≡ false
        closed_so is true = ap not is
        closed_so is false = refl

        one : (at shut : Bool) → (c.endpoint == e) ≡ at → is_closed H.closed c.number ≡ shut →
            is_open_in (H.closed ++ more) e c ≡ false
        one false shut a b = ap (λ t. t && not (is_closed (H.closed ++ more) c.number)) a
        one true true a b = closed_so (still_closed H.closed more c.number b) (c.endpoint == e)
        one true false a b =
            closed_so (any_behind H.closed more c.number
            (h (and_from (c.endpoint == e) (not (is_closed H.closed c.number)) a (ap not b)))) (c.endpoint == e)

closes_discard : (cs : List MadeCopy) (L : Ledger) →
    (all_changed (map (λ c. closes c.number (Discarded TopicChanged)) cs) L).copies ≡ all_discarded L.now
    (map (λ c. c.number) cs) L.copies
closes_discard [] L = refl
closes_discard (c ∷ cs) L = closes_discard cs (changed (closes c.number (Discarded TopicChanged)) L)

module _ (L : Ledger) (moment : ℕ) (caller name : List ℕ) (selector topic : Option (List ℕ)) (e : EndpointView) where
  abbrev B : Ledger
  B = begun moment L

  abbrev NoneOpen : List Change → Reply → Type 0
  NoneOpen changes reply = open_copies (all_changed changes B).copies e.number ≡ []

  abbrev to : EndpointView → EndpointView
  to x = rebound x selector topic

  abbrev Other : Type 0
  Other = is_rebound e (to e) ≡ true

  abbrev gone : EndpointView → List Change
  gone x = map (λ (c : MadeCopy). closes c.number (Discarded TopicChanged)) (outdated B x (to x))

  abbrev bound : EndpointView → List Change
  bound x = binds (new_flow L.next.flow caller x selector) ∷ []

  abbrev more : EndpointView → List Change
  more x = rebinding x (to x) ++ bound x

  none_here : Other → open_copies (all_changed (gone e) B).copies e.number ≡ []
  none_here other =
      subst (λ b. open_copies
      (all_changed (map (λ (c : MadeCopy). closes c.number (Discarded TopicChanged))
      (cond b (open_copies L.copies e.number) [])) B).copies e.number ≡ []) (sym other)
      (subst (λ (H : History). open_copies H e.number ≡ []) (sym (closes_discard (open_copies L.copies e.number) B))
      (none_open (max L.now moment) L.copies e.number))

  -- another topic and a flow leave all copies
  more_leaves : (b : Bool) (N : Ledger) (f : FlowView) →
      (all_changed (cond b (becomes (to e) ∷ []) [] ++ binds f ∷ []) N).copies ≡ N.copies
  more_leaves true N f = refl
  more_leaves false N f = refl

  after_more : (N : Ledger) → open_copies N.copies e.number ≡ [] →
      open_copies (all_changed (more e) N).copies e.number ≡ []
  after_more N none = subst (λ (H : History). open_copies H e.number ≡ [])
      (sym (more_leaves (is_rebound e (to e)) N (new_flow L.next.flow caller e selector))) none

  after : Other → open_copies (all_changed (gone e ++ more e) B).copies e.number ≡ []
  after other = subst (λ (N : Ledger). open_copies N.copies e.number ≡ [])
      (sym (changed_append (gone e) (more e) B)) (after_more (all_changed (gone e) B) (none_here other))

  -- the same of the list as a bind writes it
  after_bind : Other → (x : EndpointView) → e ≡ x →
      open_copies (all_changed (gone x ++ rebinding x (to x) ++ bound x) B).copies e.number ≡ []
  after_bind other x same =
      subst (λ y. open_copies (all_changed (gone y ++ rebinding y (to y) ++ bound y) B).copies e.number ≡ []) same
      (subst (λ cs. open_copies (all_changed cs B).copies e.number ≡ [])
      (sym (append_assoc (gone e) (rebinding e (to e)) (bound e))) (after other))

  -- an accepted bind to another topic leaves none of the endpoint's copies spooled
  pub none_after_bind : (M : Ledger) (told : List Reply) →
      outcome moment caller (events.Bind name selector topic) L ≡ accepted M told →
      named name L.endpoints ≡ Some e → Other → open_copies M.copies e.number ≡ []
  none_after_bind M told done found other =
      where_accepted L B (λ N t. open_copies N.copies e.number ≡ []) (bind caller name selector topic B)
      (passed_unless NoneOpen (topic_check topic) (on_found (named name L.endpoints) (UnknownEndpoint name) _)
      (passed_on_found {X = EndpointView} NoneOpen (UnknownEndpoint name) _ (named name L.endpoints)
      (λ x is p. after_bind other x (ap (λ o. unwrap_or o e) (sym found ∙ is)))))
      M told done
