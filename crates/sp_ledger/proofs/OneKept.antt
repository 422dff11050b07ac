-- Each change of the copies keeps every copy's one fate.
use Rattle.sp_access.specs.Flow.{FlowView}
use Rattle.sp_copies.specs.Counts.{is_moved}
use Rattle.sp_copies.specs.History.{closing_of, is_closed}
use Rattle.sp_copies.specs.declared.closed.ClosedCopy.{ClosedCopy}
use Rattle.sp_copies.specs.declared.closed.Closing.{Closing}
use Rattle.sp_copies.specs.declared.closed.Closing.TheVariants as closings
use Rattle.sp_copies.specs.declared.held.HeldCopy.{HeldCopy}
use Rattle.sp_copies.specs.declared.made.MadeCopy.{MadeCopy}
use Rattle.sp_copies.specs.declared.made.Origin.{Origin}
use Rattle.sp_copies.specs.declared.made.Origin.TheVariants as origins
use Rattle.sp_endpoint.specs.Endpoint.{EndpointView}
use Rattle.sp_endpoint.specs.Endpoints.{is_there}
use Rattle.sp_ledger.proofs.Closings.{still_closed, still_move_to, still_unmoved}
use Rattle.sp_ledger.proofs.Listed.{and_both, and_left, and_right, any_grows, any_weaker, not_true, or_both, or_right}
use Rattle.sp_ledger.specs.One.{has_its_closing, has_its_copy, is_bound_for, is_by_move, is_move_of, is_of_message}
use Rattle.std.proofs.Common.{ap, refl}
use Rattle.std.proofs.lemmas.List.Elements.{All-push, All-weaker}
use Rattle.std.specs.List.{list_any}
use Rattle.std.specs.Prelude.{All, Bool, IsTrue, List, Some, [], false, is_none, not, true, ℕ, ◌&&◌, ◌++◌, ◌==◌, ◌||◌}
use Rattle.std.specs.Prelude.{◌∷◌, ◌≡◌}

-- what is asked of the copies made, the closings, the held copies, the endpoints and the flows
abbrev pub HeldBound : List FlowView → List MadeCopy → List HeldCopy → Type 0
HeldBound flows made held = All (λ h. IsTrue (is_bound_for flows made h)) held

abbrev pub OpenThere : List EndpointView → List ClosedCopy → List MadeCopy → Type 0
OpenThere endpoints closed made = All (λ c. IsTrue (is_closed closed c.number || is_there endpoints c.endpoint)) made

abbrev pub MovedMade : List MadeCopy → List ClosedCopy → Type 0
MovedMade made closed = All (λ x. IsTrue (has_its_copy made x.copy x.how)) closed

abbrev pub MadeMoved : List ClosedCopy → List MadeCopy → Type 0
MadeMoved closed made = All (λ c. IsTrue (has_its_closing closed c.number c.origin)) made

abbrev pub MovedOnce : List ClosedCopy → List MadeCopy → Type 0
MovedOnce closed made = All (λ c. IsTrue (not (is_by_move c.origin && is_moved (closing_of closed c.number)))) made

-- a held copy's flow is still bound where a copy is made
pub bound-made : (flows : List FlowView) (made : List MadeCopy) (new : MadeCopy) (held : List HeldCopy) →
    HeldBound flows made held → HeldBound flows (made ++ new ∷ []) held
bound-made flows made new held all =
    All-weaker (λ (h : HeldCopy). IsTrue (is_bound_for flows made h))
    (λ (h : HeldCopy). IsTrue (is_bound_for flows (made ++ new ∷ []) h)) one held all
  where
    one : (h : HeldCopy) → IsTrue (is_bound_for flows made h) → IsTrue (is_bound_for flows (made ++ new ∷ []) h)
    one h is =
        any_weaker {X = FlowView}
        (λ f. (f.number == h.flow) && list_any
        (λ (c : MadeCopy). (c.number == h.copy) && (c.endpoint == f.endpoint)) made)
        (λ f. (f.number == h.flow) && list_any
        (λ (c : MadeCopy). (c.number == h.copy) && (c.endpoint == f.endpoint)) (made ++ new ∷ []))
        (λ f k. and_both (f.number == h.flow) _ (and_left (f.number == h.flow) _ k)
        (any_grows {X = MadeCopy} (λ c. (c.number == h.copy) && (c.endpoint == f.endpoint)) made (new ∷ [])
        (and_right (f.number == h.flow) _ k)))
        flows is

-- where a flow is bound
pub bound-flow : (flows : List FlowView) (new : FlowView) (made : List MadeCopy) (held : List HeldCopy) →
    HeldBound flows made held → HeldBound (flows ++ new ∷ []) made held
bound-flow flows new made held all =
    All-weaker (λ (h : HeldCopy). IsTrue (is_bound_for flows made h))
    (λ (h : HeldCopy). IsTrue (is_bound_for (flows ++ new ∷ []) made h))
    (λ h is. any_grows {X = FlowView}
    (λ f. (f.number == h.flow) && list_any
    (λ (c : MadeCopy). (c.number == h.copy) && (c.endpoint == f.endpoint)) made) flows (new ∷ []) is) held all

-- a spooled copy's endpoint is there where all that were there are
pub there-weaker : (endpoints after : List EndpointView) →
    ((n : ℕ) → is_there endpoints n ≡ true → is_there after n ≡ true) →
    (closed : List ClosedCopy) (made : List MadeCopy) → OpenThere endpoints closed made → OpenThere after closed made
there-weaker endpoints after still closed made all =
    All-weaker (λ (c : MadeCopy). IsTrue (is_closed closed c.number || is_there endpoints c.endpoint))
    (λ (c : MadeCopy). IsTrue (is_closed closed c.number || is_there after c.endpoint))
    (λ c is. or_both (is_closed closed c.number) (is_there endpoints c.endpoint) (is_closed closed c.number)
    (is_there after c.endpoint) (λ k. k) (still c.endpoint) is) made all

-- where a copy is closed
pub there-closed : (endpoints : List EndpointView) (closed : List ClosedCopy) (x : ClosedCopy)
    (made : List MadeCopy) → OpenThere endpoints closed made → OpenThere endpoints (closed ++ x ∷ []) made
there-closed endpoints closed x made all =
    All-weaker (λ (c : MadeCopy). IsTrue (is_closed closed c.number || is_there endpoints c.endpoint))
    (λ (c : MadeCopy). IsTrue (is_closed (closed ++ x ∷ []) c.number || is_there endpoints c.endpoint))
    (λ c is. or_both (is_closed closed c.number) (is_there endpoints c.endpoint)
    (is_closed (closed ++ x ∷ []) c.number) (is_there endpoints c.endpoint)
    (λ k. still_closed closed (x ∷ []) c.number k) (λ k. k) is) made all

-- and where one is made in an endpoint that is there
pub there-made : (endpoints : List EndpointView) (closed : List ClosedCopy) (made : List MadeCopy)
    (new : MadeCopy) → IsTrue (is_there endpoints new.endpoint) → OpenThere endpoints closed made →
    OpenThere endpoints closed (made ++ new ∷ [])
there-made endpoints closed made new there all =
    All-push (λ (c : MadeCopy). IsTrue (is_closed closed c.number || is_there endpoints c.endpoint)) made new all
    (or_right (is_closed closed new.number) (is_there endpoints new.endpoint) there)

-- a copy that was moved away has its copy, also where one more is made
its_copy-made : (made : List MadeCopy) (new : MadeCopy) (copy : ℕ) (how : Closing) →
    IsTrue (has_its_copy made copy how) → IsTrue (has_its_copy (made ++ new ∷ []) copy how)
its_copy-made made new copy closings.Accepted is = refl
its_copy-made made new copy (closings.Moved to) is =
    any_grows {X = MadeCopy} (wanted (made ++ new ∷ [])) made (new ∷ [])
    (any_weaker {X = MadeCopy} (wanted made) (wanted (made ++ new ∷ [])) weaker made is)
  where
    wanted : List MadeCopy → MadeCopy → Bool
    wanted among c = (c.number == to) && is_move_of copy c.origin && is_none c.deadline && is_of_message among copy
        c.message

    weaker : (c : MadeCopy) → wanted made c ≡ true → wanted (made ++ new ∷ []) c ≡ true
    weaker c k =
        let front = and_left ((c.number == to) && is_move_of copy c.origin && is_none c.deadline)
        (is_of_message made copy c.message) k in
        let same = and_right ((c.number == to) && is_move_of copy c.origin && is_none c.deadline)
        (is_of_message made copy c.message) k in
        and_both _ (is_of_message (made ++ new ∷ []) copy c.message) front
        (any_grows {X = MadeCopy} (λ d. (d.number == copy) && (d.message == c.message)) made (new ∷ []) same)
its_copy-made made new copy (closings.Discarded cause) is = refl

pub moved_made-made : (made : List MadeCopy) (new : MadeCopy) (closed : List ClosedCopy) → MovedMade made closed →
    MovedMade (made ++ new ∷ []) closed
moved_made-made made new closed all =
    All-weaker (λ (x : ClosedCopy). IsTrue (has_its_copy made x.copy x.how))
    (λ (x : ClosedCopy). IsTrue (has_its_copy (made ++ new ∷ []) x.copy x.how))
    (λ x is. its_copy-made made new x.copy x.how is) closed all

-- a copy that a move made has its closing, also where one more copy is closed
its_closing-closed : (closed : List ClosedCopy) (x : ClosedCopy) (copy : ℕ) (origin : Origin) →
    IsTrue (has_its_closing closed copy origin) → IsTrue (has_its_closing (closed ++ x ∷ []) copy origin)
its_closing-closed closed x copy origins.Published is = refl
its_closing-closed closed x copy (origins.Moved from) is = still_move_to closed (x ∷ []) from copy is
its_closing-closed closed x copy (origins.Replayed replay) is = refl

pub made_moved-closed : (closed : List ClosedCopy) (x : ClosedCopy) (made : List MadeCopy) → MadeMoved closed made →
    MadeMoved (closed ++ x ∷ []) made
made_moved-closed closed x made all =
    All-weaker (λ (c : MadeCopy). IsTrue (has_its_closing closed c.number c.origin))
    (λ (c : MadeCopy). IsTrue (has_its_closing (closed ++ x ∷ []) c.number c.origin))
    (λ c is. its_closing-closed closed x c.number c.origin is) made all

-- a closing that is no move moves no copy a second time
once : (by moved : Bool) (after : Bool) → (moved ≡ false → after ≡ false) → IsTrue (not (by && moved)) →
    IsTrue (not (by && after))
once false moved after still is = refl
once true moved after still is = ap not (still (not_true moved is))

pub moved_once-closed : (closed : List ClosedCopy) (x : ClosedCopy) → is_moved (Some x.how) ≡ false →
    (made : List MadeCopy) → MovedOnce closed made → MovedOnce (closed ++ x ∷ []) made
moved_once-closed closed x isnt made all =
    All-weaker (λ (c : MadeCopy). IsTrue (not (is_by_move c.origin && is_moved (closing_of closed c.number))))
    (λ (c : MadeCopy). IsTrue (not (is_by_move c.origin && is_moved (closing_of (closed ++ x ∷ []) c.number))))
    (λ c is. once (is_by_move c.origin) (is_moved (closing_of closed c.number))
    (is_moved (closing_of (closed ++ x ∷ []) c.number)) (still_unmoved closed x isnt c.number) is) made all
