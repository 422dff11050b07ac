-- The hall's rule: word 0 is the tickets drawn, word 1 is the calls finished, and the slot has the object.
use Rattle.std.specs.Prelude.{◌≡◌, ℕ, ◌+◌, ◌-◌, ◌^◌, ◌<◌, ◌≤◌, List, [], ◌∷◌, true, false, Option, None, Some, if◌then◌else◌, sum_by}
use mathlib.Core.Option.{some, none}
use lib.ListN.{get_elem?}
use Rattle.atomic_table.specs.Table.{State, Me, Step}
use Rattle.sp_hall.specs.States.{Begins, IsCounted, Leads, shorter_of, both_of}
use Rattle.sp_hall.specs.declared.object.Shown.{Shown}
use Rattle.sp_hall.specs.declared.seat.View.{View}

module _ {E S : Type 0} where
  -- 1 where a view has a ticket
  abbrev pub waits : View E S → ℕ
  waits v = if v.drawn then 1 else 0

  -- what holds of each view. A spent view, which has no part, has no ticket and has made nothing
  pub record Fits (drawn finished : ℕ) (start now : Shown E S) (v : View E S) : Type 0 where
    pub ticket : v.drawn ≡ true → (finished ≤ v.ticket) × (v.ticket < drawn)
    pub turn : v.turn ≡ true → (v.drawn ≡ true) × (v.ticket ≡ finished) × (v.base ≡ now)
    pub spent : v.parts ≡ 0 → (v.drawn ≡ false) × (v.made ≡ 0)
    pub opened : 0 < v.parts → v.opened ≡ start
    pub seen : 0 < v.parts → Leads v.seen now
    pub short : 0 < v.parts → Begins v.seen.list v.short

  -- no two views have one ticket
  abbrev pub Distinct : List (View E S) → Type 0
  Distinct views = (i j : ℕ) (v w : View E S) → get_elem? views i ≡ some v → get_elem? views j ≡ some w → v.drawn ≡ true → w.drawn ≡ true → v.ticket ≡ w.ticket → i ≡ j

  -- some view is at its turn
  abbrev pub IsAnyAtTurn : List (View E S) → Type 0
  IsAnyAtTurn views = (i : ℕ) × (v : View E S) × (get_elem? views i ≡ some v) × (v.turn ≡ true)

  -- a view with a ticket
  abbrev pub with_ticket : View E S → ℕ → View E S
  with_ticket v t = record v { drawn = true; ticket = t }

  -- a view at its turn, with what the object shows as it comes
  abbrev pub at_turn : View E S → Shown E S → View E S
  at_turn v shown = record v { turn = true; base = shown }

  -- a view after its call, with what the object shows as it goes back
  abbrev pub after_call : View E S → Shown E S → View E S
  after_call v shown = record v { made = v.made + (shown.count - v.base.count); drawn = false; turn = false; seen = shown; short = shown.list }

  -- the view of the first pass
  abbrev pub opening_view : Shown E S → View E S
  opening_view shown = record { parts = 2 ^ 62; made = 0; opened = shown; drawn = false; ticket = 0; turn = false; seen = shown; short = shown.list; base = shown }

  -- a view with a part less
  abbrev pub left_part : View E S → View E S
  left_part v = record v { parts = v.parts - 1 }

  -- the view of a new pass, which has made nothing
  abbrev pub right_part : View E S → View E S
  right_part v = record { parts = 1; made = 0; opened = v.opened; drawn = false; ticket = 0; turn = false; seen = v.seen; short = v.seen.list; base = v.seen }

  -- two views as one, which keeps the shorter list until the two are compared
  abbrev pub met : View E S → View E S → View E S
  met v w = record v { parts = v.parts + w.parts; made = v.made + w.made; seen = both_of v.seen w.seen; short = shorter_of v.seen.list w.seen.list }

  -- what an object shows that shows nothing
  abbrev pub nothing : Shown E S
  nothing = record { count = 0; faults = 0; list = None; first = 0; start = None }

  -- a view that has gone into another
  abbrev pub spent_view : View E S
  spent_view = record { parts = 0; made = 0; opened = nothing; drawn = false; ticket = 0; turn = false; seen = nothing; short = None; base = nothing }

module _ {O E S : Type 0} (shows : O → Shown E S) where
  -- Word 1 and the views with a ticket make word 0, and no word passes 2 ^ 63. At most one view is at its turn, and the slot is out exactly while one is
  pub record Ruled (opened : Shown E S) (s : State (Option O) (View E S)) : Type 0 where
    pub drawn : ℕ
    pub finished : ℕ
    pub now : Shown E S
    pub words : s.words ≡ drawn ∷ finished ∷ []
    pub waiting : finished + sum_by waits s.views ≡ drawn
    pub bound : finished ≤ 2 ^ 62
    pub distinct : Distinct s.views
    pub each : (i : ℕ) (v : View E S) → get_elem? s.views i ≡ some v → Fits drawn finished opened now v
    pub parts : sum_by (λ v. v.parts) s.views ≡ 2 ^ 62
    pub made : opened.count + sum_by (λ v. v.made) s.views ≡ now.count
    pub later : Leads opened now
    pub counted : IsCounted now
    pub small : now.count < 2 ^ 64
    pub home : (y : Option O) → get_elem? s.homes 0 ≡ some (some y) → (o : O) × (y ≡ Some o) × (shows o ≡ now)
    pub away : get_elem? s.homes 0 ≡ some none → IsAnyAtTurn s.views
    pub out : IsAnyAtTurn s.views → get_elem? s.homes 0 ≡ some none

  -- draw: the caller has a ticket, whose number the word had
  abbrev pub Draws : Step (Option O) → Me (Option O) (View E S) → ℕ → Me (Option O) (View E S) → Type 0
  Draws st m found m' = (m'.0 ≡ with_ticket m.0 found) × (m'.1 ≡ m.1)

  -- the seat has the object, which is in no earlier state than the one that the pass has seen
  pub record TakesTurn (m m' : Me (Option O) (View E S)) : Type 0 where
    pub object : O
    pub carries : m'.1 ≡ (0, Some object) ∷ []
    pub view : m'.0 ≡ at_turn m.0 (shows object)
    pub seen : Leads m.0.seen (shows object)
    pub counted : IsCounted (shows object)
    pub made : m.0.made ≤ (shows object).count

  -- look: at its ticket the caller has its turn, and else nothing changes
  abbrev pub Looks : Step (Option O) → Me (Option O) (View E S) → ℕ → Me (Option O) (View E S) → Type 0
  Looks st m found m' = (found ≡ m.0.ticket → TakesTurn m m') × (¬ (found ≡ m.0.ticket) → m' ≡ m)

  -- finish: the object that the seat carried is home
  abbrev pub Finishes : Step (Option O) → Me (Option O) (View E S) → ℕ → Me (Option O) (View E S) → Type 0
  Finishes st m found m' = (o : O) → m.1 ≡ (0, Some o) ∷ [] → (m'.0 ≡ after_call m.0 (shows o)) × (m'.1 ≡ [])

-- compare: nothing changes, and the list begins with the shorter one. What was made fits a word
abbrev pub Compares : {X E S : Type 0} → Step X → Me X (View E S) → ℕ → Me X (View E S) → Type 0
Compares st m found m' = (m' ≡ m) × Begins m.0.seen.list m.0.short × (m.0.made < 2 ^ 64)
