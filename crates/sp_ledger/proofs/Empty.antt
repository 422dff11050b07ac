-- The ledger without entries is sound.
use Rattle.sp_access.specs.Flow.{FlowView}
use Rattle.sp_copies.specs.declared.closed.ClosedCopy.{ClosedCopy}
use Rattle.sp_copies.specs.declared.held.CopyAttempts.{CopyAttempts}
use Rattle.sp_copies.specs.declared.held.HeldCopy.{HeldCopy}
use Rattle.sp_copies.specs.declared.made.MadeCopy.{MadeCopy}
use Rattle.sp_endpoint.specs.Endpoint.{EndpointView}
use Rattle.sp_ledger.specs.Ledger.{Next, Published, Replay, empty_ledger}
use Rattle.sp_ledger.specs.Limits.{last_copy, spent}
use Rattle.sp_ledger.specs.Sound.{AreNext, IsLedger}
use Rattle.std.proofs.Common.{arith, refl}
use Rattle.std.specs.Prelude.{All, AllPairs, [], bytes_eq, false, ℕ, ◌≡◌, ◌+◌, ◌<◌, ◌≤◌}

none : {X : Type 0} (P : X → Type 0) → All P []
none P = λ i d lt. absurd (omega arith)

no_pairs : {X : Type 0} (R : X → X → Type 0) → AllPairs R []
no_pairs R = λ i j d lt le. absurd (omega arith)

pub empty_sound : (next : Next) (copy : ℕ) → AreNext next → next.unit ≤ spent → 0 < copy → copy ≤ last_copy + 1 →
    IsLedger (empty_ledger next copy)
empty_sound next copy are unit some few = record {
  sound = record {
    one = record {
      numbered = record {
        next_above = some;
        rise = no_pairs {X = MadeCopy} (λ a b. a.number < b.number);
        above = none {X = MadeCopy} _;
        below = none {X = MadeCopy} _;
        closed_made = none {X = ClosedCopy} _;
      };
      closed_once = λ c. omega arith;
      held = record { spooled = none {X = HeldCopy} _; once = λ c. omega arith; bound = none {X = HeldCopy} _ };
      open_there = none {X = MadeCopy} _;
      moved = record { made = none {X = ClosedCopy} _; closed = none {X = MadeCopy} _ };
      moved_once = none {X = MadeCopy} _;
    };
    copies = record {
      quota = λ e. omega arith;
      counted = refl;
      attempts = none {X = CopyAttempts} _;
      endpoints = none {X = MadeCopy} _;
      messages = none {X = MadeCopy} _;
      next = omega (arith, few);
    };
    endpoints = record {
      rise = no_pairs {X = EndpointView} (λ a b. a.number < b.number);
      below = none {X = EndpointView} _;
      differ =
          no_pairs {X = EndpointView} (λ a b. bytes_eq a.name b.name ≡ false);
      each =
          none {X = EndpointView} _;
      most = omega arith;
    };
    messages = record { rise = no_pairs {X = Published} (λ a b. a.number < b.number); below = none {X = Published} _ };
    flows = record {
      rise = no_pairs {X = FlowView} (λ a b. a.number < b.number);
      below = none {X = FlowView} _;
      there = none {X = FlowView} _;
      callers = none {X = FlowView} _;
    };
    replays = record { rise = no_pairs {X = Replay} (λ a b. a.number < b.number); below = none {X = Replay} _ };
    logged = record {
      there = none {X = ℕ} _;
      rise = no_pairs {X = ℕ} (λ a b. a < b);
      fit = omega arith;
      off = λ is. refl;
    };
    next = are;
    turns = none {X = EndpointView} _;
  };
  unit = omega (arith, unit);
  unbound = λ above. refl;
}
