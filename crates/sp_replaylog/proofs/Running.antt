-- What holds of the replays as they start, go on and end.
use Rattle.std.proofs.Common.{◌≡◌, ◌∙◌, ◌≤◌, ◌+◌, ◌==◌, ℕ, suc, Bool, true, false, cond, List, [], ◌∷◌, ◌++◌, length, get_or, map, take, drop, Some, None, refl, sym, ap, arith}
use Rattle.std.specs.Prelude.{◌≢◌, All, AllPairs, IfSome, not}
use Rattle.std.proofs.lemmas.Bool.{eqb-true, eqb-false}
use Rattle.std.proofs.lemmas.List.Elements.{All-cons, All-filter, All-head, All-map, All-push, All-tail, All-weaker}
use Rattle.std.proofs.lemmas.List.{take_at}
use Rattle.std.proofs.lemmas.List.Kept.{AllPairs-cons, AllPairs-filter}
use Rattle.std.proofs.lemmas.List.Quantifiers.{all_pairs_push}
use Rattle.sp_replaylog.specs.Replays.{AreReplays, IsRunning, MayGoOn, gone_on, replay_on, with_step, without_replay}
use Rattle.sp_replaylog.specs.declared.replay.Replay.{Replay}

abbrev Apart : Replay → Replay → Type 0
Apart q r = q.endpoint ≢ r.endpoint

abbrev IsElsewhere : ℕ → Replay → Type 0
IsElsewhere endpoint r = r.endpoint ≢ endpoint

pairs_head : (r : Replay) (rs : List Replay) → AllPairs Apart (r ∷ rs) → All (Apart r) rs
pairs_head r rs p k d lt = p 0 (suc k) d (omega arith) (omega arith)

pairs_tail : (r : Replay) (rs : List Replay) → AllPairs Apart (r ∷ rs) → AllPairs Apart rs
pairs_tail r rs p i j d lt le = p (suc i) (suc j) d (omega arith) (omega arith)

-- the replay that is found is one of those that run
pub found_runs : (endpoint : ℕ) (rs : List Replay) → All IsRunning rs → IfSome (replay_on endpoint rs) IsRunning
found_runs endpoint [] all = tt
found_runs endpoint (r ∷ rs) all = one (r.endpoint == endpoint) (All-head IsRunning r rs all) (found_runs endpoint rs (All-tail IsRunning r rs all))
  where
    one : (b : Bool) → IsRunning r → IfSome (replay_on endpoint rs) IsRunning → IfSome (cond b (Some r) (replay_on endpoint rs)) IsRunning
    one true here later = here
    one false here later = later

-- where none is found, all are elsewhere
none_there : (endpoint : ℕ) (rs : List Replay) → replay_on endpoint rs ≡ None → All (IsElsewhere endpoint) rs
none_there endpoint [] none = λ k d lt. absurd (omega arith)
none_there endpoint (r ∷ rs) none = one (r.endpoint == endpoint) refl none (none_there endpoint rs)
  where
    one : (b : Bool) → (r.endpoint == endpoint) ≡ b → cond b (Some r) (replay_on endpoint rs) ≡ None → (replay_on endpoint rs ≡ None → All (IsElsewhere endpoint) rs) → All (IsElsewhere endpoint) (r ∷ rs)
    one true is h later = cc
    one false is h later = All-cons (IsElsewhere endpoint) r rs (eqb-false r.endpoint endpoint is) (later h)

-- a replay starts where none runs
pub started : (rs : List Replay) (r : Replay) → AreReplays rs → IsRunning r → replay_on r.endpoint rs ≡ None → AreReplays (rs ++ r ∷ [])
started rs r are running none = record {
  one = all_pairs_push Apart rs r are.one (none_there r.endpoint rs none);
  running = All-push IsRunning rs r are.running running;
}

-- a replay ends
pub ended : (endpoint : ℕ) (rs : List Replay) → AreReplays rs → AreReplays (without_replay endpoint rs)
ended endpoint rs are = record {
  one = AllPairs-filter Apart (λ r. not (r.endpoint == endpoint)) rs are.one;
  running = All-filter (λ r. not (r.endpoint == endpoint)) IsRunning rs are.running;
}

-- the replay on the endpoint, which is the only one there, may go on
abbrev pub Steps : ℕ → ℕ → ℕ → Replay → Type 0
Steps endpoint next copies r = r.endpoint ≡ endpoint → (next ≤ r.last) × (r.made + copies ≤ next)

elsewhere_steps : (endpoint next copies : ℕ) (r : Replay) → IsElsewhere endpoint r → Steps endpoint next copies r
elsewhere_steps endpoint next copies r other same = absurd (other same)

each_steps : (endpoint next copies : ℕ) (r : Replay) → next ≤ r.last → r.next + copies ≤ next → (rs : List Replay) → AllPairs Apart rs → All IsRunning rs → replay_on endpoint rs ≡ Some r → All (Steps endpoint next copies) rs
each_steps endpoint next copies r within counted [] apart running there = λ k d lt. absurd (omega arith)
each_steps endpoint next copies r within counted (q ∷ rs) apart running there =
    one (q.endpoint == endpoint) refl there (each_steps endpoint next copies r within counted rs (pairs_tail q rs apart) (All-tail IsRunning q rs running))
  where
    own : q ≡ r → Steps endpoint next copies q
    own same at =
        let here = All-head IsRunning q rs running in
        let made = here.counted in
        (omega (arith, within, ap (λ (x : Replay). x.last) same), omega (arith, counted, made, ap (λ (x : Replay). x.next) same))

    one : (b : Bool) → (q.endpoint == endpoint) ≡ b → cond b (Some q) (replay_on endpoint rs) ≡ Some r → (replay_on endpoint rs ≡ Some r → All (Steps endpoint next copies) rs) → All (Steps endpoint next copies) (q ∷ rs)
    one true is h later =
        let same : q ≡ r = cc in
        let here : q.endpoint ≡ endpoint = eqb-true q.endpoint endpoint is in
        All-cons (Steps endpoint next copies) q rs (own same) (All-weaker (Apart q) (Steps endpoint next copies) (λ x other at. absurd (other (here ∙ sym at))) rs (pairs_head q rs apart))
    one false is h later =
        All-cons (Steps endpoint next copies) q rs (elsewhere_steps endpoint next copies q (eqb-false q.endpoint endpoint is)) (later h)

pub may_step : (endpoint next copies : ℕ) (rs : List Replay) → AreReplays rs → MayGoOn endpoint next copies rs → All (Steps endpoint next copies) rs
may_step endpoint next copies rs are may = each_steps endpoint next copies may.replay may.within may.counted rs are.one are.running may.there

abbrev pub after : ℕ → ℕ → ℕ → Replay → Replay
after endpoint next copies r = cond (r.endpoint == endpoint) (gone_on next copies r) r

same_endpoint : (endpoint next copies : ℕ) (r : Replay) → (after endpoint next copies r).endpoint ≡ r.endpoint
same_endpoint endpoint next copies r = one (r.endpoint == endpoint)
  where
    one : (b : Bool) → (cond b (gone_on next copies r) r).endpoint ≡ r.endpoint
    one true = refl
    one false = refl

still_running : (endpoint next copies : ℕ) (r : Replay) → IsRunning r → Steps endpoint next copies r → IsRunning (after endpoint next copies r)
still_running endpoint next copies r running steps = one (r.endpoint == endpoint) refl
  where
    one : (b : Bool) → (r.endpoint == endpoint) ≡ b → IsRunning (cond b (gone_on next copies r) r)
    one true is = let may = steps (eqb-true r.endpoint endpoint is) in record { within = may.0; counted = may.1 }
    one false is = running

still_apart : (endpoint next copies : ℕ) (rs : List Replay) → AllPairs Apart rs → AllPairs Apart (with_step endpoint next copies rs)
still_apart endpoint next copies [] apart = λ i j d lt le. absurd (omega arith)
still_apart endpoint next copies (r ∷ rs) apart =
    let step = after endpoint next copies in
    AllPairs-cons Apart (step r) (map step rs)
    (All-map (Apart (step r)) step rs (All-weaker (Apart r) (λ x. Apart (step r) (step x)) (λ x other same. other (sym (same_endpoint endpoint next copies r) ∙ same ∙ same_endpoint endpoint next copies x)) rs (pairs_head r rs apart)))
    (still_apart endpoint next copies rs (pairs_tail r rs apart))

-- a replay goes on
pub stepped : (endpoint next copies : ℕ) (rs : List Replay) → AreReplays rs → MayGoOn endpoint next copies rs → AreReplays (with_step endpoint next copies rs)
stepped endpoint next copies rs are may = record {
  one = still_apart endpoint next copies rs are.one;
  running = All-map IsRunning (after endpoint next copies) rs (λ k d lt. still_running endpoint next copies (get_or rs k d) (are.running k d lt) (may_step endpoint next copies rs are may k d lt));
}

-- rows that are written over all
pub written_over : (rs written : List Replay) → length written ≡ length rs → take (length rs) (written ++ drop (length written) rs) ≡ written
written_over rs written same = take_at written (drop (length written) rs) (length rs) same
