-- The tokens before the one where reading stops can go on, and no continuation of those up to it is a selector.
use Rattle.std.proofs.Common.{◌≡◌, ◌∙◌, ◌+◌, ◌*◌, ◌<◌, ◌≤◌, ◌++◌, ℕ, suc, false, List, [], ◌∷◌, length, Ok, Err, refl, sym, ap, subst, append-nil, arith}
use Rattle.sp_selector.specs.declared.parse.Chain.TheVariants.{Disjunction}
use Rattle.sp_selector.specs.declared.token.Token.{Token}
use Rattle.sp_selector.specs.Grammar.{Chained, Derives}
use Rattle.sp_selector.specs.Parser.{Reading, Whole, reads}
use Rattle.sp_selector.specs.Places.{IsTokens, CanGoOn}
use Rattle.sp_selector.specs.Scan.{counted}
use Rattle.sp_selector.specs.Selector.{all_used, reading_of}
use Rattle.sp_selector.specs.Tree.{Expression}
use Rattle.sp_selector.proofs.Complete.{all_read}
use Rattle.sp_selector.proofs.Follows.{reads_follow}
use Rattle.sp_selector.proofs.Mended.{bind_bad, reads_mended}
use Rattle.sp_selector.proofs.Mends.{Mends, here, derived_before, mends_count, mends_front}
use Rattle.sp_selector.proofs.Near.{Near, same, past, Follows}
use Rattle.sp_selector.proofs.Sound.{reads_sound}
use Rattle.sp_selector.proofs.Spelled.{nothing}

-- so many tokens are left from the one where reading stops, and those before it can go on
pub record Stopped (ts : List Token) (k : ℕ) : Type 0 where
  pub before : List Token
  pub after : List Token
  pub all : ts ≡ before ++ after
  pub left : length after ≡ k
  pub goes : CanGoOn before

all_used_bad : (e : Expression) (rest : List Token) (k : ℕ) → all_used e rest ≡ Err k → length rest ≡ k
all_used_bad e [] k h = cc
all_used_bad e (t ∷ ts) k h = cc

mended_stops : (ts us : List Token) (k : ℕ) (e : Expression) → counted false ts ≤ 200 → Mends k ts us → Derives (Chained Disjunction) us e [] → Stopped ts k
mended_stops ts us k e few m d =
    let f = mends_front m in
    record {
      before = f.0;
      after = f.1;
      all = f.3;
      left = f.5;
      goes = record {
        more = f.6.0;
        whole = (f.6.1 0).0;
        tree = e;
        selector = subst (λ ws. IsTokens ws e) (f.4 ∙ ap (λ more. f.0 ++ more) (sym (f.6.1 0).1)) (record { few = omega (arith, mends_count m false); derived = d });
      };
    }

-- what can't be read can be completed from where it stops
pub stopped : (ts : List Token) (k : ℕ) → counted false ts ≤ 200 → reading_of ts ≡ Err k → Stopped ts k
stopped ts k few h =
    bind_bad (reads (10 * length ts + 10) (Whole (Chained Disjunction)) ts) _ k h
    (λ g. let m = reads_mended (10 * length ts + 10) (Whole (Chained Disjunction)) ts k g [] nothing in mended_stops ts m.0 k m.1 few m.2 m.3)
    (λ x read g.
    let left = all_used_bad x.0 x.1 k g in
    let b = derived_before (reads_sound (10 * length ts + 10) (Whole (Chained Disjunction)) ts x.0 x.1 read) k [] (subst (λ n. Mends n x.1 []) left (here nothing)) in
    mended_stops ts b.0 k x.0 few b.1 b.2)

-- what is read needs no more tokens
pub read_goes : (ts : List Token) (e : Expression) → counted false ts ≤ 200 → Derives (Chained Disjunction) ts e [] → CanGoOn ts
read_goes ts e few d = record { more = []; whole = refl; tree = e; selector = subst (λ us. IsTokens us e) (sym (append-nil ts)) (record { few = few; derived = d }) }

pub near_front : (before : List Token) (t : Token) (after more : List Token) → Near (suc (length after)) (before ++ t ∷ after) (before ++ t ∷ more)
near_front [] t after more = same (past (omega arith))
near_front (b ∷ before) t after more = same (near_front before t after more)

near_none : {j : ℕ} {ts : List Token} → Near j ts [] → length ts < j
near_none (past less) = less

not_read : (r : Reading Expression) (k : ℕ) (e : Expression) (rest : List Token) → r ≡ Err k → r ≡ Ok (e, rest) → ⊥
not_read r k e rest g h = cc

same_read : (r : Reading Expression) (x y : Expression × List Token) → r ≡ Ok x → r ≡ Ok y → x ≡ y
same_read r x y g h = cc

-- a token where reading stopped has no continuation
pub stuck_stays : (ts us : List Token) (k : ℕ) (e : Expression) → reading_of ts ≡ Err k → 0 < k → Near k ts us → Derives (Chained Disjunction) us e [] → ⊥
stuck_stays ts us k e h some near d =
    let n = 10 * length ts + 10 in
    let m = n + 10 * length us in
    let follows : Follows k (length ts) (reads n (Whole (Chained Disjunction)) ts) (reads m (Whole (Chained Disjunction)) us) = reads_follow k n m some (omega arith) (Whole (Chained Disjunction)) ts us (omega arith) near in
    let read : reads m (Whole (Chained Disjunction)) us ≡ Ok (e, []) = all_read us e m d (omega arith) in
    bind_bad (reads n (Whole (Chained Disjunction)) ts) _ k h
    (λ g.
    let f = (subst (λ r. Follows k (length ts) r (reads m (Whole (Chained Disjunction)) us)) g follows).1 (omega arith) in
    not_read (reads m (Whole (Chained Disjunction)) us) f.0 e [] f.1 read)
    (λ x is g.
    let left = all_used_bad x.0 x.1 k g in
    let f = (subst (λ r. Follows k (length ts) r (reads m (Whole (Chained Disjunction)) us)) is follows).1 (omega (arith, left)) in
    let none : f.0 ≡ [] = ap (λ (p : Expression × List Token). p.1) (same_read (reads m (Whole (Chained Disjunction)) us) (x.0, f.0) (e, []) f.1 read) in
    let less = near_none (subst (λ rs. Near k x.1 rs) none f.2) in
    omega (arith, left))
