use Rattle.std.proofs.Common.{◌≡◌, ℕ, ◌+◌, ◌-◌, ◌≤◌, List, [], ◌∷◌, ◌++◌, length, drop, inr, sym, ap, subst, arith, rules}
use Rattle.std.proofs.lemmas.List.{length-drop}
use Rattle.sp_disk.specs.declared.disk.File.TheVariants.{Journal}
use Rattle.sp_disk.proofs.LookedLemmas.{reads_same, then, told_still}
use Rattle.sp_journal.specs.Format.{ComesTo}
use Rattle.sp_journal.specs.Survey.{GateIs}
use Rattle.sp_journal.specs.declared.survey.Gate.{Gate}
use Rattle.sp_journal.specs.declared.survey.Gate.TheVariants.{Closed, Whole, Broken}
use Rattle.sp_journal.proofs.Walks.{comes_closed, comes_broken, comes_whole}
use Rattle.sp_journal.proofs.survey.walk.Goals as goal

pub returns-in-Closed-clause-found : goal.returns-in-Closed-clause-found
returns-in-Closed-clause-found g c told =
    let old = c.args.disk.now in
    let mid = c.units.disk in
    let place = c.units.place in
    let body = c.gate_at.new.into.items in
    let comes = c.units.invariant.comes told in
    let looked = c.units.invariant.looked in
    let same = reads_same g.D.Disk.tells g.D.Disk.content g.D.Disk.may_leave g.D.Disk.moment g.D.Disk.left_since old
    mid looked Journal in
    let still = told_still g.D.Disk.tells g.D.Disk.content g.D.Disk.may_leave g.D.Disk.moment g.D.Disk.left_since old
    mid looked told in
    let left : c.args.len - place ≡ length (drop place (g.D.Disk.content mid Journal)) =
    omega (arith, length-drop place (g.D.Disk.content mid Journal), ap length same, (c.requires.born told).0) in
    let there : GateIs c.in_ok-gate_at.field-0 body (drop place (g.D.Disk.content mid Journal)) =
    c.in_ok-gate_at.ensures.gate still left in
    let closed : GateIs Closed body (drop place (g.D.Disk.content old Journal)) =
    subst (λ (l : List ℕ). GateIs Closed body (drop place l)) same
    (subst (λ (gate : Gate). GateIs gate body (drop place (g.D.Disk.content mid Journal))) c.in-Closed.is there) in
    (comes.0, comes_closed comes.0 place (g.D.Disk.content old Journal) comes.1 body closed)

pub returns-in-Broken-clause-found : goal.returns-in-Broken-clause-found
returns-in-Broken-clause-found g c told =
    let old = c.args.disk.now in
    let mid = c.units.disk in
    let place = c.units.place in
    let body = c.gate_at.new.into.items in
    let comes = c.units.invariant.comes told in
    let looked = c.units.invariant.looked in
    let same = reads_same g.D.Disk.tells g.D.Disk.content g.D.Disk.may_leave g.D.Disk.moment g.D.Disk.left_since old
    mid looked Journal in
    let still = told_still g.D.Disk.tells g.D.Disk.content g.D.Disk.may_leave g.D.Disk.moment g.D.Disk.left_since old
    mid looked told in
    let left : c.args.len - place ≡ length (drop place (g.D.Disk.content mid Journal)) =
    omega (arith, length-drop place (g.D.Disk.content mid Journal), ap length same, (c.requires.born told).0) in
    let there : GateIs c.in_ok-gate_at.field-0 body (drop place (g.D.Disk.content mid Journal)) =
    c.in_ok-gate_at.ensures.gate still left in
    let broken : GateIs Broken body (drop place (g.D.Disk.content old Journal)) =
    subst (λ (l : List ℕ). GateIs Broken body (drop place l)) same
    (subst (λ (gate : Gate). GateIs gate body (drop place (g.D.Disk.content mid Journal))) c.in-Broken.is there) in
    inr (inr (comes.0, comes_broken comes.0 place (g.D.Disk.content old Journal) comes.1 body broken))

pub units-preserved : goal.units-preserved
units-preserved g c =
    let old = c.args.disk.now in
    let mid = c.units.disk in
    let place = c.units.place in
    let n = c.in-Whole.size in
    let size : c.from.result ≡ n = search rules in
    let fits : n + 6 ≤ c.args.len - place = search rules in
    record {
      below = omega (arith, size, fits);
      looked = then g.D.Disk.tells g.D.Disk.content g.D.Disk.may_leave g.D.Disk.moment g.D.Disk.left_since old mid
          c.gate_at.new.disk
          c.units.invariant.looked c.gate_at.ensures.looked;
      faults = search rules;
      comes = λ told.
          let file = g.D.Disk.content old Journal in
          let body = c.gate_at.new.into.items in
          let comes = c.units.invariant.comes told in
          let looked = c.units.invariant.looked in
          let same = reads_same g.D.Disk.tells g.D.Disk.content g.D.Disk.may_leave g.D.Disk.moment g.D.Disk.left_since
          old mid looked Journal in
          let still = told_still g.D.Disk.tells g.D.Disk.content g.D.Disk.may_leave g.D.Disk.moment g.D.Disk.left_since
          old mid looked told in
          let left : c.args.len - place ≡ length (drop place (g.D.Disk.content mid Journal)) =
          omega (arith, length-drop place (g.D.Disk.content mid Journal), ap length same, (c.requires.born told).0) in
          let there : GateIs c.in_ok-gate_at.field-0 body (drop place (g.D.Disk.content mid Journal)) =
          c.in_ok-gate_at.ensures.gate still left in
          let whole : GateIs (Whole n) body (drop place file) =
          subst (λ (l : List ℕ). GateIs (Whole n) body (drop place l)) same
          (subst (λ (gate : Gate). GateIs gate body (drop place (g.D.Disk.content mid Journal))) c.in-Whole.is there) in
          let next = comes_whole comes.0 place file comes.1 n body whole in (
            comes.0 ++ next.0 ∷ [],
            subst (λ (k : ℕ). ComesTo (comes.0 ++ next.0 ∷ []) (place + (k + 5)) file) (sym size) next.2,
          );
    }
