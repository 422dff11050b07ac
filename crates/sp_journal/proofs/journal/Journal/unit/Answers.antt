use Rattle.std.proofs.Common.{◌≡◌, ℕ, ◌+◌, ◌-◌, List, [], ◌∷◌, ◌++◌, length, drop, IsTrue, sym, ap, subst, arith, rules}
use Rattle.std.proofs.lemmas.List.{length-drop}
use Rattle.sp_disk.specs.Disk.{Folder, Telling}
use Rattle.sp_disk.specs.declared.disk.File.TheVariants.{Journal as JournalFile}
use Rattle.sp_journal.specs.Format.{ComesTo}
use Rattle.sp_journal.specs.Survey.{GateIs}
use Rattle.sp_journal.specs.declared.survey.Gate.{Gate}
use Rattle.sp_journal.specs.declared.survey.Gate.TheVariants.{Closed, Whole, Broken}
use Rattle.sp_journal.proofs.Walks.{comes_closed, comes_broken, comes_whole}
use Rattle.sp_journal.proofs.journal.Journal.unit.Goals as goal

pub returns-in-Ok-Closed-clause-unit : goal.returns-in-Ok-Closed-clause-unit
returns-in-Ok-Closed-clause-unit g c told born units comes =
    let at = c.args.at in
    let body = c.gate_at.new.into.items in
    let file = g.D.Disk.content c.args.disk.now JournalFile in
    let mid = g.D.Disk.content c.len.new.self JournalFile in
    let same : mid ≡ file = ap (λ (f : Folder). f JournalFile) c.len.ensures.content in
    let still : IsTrue (g.D.Disk.tells c.len.new.self).content =
    subst (λ (t : Telling). IsTrue t.content) (sym c.len.ensures.telling) told in
    let left : c.in-Ok.len - at ≡ length (drop at mid) =
    omega (arith, length-drop at mid, ap length same, c.in-Ok.ensures.length told) in
    comes_closed units at file comes body
    (subst (λ (l : List ℕ). GateIs Closed body (drop at l)) same
    (subst (λ (gate : Gate). GateIs gate body (drop at mid)) c.in-Ok-Closed.field-0-is
    (c.in-Ok-Closed.ensures.gate still left)))

pub returns-in-Ok-Broken-clause-damaged : goal.returns-in-Ok-Broken-clause-damaged
returns-in-Ok-Broken-clause-damaged g c told born units comes number place is =
    let at = c.args.at in
    let body = c.gate_at.new.into.items in
    let file = g.D.Disk.content c.args.disk.now JournalFile in
    let mid = g.D.Disk.content c.len.new.self JournalFile in
    let same : mid ≡ file = ap (λ (f : Folder). f JournalFile) c.len.ensures.content in
    let still : IsTrue (g.D.Disk.tells c.len.new.self).content =
    subst (λ (t : Telling). IsTrue t.content) (sym c.len.ensures.telling) told in
    let left : c.in-Ok.len - at ≡ length (drop at mid) =
    omega (arith, length-drop at mid, ap length same, c.in-Ok.ensures.length told) in
    let none : 0 ≡ number = cc in
    let here : at ≡ place = cc in
    let there = subst (λ (l : List ℕ). GateIs Broken body (drop at l)) same
    (subst (λ (gate : Gate). GateIs gate body (drop at mid)) c.in-Ok-Broken.field-0-is
    (c.in-Ok-Broken.ensures.gate still left)) in
    (sym none, sym here, comes_broken units at file comes body there)

pub returns-in-Ok-Whole-clause-unit : goal.returns-in-Ok-Whole-clause-unit
returns-in-Ok-Whole-clause-unit g c told born units comes =
    let at = c.args.at in
    let n = c.in-Ok-Whole.size in
    let body = c.gate_at.new.into.items in
    let file = g.D.Disk.content c.args.disk.now JournalFile in
    let mid = g.D.Disk.content c.len.new.self JournalFile in
    let same : mid ≡ file = ap (λ (f : Folder). f JournalFile) c.len.ensures.content in
    let still : IsTrue (g.D.Disk.tells c.len.new.self).content =
    subst (λ (t : Telling). IsTrue t.content) (sym c.len.ensures.telling) told in
    let left : c.in-Ok.len - at ≡ length (drop at mid) =
    omega (arith, length-drop at mid, ap length same, c.in-Ok.ensures.length told) in
    let whole : GateIs (Whole n) body (drop at file) =
    subst (λ (l : List ℕ). GateIs (Whole n) body (drop at l)) same
    (subst (λ (gate : Gate). GateIs gate body (drop at mid)) c.in-Ok-Whole.field-0-is
    (c.in-Ok-Whole.ensures.gate still left)) in
    let size : c.from.result ≡ n = search rules in
    let next : at + (n + 5) ≡ at + c.from.result + 5 = omega (arith, size) in
    let found = comes_whole units at file comes n body whole in (
      found.0,
      found.1,
      omega (arith, size, whole.5),
      subst (λ (k : ℕ). ComesTo (units ++ found.0 ∷ []) k file) next found.2,
    )
