use Rattle.std.proofs.Common.{◌≡◌, List, ℕ, length, sym, ap, subst, ◌∙◌}
use Rattle.sp_disk.specs.Disk.{Folder, Torn, written}
use Rattle.sp_disk.specs.declared.disk.File.TheVariants.{Journal}
use Rattle.sp_disk.proofs.EverywhereLemmas.{makes, makes_and_syncs}
use Rattle.sp_disk.proofs.Tears.{torn_same, torn_written}
use Rattle.sp_journal.proofs.device.put.Goals as goal

pub returns-in_err-write-clause-moments : goal.returns-in_err-write-clause-moments
returns-in_err-write-clause-moments g c honest =
    let n = length c.args.bytes.now in
    makes g.D.Disk.moment g.D.Disk.left_since g.D.Disk.may_leave Journal (Torn c.args.at n) g.met.D.Disk.only_now
    (torn_same c.args.at n) c.args.disk.now c.write.new.self (c.write.ensures.images honest) c.write.ensures.time

pub returns-in_err-sync-clause-moments : goal.returns-in_err-sync-clause-moments
returns-in_err-sync-clause-moments g c honest =
    let n = length c.args.bytes.now in
    let wrote = makes g.D.Disk.moment g.D.Disk.left_since g.D.Disk.may_leave Journal (Torn c.args.at n)
    g.met.D.Disk.only_now
    (torn_same c.args.at n) c.args.disk.now c.write.new.self (c.write.ensures.images honest) c.write.ensures.time in
    makes_and_syncs g.D.Disk.moment g.D.Disk.left_since g.D.Disk.may_leave Journal (Torn c.args.at n) c.args.disk.now
    c.write.new.self c.sync.new.self wrote (c.write.ensures.images honest) c.sync.ensures.images c.sync.ensures.time

pub returns-clause-moments : goal.returns-clause-moments
returns-clause-moments g c honest =
    let n = length c.args.bytes.now in
    let wrote = makes g.D.Disk.moment g.D.Disk.left_since g.D.Disk.may_leave Journal (Torn c.args.at n)
    g.met.D.Disk.only_now
    (torn_same c.args.at n) c.args.disk.now c.write.new.self (c.write.ensures.images honest) c.write.ensures.time in
    makes_and_syncs g.D.Disk.moment g.D.Disk.left_since g.D.Disk.may_leave Journal (Torn c.args.at n) c.args.disk.now
    c.write.new.self c.sync.new.self wrote (c.write.ensures.images honest) c.sync.ensures.images c.sync.ensures.time

pub returns-in_err-sync-clause-torn : goal.returns-in_err-sync-clause-torn
returns-in_err-sync-clause-torn g c told =
    let at = c.args.at in
    let file = g.D.Disk.content c.args.disk.now Journal in
    let whole : g.D.Disk.content c.sync.new.self Journal ≡ written file at c.args.bytes.now =
    ap (λ (f : Folder). f Journal) c.sync.ensures.content ∙ c.in_ok-write.ensures.written told in
    subst (λ (l : List ℕ). Torn at (length c.args.bytes.now) file l) (sym whole) (torn_written at c.args.bytes.now file)

pub returns-clause-torn : goal.returns-clause-torn
returns-clause-torn g c told =
    let at = c.args.at in
    let file = g.D.Disk.content c.args.disk.now Journal in
    let whole : g.D.Disk.content c.sync.new.self Journal ≡ written file at c.args.bytes.now =
    ap (λ (f : Folder). f Journal) c.sync.ensures.content ∙ c.in_ok-write.ensures.written told in
    subst (λ (l : List ℕ). Torn at (length c.args.bytes.now) file l) (sym whole) (torn_written at c.args.bytes.now file)
