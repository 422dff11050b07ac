use Rattle.std.proofs.Common.{rules, tests}
use Rattle.std.specs.Prelude.{nat_lt}
use Rattle.std.proofs.lemmas.List.Sorted.{IsPartitionPoint-from_clause, IsPartitionedBy-ltb}
use Rattle.sp_replaylog.specs.declared.entry.Entry.{Entry}
use Rattle.sp_replaylog.proofs.look.moments_below.Goals as goal

pub returns-clause-parted : goal.returns-clause-parted
returns-clause-parted c =
    IsPartitionPoint-from_clause (λ (e : Entry). nat_lt e.moment c.args.moment) c.args.queue.now.items c.partition_point.result c.partition_point.ensures.partitioned
    (IsPartitionedBy-ltb (λ (e : Entry). e.moment) c.args.queue.now.items c.args.moment c.requires)
    (λ a r f k. search (rules, tests))
