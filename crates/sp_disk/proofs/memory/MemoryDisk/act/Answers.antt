use Rattle.std.proofs.Common.{◌≡◌, ◌+◌, ◌++◌, [], ◌∷◌, length, rules, ◌∙◌, ap, refl, sym, subst, List}
use Rattle.sp_disk.specs.Contents.{held}
use Rattle.sp_disk.specs.Calls.{after_one}
use Rattle.sp_disk.specs.declared.contents.Contents.{Contents}
use Rattle.sp_disk.specs.declared.disk.File.{File}
use Rattle.sp_disk.specs.declared.call.Taken.{Taken}
use Rattle.sp_disk.proofs.Acts.{refuses, refuses_in_time, acts, acts_in_time, replayed}
use Rattle.sp_disk.specs.Plan.{is_to_fail, FailedByPlan}
use Rattle.sp_disk.proofs.Planned.{planned_more}
use Rattle.sp_disk.proofs.memory.MemoryDisk.act.Goals as goal

pub returns-then-is_err-clause-acted : goal.returns-then-is_err-clause-acted
returns-then-is_err-clause-acted c =
    let disk = c.args.self.now in
    let new = c.fault.new.self in
    refuses c.args.file c.args.call disk.first new.first disk.contents new.contents disk.calls.items new.calls.items c.fault.ensures.first c.fault.result
    (search rules) (λ file. search rules)

pub returns-then-is_err-clause-time : goal.returns-then-is_err-clause-time
returns-then-is_err-clause-time c =
    let disk = c.args.self.now in
    let new = c.fault.new.self in
    refuses_in_time c.args.file c.args.call disk.first new.first disk.contents new.contents disk.calls.items new.calls.items c.fault.ensures.first (search rules)

pub returns-in_default-clause-acted : goal.returns-in_default-clause-acted
returns-in_default-clause-acted c =
    let disk = c.args.self.now in
    let new = c.fault-in_default.new.self in
    refuses c.args.file c.args.call disk.first new.first disk.contents new.contents disk.calls.items new.calls.items c.fault-in_default.ensures.first c.fault-in_default.result
    (search rules) (λ file. ap (λ (held_by : Contents). held held_by file) c.fault-in_default.ensures.contents ∙ c.in_default.ensures.err file)

pub returns-in_default-clause-time : goal.returns-in_default-clause-time
returns-in_default-clause-time c =
    let disk = c.args.self.now in
    let new = c.fault-in_default.new.self in
    refuses_in_time c.args.file c.args.call disk.first new.first disk.contents new.contents disk.calls.items new.calls.items c.fault-in_default.ensures.first (search rules)

pub invariant_of-self-2 : goal.invariant_of-self-2
invariant_of-self-2 c =
    let disk = c.args.self.now in
    let failed = c.fails-failed.result in
    let taken : Taken = record { file = c.args.file; call = c.args.call; failed = failed } in
    let pushed : c.push.new.self.items ≡ disk.calls.items ++ taken ∷ [] = search rules in
    let steps : (f : File) → held c.take.new.self f ≡ after_one f taken (held disk.contents f) = search rules in
    let by_plan : failed ≡ is_to_fail disk.plan.failing.items disk.plan.stop (length disk.calls.items + 1) = search rules in
    record {
      replayed = replayed c.args.file c.args.call disk.first disk.first disk.contents c.take.new.self disk.calls.items c.push.new.self.items refl failed pushed disk.replayed steps;
      planned = subst (λ (l : List Taken). FailedByPlan disk.plan.failing.items disk.plan.stop l) (sym pushed)
          (planned_more disk.plan.failing.items disk.plan.stop disk.calls.items taken by_plan disk.planned);
    }

pub returns-then-failed-clause-acted : goal.returns-then-failed-clause-acted
returns-then-failed-clause-acted c =
    let disk = c.args.self.now in
    let new = c.fault-then-failed.new.self in
    let failed = c.fails-failed.result in
    let taken : Taken = record { file = c.args.file; call = c.args.call; failed = failed } in
    let pushed : new.calls.items ≡ disk.calls.items ++ taken ∷ [] = search rules in
    let steps : (f : File) → held new.contents f ≡ after_one f taken (held disk.contents f) = search rules in
    acts c.args.file c.args.call disk.first new.first disk.contents new.contents disk.calls.items new.calls.items c.fault-then-failed.ensures.first failed pushed _ disk.replayed steps (λ is. (cc))

pub returns-then-failed-clause-time : goal.returns-then-failed-clause-time
returns-then-failed-clause-time c =
    let disk = c.args.self.now in
    let new = c.fault-then-failed.new.self in
    let failed = c.fails-failed.result in
    let taken : Taken = record { file = c.args.file; call = c.args.call; failed = failed } in
    let pushed : new.calls.items ≡ disk.calls.items ++ taken ∷ [] = search rules in
    acts_in_time c.args.file c.args.call disk.first new.first disk.contents new.contents disk.calls.items new.calls.items c.fault-then-failed.ensures.first failed pushed

pub returns-else-failed-clause-acted : goal.returns-else-failed-clause-acted
returns-else-failed-clause-acted c =
    let disk = c.args.self.now in
    let failed = c.fails-failed.result in
    let taken : Taken = record { file = c.args.file; call = c.args.call; failed = failed } in
    let pushed : c.push.new.self.items ≡ disk.calls.items ++ taken ∷ [] = search rules in
    let steps : (f : File) → held c.take.new.self f ≡ after_one f taken (held disk.contents f) = search rules in
    acts c.args.file c.args.call disk.first disk.first disk.contents c.take.new.self disk.calls.items c.push.new.self.items refl failed pushed _ disk.replayed steps (λ is. c.if-failed.false)

pub returns-else-failed-clause-time : goal.returns-else-failed-clause-time
returns-else-failed-clause-time c =
    let disk = c.args.self.now in
    let failed = c.fails-failed.result in
    let taken : Taken = record { file = c.args.file; call = c.args.call; failed = failed } in
    let pushed : c.push.new.self.items ≡ disk.calls.items ++ taken ∷ [] = search rules in
    acts_in_time c.args.file c.args.call disk.first disk.first disk.contents c.take.new.self disk.calls.items c.push.new.self.items refl failed pushed
