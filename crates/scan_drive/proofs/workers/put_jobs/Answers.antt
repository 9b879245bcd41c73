use Rattle.std.proofs.Common.{◌≡◌, ◌<◌, ◌∷◌, List, length, arith, rules}
use Rattle.std.specs.Vec.Iter.{into_iter_items}
use Rattle.scan_drive.specs.declared.workers.Job.{Job}
use Rattle.scan_drive.proofs.Working.{first_within, listed_next, put_next, rest_within}
use Rattle.scan_drive.proofs.workers.put_jobs.Goals as goal

pub index_mut-requires : goal.index_mut-requires
index_mut-requires g c =
    let jobs : List (Job g.row.W.Denot g.row.R.Denot) = into_iter_items c.loop-job.job-iterator in
    let rest : List (Job g.row.W.Denot g.row.R.Denot) = into_iter_items c.next.new.self in
    let j : Job g.row.W.Denot g.row.R.Denot = c.in-Some.job in
    let e : jobs ≡ j ∷ rest = search (rules, c.in-Some.ensures.steps) in
    let lt : j.place < length c.loop-job.slots.items = first_within (length c.loop-job.slots.items) jobs rest j e c.loop-job.invariant.within in
    omega (arith, lt, c.loop-job.slots.ok)

pub loop-job-preserved : goal.loop-job-preserved
loop-job-preserved g c =
    let jobs : List (Job g.row.W.Denot g.row.R.Denot) = into_iter_items c.loop-job.job-iterator in
    let rest : List (Job g.row.W.Denot g.row.R.Denot) = into_iter_items c.next.new.self in
    let j : Job g.row.W.Denot g.row.R.Denot = c.in-Some.job in
    let e : jobs ≡ j ∷ rest = search (rules, c.in-Some.ensures.steps) in
    let inv = c.loop-job.invariant in
    record {
      within = rest_within c.loop-job.slots.items jobs rest j j.slot e inv.within;
      slots = put_next jobs rest j c.loop-job.slots.items _ e inv.slots;
      asking = listed_next jobs rest j c.loop-job.asking.items c.list_if.new.list.items _ c.is_wait.result e c.in_ok-list_if.ensures c.is_wait.ensures inv.asking;
    }

pub loop-job-preserved-in_ok-list_if : goal.loop-job-preserved-in_ok-list_if
loop-job-preserved-in_ok-list_if g c =
    let jobs : List (Job g.row.W.Denot g.row.R.Denot) = into_iter_items c.loop-job.job-iterator in
    let rest : List (Job g.row.W.Denot g.row.R.Denot) = into_iter_items c.next.new.self in
    let j : Job g.row.W.Denot g.row.R.Denot = c.in-Some.job in
    let e : jobs ≡ j ∷ rest = search (rules, c.in-Some.ensures.steps) in
    let inv = c.loop-job.invariant in
    record {
      within = rest_within c.loop-job.slots.items jobs rest j j.slot e inv.within;
      slots = put_next jobs rest j c.loop-job.slots.items _ e inv.slots;
      asking = listed_next jobs rest j c.loop-job.asking.items c.list_if.new.list.items _ c.is_wait.result e c.in_ok-list_if.ensures c.is_wait.ensures inv.asking;
    }
