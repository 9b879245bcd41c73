use denote.Param.Send.{sendable}
use Rattle.std.proofs.Common.{◌<◌, ◌+◌, arith, get_or, length, rules}
use Rattle.std.specs.Prelude.{option_copied}
use Rattle.scan_drive.specs.Claimed.{JobWorked}
use Rattle.scan_drive.proofs.Claiming.{part_seated}
use Rattle.scan_drive.proofs.Working.{done_as, some_jobs, some_size}
use Rattle.scan_drive.proofs.workers.run_phase.Goals as goal

pub for_each_chunk_mut-requires-clause-accepts : goal.for_each_chunk_mut-requires-clause-accepts
for_each_chunk_mut-requires-clause-accepts g c κs within = λ start p is. (
    let some : 0 < length c.args.jobs.now = some_jobs (length c.args.jobs.now) c.is_empty.result c.is_empty.ensures c.if-is_empty.false in
    let size : 0 < c.div_ceil-size.result = some_size (length c.args.jobs.now) c.args.workers c.div_ceil-size.result some c.requires.workers c.div_ceil-size.ensures in
    let small : length c.args.jobs.now < 18446744073709551616 = search rules in
    let next : start + 1 < 18446744073709551616 = omega (arith, is.nonempty, is.in_bounds, small) in
    let seats = part_seated (option_copied c.args.limit) c.args.jobs.now start p.now is.in_bounds is.elements c.requires.seats in
    let a = c.type_bounds.send-W in
    let b = c.type_bounds.send-W-Rows in
    let d = c.type_bounds.sync-G in
    ((size, next, seats), (search sendable, search sendable, search sendable)))

pub returns : goal.returns
returns g c i d lt =
    let part = (c.for_each_chunk_mut.ensures.by_index i d lt).1 in
    done_as (JobWorked g.W.SplitWork.split g.W.SplitWork.comes g.W.SplitWork.items (option_copied c.args.limit)) (get_or part.argument.now part.offset d) (get_or c.args.jobs.now i d) (get_or part.after_call.now part.offset d)
    (get_or c.for_each_chunk_mut.new.s i d) part.old_element part.new_element (part.call part.offset d part.offset_in_chunk)
