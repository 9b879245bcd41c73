use Rattle.std.proofs.Common.{arith}
use Rattle.scan_values.proofs.Rising.{count-between}
use Rattle.scan_values.proofs.selection.StrictSorted.count_within.Goals as goal

pub overflow_sub-result : goal.overflow_sub-result
overflow_sub-result c =
    let within = count-between c.as_slice-items.result.now c.args.r.now.start c.args.r.now.end (rw c.as_slice-items.ensures.items c.as_slice-items.ensures.rising) c.requires in
    omega (arith, within, c.rank_of.ensures, c.rank_of-2.ensures)

pub returns : goal.returns
returns c =
    let within = count-between c.as_slice-items.result.now c.args.r.now.start c.args.r.now.end (rw c.as_slice-items.ensures.items c.as_slice-items.ensures.rising) c.requires in
    rw (← c.as_slice-items.ensures.items) (omega (arith, within, c.rank_of.ensures, c.rank_of-2.ensures))
