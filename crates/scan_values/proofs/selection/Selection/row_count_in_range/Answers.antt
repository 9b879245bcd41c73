use Rattle.std.proofs.Common.{◌-◌, sym, ◌∙◌, arith}
use Rattle.std.proofs.lemmas.List.Sums.{count_by-le-length}
use Rattle.std.proofs.lemmas.List.FromFn.{length-range_with_len}
use Rattle.scan_values.specs.Selections.{numbers, is_among}
use Rattle.scan_values.proofs.Rising.{count-not, count-all}
use Rattle.scan_values.proofs.selection.Selection.row_count_in_range.Goals as goal

pub overflow_sub-result-in-ExcludeByIndex-2 : goal.overflow_sub-result-in-ExcludeByIndex-2
overflow_sub-result-in-ExcludeByIndex-2 c =
    let r = c.args.r.now in
    let within = count_by-le-length (is_among c.in-ExcludeByIndex.rows) (numbers r.start r.end) in
    let long = length-range_with_len r.start (r.end - r.start) in
    omega (arith, within, long, c.count_within-in-ExcludeByIndex.ensures)

pub returns-in-All : goal.returns-in-All
returns-in-All c =
    let r = c.args.r.now in
    rw c.in-All.is (sym (count-all (numbers r.start r.end) ∙ length-range_with_len r.start (r.end - r.start)))

pub returns-in-ExcludeByIndex : goal.returns-in-ExcludeByIndex
returns-in-ExcludeByIndex c =
    let r = c.args.r.now in
    let all = count-not (is_among c.in-ExcludeByIndex.rows) (numbers r.start r.end) in
    let long = length-range_with_len r.start (r.end - r.start) in
    rw c.in-ExcludeByIndex.is (omega (arith, all, long, c.count_within-in-ExcludeByIndex.ensures))
