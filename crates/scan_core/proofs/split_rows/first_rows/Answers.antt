use Rattle.std.proofs.Common.{rules, sym, ap, ◌∙◌, ◌++◌, map, drop}
use Rattle.std.proofs.lemmas.List.{append-nil}
use Rattle.scan_core.specs.RowRanges.{narrowed}
use Rattle.scan_core.proofs.Streaming.{first_rows-none}
use Rattle.scan_core.proofs.split_rows.first_rows.Goals as goal

pub returns-then-left-eq0 : goal.returns-then-left-eq0
returns-then-left-eq0 c =
    let none = first_rows-none c.args.selection.now c.loop-range.left (map (narrowed c.args.selection.now) (drop c.loop-range.range-index c.args.ranges.now)) c.if-left-eq0.true in
    search (rules, none, append-nil)
