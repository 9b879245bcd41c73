use Rattle.std.proofs.Common.{◌≡◌, ◌++◌, filter}
use Rattle.std.specs.Vec.Iter.{into_iter_items}
use Rattle.scan_file.specs.FileScans.{arrays_of, futures_in, may_give}
use Rattle.scan_file.proofs.planning.with_rows.Given as goal

abbrev pub invariant-loop-future : goal.invariant-loop-future
invariant-loop-future g l = futures_in l.splits.items ++ filter may_give (arrays_of (into_iter_items l.future-iterator)) ≡ filter may_give (arrays_of l.fn.futures.items)
