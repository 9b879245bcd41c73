use Rattle.std.proofs.Common.{◌≡◌, ◌++◌}
use Rattle.std.specs.Vec.Iter.{into_iter_items}
use Rattle.scan_multi.proofs.scan.output.arrays_of.Given as goal

abbrev pub invariant-loop-chunk : goal.invariant-loop-chunk
invariant-loop-chunk l = l.made.items ++ into_iter_items l.chunk-iterator ≡ l.fn.chunks.items
