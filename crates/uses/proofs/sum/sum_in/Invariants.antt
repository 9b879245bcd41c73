use Rattle.std.proofs.Common.{◌≡◌, ◌+ℤ◌, drop}
use Rattle.uses.specs.Sums.{sum_of, chunk_values}
use Rattle.uses.proofs.sum.sum_in.Given as goal

abbrev pub invariant-loop-chunk : goal.invariant-loop-chunk
invariant-loop-chunk l = l.sum +ℤ sum_of (chunk_values (drop l.chunk-index l.chunks)) ≡ sum_of (chunk_values l.chunks)
