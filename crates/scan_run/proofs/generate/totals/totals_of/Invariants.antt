use Rattle.std.proofs.Common.{◌≡◌, drop}
use Rattle.scan_run.specs.Totals.{with_chunks, no_totals}
use Rattle.scan_run.proofs.generate.totals.totals_of.Given as goal

abbrev pub invariant-loop-chunk : goal.invariant-loop-chunk
invariant-loop-chunk l = with_chunks l.now (drop l.chunk-index l.chunks) ≡ with_chunks no_totals l.chunks
