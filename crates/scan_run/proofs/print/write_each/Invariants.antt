use Rattle.std.proofs.Common.{drop}
use Rattle.scan_run.specs.Printed.{chunks_lines}
use Rattle.scan_run.proofs.Sending.{SentSoFar}
use Rattle.scan_run.proofs.print.write_each.Given as goal

abbrev pub invariant-loop-chunk : goal.invariant-loop-chunk
invariant-loop-chunk g l =
    SentSoFar (chunks_lines l.chunks) l.fn.piece l.piece (chunks_lines (drop l.chunk-index l.chunks)) (g.O.Output.output l.fn.output) (g.O.Output.output l.output)
