use Rattle.scan_lookup_run.proofs.Lines.{HasLines}
use Rattle.scan_lookup_run.proofs.program.push_reply.Given as goal

abbrev pub invariant-loop-i : goal.invariant-loop-i
invariant-loop-i l = HasLines l.dtype l.places l.values l.fn.out.items l.i l.out.items
