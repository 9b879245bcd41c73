use Rattle.std.proofs.Common.{◌≡◌, []}
use Rattle.scan_run.proofs.print.put_long_row.Given as goal

abbrev pub invariant-loop : goal.invariant-loop
invariant-loop l = l.piece ≡ []
