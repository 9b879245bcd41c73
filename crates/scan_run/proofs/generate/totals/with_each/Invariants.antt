use Rattle.std.proofs.Common.{◌≡◌, drop}
use Rattle.scan_run.specs.Totals.{with_values}
use Rattle.scan_run.proofs.generate.totals.with_each.Given as goal

abbrev pub invariant-loop-i : goal.invariant-loop-i
invariant-loop-i l = with_values l.now (drop l.i l.values.items) ≡ with_values l.fn.totals l.values.items
