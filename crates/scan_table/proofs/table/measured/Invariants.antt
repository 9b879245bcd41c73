use Rattle.std.proofs.Common.{◌≡◌, ◌≤◌, ◌++◌, drop}
use Rattle.scan_table.specs.Spec.{measured_from}
use Rattle.scan_table.proofs.table.measured.Given as goal

abbrev pub invariant-loop-i : goal.invariant-loop-i
invariant-loop-i l = record {
  most : l.place ≤ l.i;
  made : l.made.items ++ measured_from l.place (drop l.i l.measures) ≡ measured_from 0 l.measures;
}
