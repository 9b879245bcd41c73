use Rattle.std.proofs.Common.{◌≡◌, take, map}
use Rattle.std.specs.Prelude.{replicate}
use Rattle.scan_groups.specs.Totals.{length_of, measured_by}
use Rattle.scan_groups.proofs.groups.no_tallies.Given as goal

abbrev pub invariant-loop-measure : goal.invariant-loop-measure
invariant-loop-measure l = record {
  of : map measured_by l.tallies.items ≡ take l.measure-index l.measures;
  none : map length_of l.tallies.items ≡ replicate l.measure-index 0;
}
