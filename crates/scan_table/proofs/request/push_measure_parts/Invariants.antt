use Rattle.std.proofs.Common.{◌≡◌, ◌++◌, drop}
use Rattle.scan_table.specs.Spec.{measure_parts}
use Rattle.scan_table.proofs.request.push_measure_parts.Given as goal

abbrev pub invariant-loop-measure : goal.invariant-loop-measure
invariant-loop-measure l = l.parts.items ++ measure_parts (drop l.measure-index l.measures) ≡ l.fn.parts.items ++ measure_parts l.measures
