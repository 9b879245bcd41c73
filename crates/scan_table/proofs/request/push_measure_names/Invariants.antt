use Rattle.std.proofs.Common.{◌≡◌, ◌++◌, take}
use Rattle.scan_table.specs.Spec.{measure_names}
use Rattle.scan_table.proofs.request.push_measure_names.Given as goal

abbrev pub invariant-loop-measure : goal.invariant-loop-measure
invariant-loop-measure l = l.names.items ≡ l.fn.names.items ++ measure_names (take l.measure-index l.measures)
