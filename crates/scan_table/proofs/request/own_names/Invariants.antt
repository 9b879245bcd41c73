use Rattle.std.proofs.Common.{◌≡◌, ◌++◌, drop}
use Rattle.scan_table.specs.Spec.{own_names}
use Rattle.scan_table.proofs.request.own_names.Given as goal

abbrev pub invariant-loop-part : goal.invariant-loop-part
invariant-loop-part l = l.names.items ++ own_names l.part (drop l.part l.parts) ≡ own_names 0 l.parts
