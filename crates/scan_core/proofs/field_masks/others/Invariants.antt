use Rattle.std.proofs.Common.{◌≡◌, ◌++◌, not, filter, drop}
use Rattle.scan_values.specs.NameFaults.{has_name}
use Rattle.scan_core.proofs.field_masks.others.Given as goal

abbrev pub invariant-loop-name : goal.invariant-loop-name
invariant-loop-name l = l.made.items ++ filter (λ n. not (has_name n l.fn.left)) (drop l.name-index l.name-items) ≡ filter (λ n. not (has_name n l.fn.left)) l.name-items
