use Rattle.std.proofs.Common.{◌≡◌, map, take}
use Rattle.scan_partition.specs.Rewritings.{rules_of}
use Rattle.scan_partition.proofs.Numbered.{decimals, lent_again}
use Rattle.scan_partition.proofs.parts.numbered_parts.Given as goal

abbrev pub invariant-loop-number : goal.invariant-loop-number
invariant-loop-number l = record {
  names : l.names.items ≡ decimals 0 (take l.number l.parts);
  made : l.made.items ≡ map (lent_again (rules_of l.what l.scope.value) l.scope.value) (take l.number l.parts);
}
