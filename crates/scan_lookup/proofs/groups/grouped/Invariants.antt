use Rattle.std.proofs.Common.{take}
use Rattle.scan_lookup.proofs.Grouping.{Grouping}
use Rattle.scan_lookup.proofs.groups.grouped.Given as goal

abbrev pub invariant-loop-i : goal.invariant-loop-i
invariant-loop-i l = record {
  grouping : Grouping (take l.i l.places) l.groups.items l.slots.items l.numbers;
}
