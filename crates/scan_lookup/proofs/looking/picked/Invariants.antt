use Rattle.std.proofs.Common.{◌≡◌, Some, map, take}
use Rattle.scan_values.specs.Values.{val_of}
use Rattle.scan_lookup.specs.Reading.{slot_value}
use Rattle.scan_lookup.proofs.looking.picked.Given as goal

abbrev pub invariant-loop-i : goal.invariant-loop-i
invariant-loop-i l = record {
  same : map Some (map val_of l.picked.items) ≡ map (slot_value l.values) (take l.i l.slots);
}
