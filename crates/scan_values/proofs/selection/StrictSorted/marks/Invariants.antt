use Rattle.std.proofs.Common.{◌≡◌, ◌-◌, map}
use Rattle.std.specs.List.{range_with_len}
use Rattle.scan_values.specs.StrictSorted.{rank}
use Rattle.scan_values.specs.Selections.{is_among}
use Rattle.scan_values.proofs.selection.StrictSorted.marks.Given as goal

abbrev pub invariant-loop-n : goal.invariant-loop-n
invariant-loop-n l =
    record {
      ranked : l.at ≡ rank l.n l.items;
      same : l.bits.items ≡ map (is_among l.items) (range_with_len l.r.start (l.n - l.r.start));
    }
