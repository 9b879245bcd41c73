use Rattle.std.proofs.Common.{◌≡◌, ◌≤◌, ◌++◌, List, length, take}
use Rattle.scan_values.specs.DataType.{Name}
use Rattle.scan_core.specs.FieldMasks.{onto, lent_names}
use Rattle.scan_core.proofs.field_masks.path_to.Given as goal

abbrev pub invariant-loop-left : goal.invariant-loop-left
invariant-loop-left l =
    record {
      within : l.left ≤ length l.names;
      made : (e : List Name) → l.made.items ++ onto (take l.left (lent_names l.names)) e ≡ onto (lent_names l.names) e;
    }

abbrev pub decreases-loop-left : goal.decreases-loop-left
decreases-loop-left l = l.left
