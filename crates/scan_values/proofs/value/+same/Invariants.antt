use Rattle.std.proofs.Common.{◌≡◌, drop, map}
use Rattle.scan_values.specs.Val.{vals_of}
use Rattle.scan_values.specs.Values.{val_of}
use Rattle.scan_values.specs.SameVal.{same_vals}
use Rattle.scan_values.proofs.value.+same.Given as goal

abbrev pub invariant-Values::same-loop-i : goal.invariant-Values::same-loop-i
invariant-Values::same-loop-i l =
    same_vals (vals_of (map val_of l.value-items)) (vals_of (map val_of l.others)) ≡ same_vals (vals_of (map val_of (drop l.i l.value-items))) (vals_of (map val_of (drop l.i l.others)))
