use Rattle.std.proofs.Common.{◌≡◌, drop, map}
use Rattle.scan_values.specs.Values.{val_of}
use Rattle.scan_values.specs.Val.{vals_of, marked_all}
use Rattle.scan_values.specs.DataType.{fields_of}
use Rattle.scan_values.specs.Fits.{fits_all, fits_fields}
use Rattle.scan_values.proofs.value.+fits.Given as goal

abbrev pub invariant-Values::all_fit-loop-value : goal.invariant-Values::all_fit-loop-value
invariant-Values::all_fit-loop-value l =
    fits_all (marked_all (vals_of (map val_of l.value-items))) l.element ≡ fits_all (marked_all (vals_of (map val_of (drop l.value-index l.value-items)))) l.element

abbrev pub invariant-Values::fit_fields-loop-i : goal.invariant-Values::fit_fields-loop-i
invariant-Values::fit_fields-loop-i l =
    fits_fields (marked_all (vals_of (map val_of l.value-items))) (fields_of l.fields) ≡ fits_fields (marked_all (vals_of (map val_of (drop l.i l.value-items)))) (fields_of (drop l.i l.fields))
