use Rattle.std.proofs.Common.{◌≡◌, ◌+◌, ◌*◌, drop}
use Rattle.scan_values.specs.DataType.{fields_of, size_of, fields_size}
use Rattle.scan_widen.specs.FitsUnder.{fields_fit}
use Rattle.scan_widen.proofs.fits.+fits.Given as goal

abbrev pub decreases-fits_under : goal.decreases-fits_under
decreases-fits_under l = 8 * size_of l.to.now + 5

abbrev pub decreases-elements_fit : goal.decreases-elements_fit
decreases-elements_fit l = 8 * size_of l.to.now + 4

abbrev pub decreases-structs_fit : goal.decreases-structs_fit
decreases-structs_fit l = 8 * size_of l.to.now + 4

abbrev pub decreases-lawful_fit : goal.decreases-lawful_fit
decreases-lawful_fit l = 8 * fields_size (fields_of l.to.now) + 4

abbrev pub decreases-fields_fit : goal.decreases-fields_fit
decreases-fields_fit l = 8 * fields_size (fields_of l.to.now) + 3

abbrev pub decreases-field_fits : goal.decreases-field_fits
decreases-field_fits l = 8 * size_of l.wanted.now + 6

abbrev pub invariant-fields_fit-loop-i : goal.invariant-fields_fit-loop-i
invariant-fields_fit-loop-i l = fields_fit (fields_of l.from) (fields_of (drop l.i l.to)) ≡ fields_fit (fields_of l.from) (fields_of l.to)
