use Rattle.std.proofs.Common.{◌≡◌, true, sym, subst}
use Rattle.scan_values.specs.DataType.{DataType}
use Rattle.scan_values.specs.Fits.{fits_all}
use Rattle.scan_values.specs.Val.{Val, marked_all, vals_of}
use Rattle.scan_values.specs.Values.{val_of}
use Rattle.std.proofs.Common.{List, map}
use Rattle.scan_sources.proofs.Bare.{bare_fit}
use Rattle.scan_sources.proofs.empty.bare_rows.Goals as goal

pub of_fitting-requires : goal.of_fitting-requires
of_fitting-requires c =
    let fit = bare_fit c.args.rows c.args.dtype.now c.requires in
    let these : fits_all (marked_all (vals_of (map val_of c.in_ok-values.values.items))) c.args.dtype.now ≡ true =
    subst (λ (vs : List Val). fits_all (marked_all (vals_of vs)) c.args.dtype.now ≡ true) (sym c.in_ok-values.ensures) fit in
    subst (λ (d : DataType). fits_all (marked_all (vals_of (map val_of c.in_ok-values.values.items))) d ≡ true) (sym c.in_ok-dtype.ensures) these
