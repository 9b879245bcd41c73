use Rattle.std.proofs.Common.{◌≡◌, ◌++◌, List, map, true, sym, subst}
use Rattle.std.specs.Prelude.{IfOk}
use Rattle.scan_values.specs.Fits.{fits_all}
use Rattle.scan_values.specs.Val.{Val, marked_all, vals_of}
use Rattle.scan_values.specs.Values.{val_of}
use Rattle.scan_groups.specs.Running.{AreOf}
use Rattle.scan_table.specs.Totalled.{rows_in}
use Rattle.scan_table.proofs.Scalars.{have_keys}
use Rattle.scan_table.proofs.rows.add_array.Goals as goal

pub returns : goal.returns
returns c =
    let vs = c.into_vec-values.result.items in
    let keys = c.args.keys in
    let d = c.args.run.dtype in
    let fit : fits_all (marked_all (vals_of (map val_of vs))) d ≡ true = subst (λ (xs : List Val). fits_all (marked_all (vals_of xs)) d ≡ true) (sym c.into_vec-values.ensures.items) c.into_vec-values.ensures.fit in
    λ ms rows h k. subst (λ (xs : List Val). IfOk c.add_values.result (λ _. AreOf keys ms (rows ++ rows_in keys xs) c.add_values.new.groups)) c.into_vec-values.ensures.items
    (c.add_values.ensures ms rows h (have_keys keys vs d k fit))
