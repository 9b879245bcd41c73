-- Lists of different lengths are not the same.
use Rattle.std.proofs.Common.{◌≡◌, ◌≢◌, suc, List, [], ◌∷◌, length, map, Bool, true, false, ◌&&◌, refl, ap, ◌∙◌}
use Rattle.scan_values.specs.Val.{vals_of}
use Rattle.scan_values.specs.Values.{val_of}
use Rattle.scan_values.specs.SameVal.{same_val, same_vals}
use Rattle.scan_values.specs.declared.value.Value.{Value}

and_false : (b : Bool) → (b && false) ≡ false
and_false true = refl
and_false false = refl

pub same_vals-uneven : (xs ys : List Value) → length xs ≢ length ys → same_vals (vals_of (map val_of xs)) (vals_of (map val_of ys)) ≡ false
same_vals-uneven [] [] h = absurd (h refl)
same_vals-uneven [] (y ∷ ys) h = refl
same_vals-uneven (x ∷ xs) [] h = refl
same_vals-uneven (x ∷ xs) (y ∷ ys) h = ap (λ b. same_val (val_of x) (val_of y) && b) (same_vals-uneven xs ys (λ e. h (ap suc e))) ∙ and_false (same_val (val_of x) (val_of y))
