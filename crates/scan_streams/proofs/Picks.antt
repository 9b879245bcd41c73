-- How many rows a split is about.
use Rattle.std.proofs.Common.{◌≡◌, ℕ, zero, suc, ◌+◌, ◌-◌, ◌≤◌, Bool, true, false, List, [], ◌∷◌, length, refl, ap, ◌∙◌, arith}
use Rattle.std.specs.declared.ops.Range.{Range}
use Rattle.std.proofs.lemmas.List.FromFn.{length-map-range_with_len}
use Rattle.scan_values.specs.Masks.{limited}
use Rattle.scan_values.specs.Selections.{row_mask, selects}
use Rattle.scan_values.specs.declared.selection.Selection.{Selection}

pub length-limited : (n : ℕ) (bs : List Bool) → length (limited n bs) ≡ length bs
length-limited n [] = refl
length-limited n (false ∷ bs) = ap suc (length-limited n bs)
length-limited zero (true ∷ bs) = ap suc (length-limited zero bs)
length-limited (suc n) (true ∷ bs) = ap suc (length-limited n bs)

-- a mask of a range has its rows
pub mask-fits : (s : Selection) (r : Range ℕ) (m : List Bool) → r.start ≤ r.end → m ≡ row_mask s r → r.start + length m ≡ r.end
mask-fits s r m order e =
    let long : length m ≡ r.end - r.start = ap length e ∙ length-map-range_with_len (selects s) r.start (r.end - r.start) in
    omega (arith, long, order)

-- so has the same with fewer true rows
pub limited-fits : (n : ℕ) (s : Selection) (r : Range ℕ) (m l : List Bool) → r.start ≤ r.end → m ≡ row_mask s r → l ≡ limited n m → r.start + length l ≡ r.end
limited-fits n s r m l order e f =
    let same : length l ≡ length m = ap length f ∙ length-limited n m in
    let fits = mask-fits s r m order e in
    omega (arith, same, fits)
