-- What pruning keeps.
use Rattle.std.specs.Prelude.{◌≡◌, ℕ, Bool, true, false, List, [], ◌∷◌, get_or, if◌then◌else◌}
use Rattle.scan_values.specs.Masks.{both_true}
use Rattle.scan_segments.specs.Source.{Store}
use Rattle.scan_plans.specs.Masks.{MaskData, mask_data, kept}
use Rattle.scan_plans.specs.PlanTree.{PlanTree, evaluate, numbers}

-- the numbers of rows
abbrev pub are_numbers : PlanTree → Bool
are_numbers (numbers k) = true
are_numbers _ = false

-- an expression over the numbers of rows
abbrev pub is_numbered : PlanTree → Bool
is_numbered (evaluate d e p) = are_numbers p
is_numbered _ = false

-- a mask that begins at a row of a plan, pruned: an expression over the numbers of rows is to be true, else all rows stay
abbrev pub pruned : PlanTree → ℕ → List Bool → MaskData
pruned p first mask = mask_data mask (if is_numbered p then (p, first) ∷ [] else [])

-- each true row of a mask is true in another
abbrev pub IsWithin : List Bool → List Bool → Type 0
IsWithin less mask = (i : ℕ) → get_or less i false ≡ true → get_or mask i false ≡ true

-- of the rows of a mask at which a plan is true, none is dropped
abbrev pub DropsNone : PlanTree → Store → ℕ → List Bool → List Bool → Type 0
DropsNone p store first mask pruned = IsWithin (kept p store first mask) pruned

-- a filter under the mask and what pruning keeps gives what it gives under the mask
abbrev pub FiltersAlike : PlanTree → Store → ℕ → List Bool → List Bool → Type 0
FiltersAlike p store first mask pruned = kept p store first (both_true mask pruned) ≡ kept p store first mask
