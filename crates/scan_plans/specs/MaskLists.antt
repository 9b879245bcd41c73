-- Several masks, of which each waits for those before it.
use Rattle.std.specs.Prelude.{ℕ, ◌||◌, ◌++◌, Bool, true, false, List, [], ◌∷◌, if◌then◌else◌}
use Rattle.scan_values.specs.DataType.{DataType, with_nullability}
use Rattle.scan_values.specs.declared.ptype.Nullability.TheVariants.{Nullable}
use Rattle.scan_values.specs.Marked.{Marked, null}
use Rattle.scan_segments.specs.Source.{Store}
use Rattle.scan_spelling.specs.Places.{Place}
use Rattle.scan_plans.specs.Came.{Came}
use Rattle.scan_plans.specs.Masks.{MaskData, Filter, mask_of, mask_damage, mask_overflow, mask_wanted, mask_spoiled, mask_may, SameMask}
use Rattle.scan_plans.specs.Meaning.{true_rows}
use Rattle.scan_plans.specs.Wants.{are_here, wanted}

-- values, null outside a mask: a value past its end is outside it
abbrev pub nulled : List Bool → List Marked → List Marked
nulled bits [] = []
nulled [] (v ∷ vs) = null ∷ nulled [] vs
nulled (true ∷ bits) (v ∷ vs) = v ∷ nulled bits vs
nulled (false ∷ bits) (v ∷ vs) = null ∷ nulled bits vs

-- values, null outside each of several masks
abbrev pub under : Store → List MaskData → List Marked → List Marked
under store [] vs = vs
under store (m ∷ ms) vs = under store ms (nulled (mask_of m store) vs)

-- their dtype
abbrev pub dtype_under : List MaskData → DataType → DataType
dtype_under [] d = d
dtype_under (m ∷ ms) d = dtype_under ms (with_nullability Nullable d)

-- some filter of one of them overflows
abbrev pub masks_overflow : List MaskData → Store → Bool
masks_overflow [] store = false
masks_overflow (m ∷ ms) store = mask_overflow m store || masks_overflow ms store

-- some filter of one of them is damaged
abbrev pub masks_damage : List MaskData → Store → Bool
masks_damage [] store = false
masks_damage (m ∷ ms) store = mask_damage m store || masks_damage ms store

-- what they want next, with what was wanted before, and what is wanted after them
abbrev pub masks_wanted : List MaskData → Came → List Place → List Place
masks_wanted [] here rest = rest
masks_wanted (m ∷ ms) here rest = mask_wanted m here ++ (if are_here (mask_wanted m here) here then masks_wanted ms here rest else [])

-- what arrived of the segment of this id is no good for them, or, where nothing lacks for them, for what comes after
abbrev pub masks_spoiled : List MaskData → Came → ℕ → Bool → Bool
masks_spoiled [] here id rest = rest
masks_spoiled (m ∷ ms) here id rest = mask_spoiled m here id || (if are_here (mask_wanted m here) here then masks_spoiled ms here id rest else false)

-- the first of these filters lacks nothing; where there is none, what comes after
abbrev pub first_runs : Came → List Bool → List Filter → Bool → Bool
first_runs here bits [] rest = rest
first_runs here bits (f ∷ fs) rest = are_here (wanted f.0 here (true_rows f.1 bits)) here

-- of several masks, in order, the filter that is to run next lacks nothing
abbrev pub can_run : Came → List MaskData → Bool
can_run here [] = false
can_run here (m ∷ ms) = first_runs here m.known m.filters (can_run here ms)

-- the ids of all that they may ever want
abbrev pub masks_may : List MaskData → List ℕ
masks_may [] = []
masks_may (m ∷ ms) = mask_may m ++ masks_may ms

-- each means the same as the other at its place, and wants no more
abbrev pub SameMasks : Came → List MaskData → List MaskData → Type 0
SameMasks here [] [] = Unit {0}
SameMasks here [] (m ∷ ms) = ⊥
SameMasks here (n ∷ ns) [] = ⊥
SameMasks here (n ∷ ns) (m ∷ ms) = SameMask here n m × SameMasks here ns ms
