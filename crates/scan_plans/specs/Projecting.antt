-- How the array of a future is made.
use Rattle.std.specs.Prelude.{◌≡◌, ℕ, zero, suc, Bool, true, false, List, [], ◌∷◌, map, Option, Some, None, Result, Ok, Err}
use Rattle.scan_values.specs.Arrays.{ArrayData}
use Rattle.scan_values.specs.Marked.{Marked}
use Rattle.scan_values.specs.Val.{marked}
use Rattle.scan_segments.specs.Source.{Store}
use Rattle.scan_spelling.specs.Places.{Place}
use Rattle.scan_plans.specs.Came.{Came, Holds}
use Rattle.scan_plans.specs.Futures.{FutureData, AreRows, GivesItems, future_wanted, future_spoiled, future_overflow}
use Rattle.scan_plans.specs.Given.{AreLacking}
use Rattle.scan_plans.specs.MaskLists.{nulled, dtype_under, masks_overflow, masks_wanted, masks_spoiled}
use Rattle.scan_plans.specs.Masks.{MaskData, mask_wanted}
use Rattle.scan_plans.specs.Wants.{Complete, NoneBad}
use Rattle.scan_plans.specs.declared.fault.ReadFault.{ReadFault}
use Rattle.scan_plans.specs.declared.fault.ReadFault.TheVariants.{Corrupt, Overflow, NoMemory}
use Rattle.scan_plans.specs.declared.given.Given.{Given}
use Rattle.scan_plans.specs.declared.given.Given.TheVariants as given
use Rattle.scan_plans.specs.declared.future.Items.{Items}
use Rattle.scan_plans.specs.declared.future.Items.TheVariants.{Ready, Pending}

-- no filter of any is still to run
abbrev pub AreKnown : List MaskData → Type 0
AreKnown [] = Unit {0}
AreKnown (m ∷ ms) = (m.filters ≡ []) × AreKnown ms

-- nothing lacks for any, and nothing is bad
abbrev pub AreComplete : List MaskData → Came → Type 0
AreComplete [] here = Unit {0}
AreComplete (m ∷ ms) here = Complete (mask_wanted m here) here × NoneBad (mask_wanted m here) here × AreComplete ms here

-- the ids that lack of several masks, none where they are known from then on, a segment that is no good, or an overflow
abbrev pub KnowsAll : Came → List MaskData → List MaskData → Result (Option (List ℕ)) ReadFault → Type 0
KnowsAll here old new (Ok None) = AreKnown new × AreComplete old here
KnowsAll here old new (Ok (Some ids)) = (rest : List Place) → AreLacking (masks_wanted old here rest) here ids
KnowsAll here old new (Err (Corrupt id)) = (rest : Bool) → masks_spoiled old here id rest ≡ true
KnowsAll here old new (Err Overflow) = (store : Store) → Holds store here → masks_overflow old store ≡ true
KnowsAll here old new (Err NoMemory) = Unit {0}

-- values, null outside what is known of each of several masks
abbrev pub under_known : List MaskData → List Marked → List Marked
under_known [] vs = vs
under_known (m ∷ ms) vs = under_known ms (nulled m.known vs)

-- so many of the bits, false past their end
abbrev pub padded : ℕ → List Bool → List Bool
padded zero bits = []
padded (suc n) [] = false ∷ padded n []
padded (suc n) (b ∷ bits) = b ∷ padded n bits

-- an array under what is known of masks
abbrev pub IsUnder : List MaskData → ArrayData → ArrayData → Type 0
IsUnder ms a b = (b.dtype ≡ dtype_under ms a.dtype) × (map marked b.items ≡ under_known ms (map marked a.items))

-- an array is seen as a column of its items
abbrev pub as_given : Result Items ReadFault → Result Given ReadFault
as_given (Ok (Ready a)) = Ok (given.Ready a)
as_given (Ok (Pending ids)) = Ok (given.Pending ids)
as_given (Err f) = Err f

abbrev pub Projects : Came → FutureData → Result Items ReadFault → Type 0
Projects here f (Ok (Ready a)) = GivesItems here f a
Projects here f (Ok (Pending ids)) = AreLacking (future_wanted f here) here ids
Projects here f (Err (Corrupt id)) = future_spoiled f here id ≡ true
Projects here f (Err Overflow) = (store : Store) → Holds store here → future_overflow f store ≡ true
Projects here f (Err NoMemory) = Unit {0}

-- the rows of an array that is read are known from then on, and its values are as many
abbrev pub KnowsItems : Came → FutureData → FutureData → Result Items ReadFault → Type 0
KnowsItems here old new (Ok (Ready a)) = AreRows here old new a
KnowsItems here old new (Ok (Pending ids)) = Unit {0}
KnowsItems here old new (Err f) = Unit {0}
