-- What a contract sees of the look at what has arrived of what rows want.
use Rattle.std.specs.Prelude.{◌≡◌, ℕ, Bool, true, false, List, Option, Some, None, Result, Ok, Err}
use Rattle.scan_spelling.specs.Places.{Place}
use Rattle.scan_plans.specs.Came.{Came}
use Rattle.scan_plans.specs.OffsetReads.{WantsRows}
use Rattle.scan_plans.specs.OffsetsData.{OffsetsData}
use Rattle.scan_plans.specs.PlanTree.{PlanTree, PlanTrees}
use Rattle.scan_plans.specs.Wants.{wanted, all_wanted, knows_elements, NoneBad, spoils, offsets_spoiled, spoiled, any_spoiled}
use Rattle.scan_plans.specs.declared.fault.ReadFault.{ReadFault}
use Rattle.scan_plans.specs.declared.fault.ReadFault.TheVariants.{Corrupt, Overflow, NoMemory}
use Rattle.scan_plans.specs.declared.lists.Span.{Span}

-- whatever has arrived of these segments is good, or one is no good
abbrev pub ChecksBy : {A : Type 0} → List Place → (ℕ → Bool) → Came → Result A ReadFault → Type 0
ChecksBy places bad here (Ok x) = NoneBad places here
ChecksBy places bad here (Err (Corrupt id)) = bad id ≡ true
ChecksBy places bad here (Err Overflow) = ⊥
ChecksBy places bad here (Err NoMemory) = Unit {0}

abbrev pub ChecksPlaces : {A : Type 0} → List Place → Came → Result A ReadFault → Type 0
ChecksPlaces places here r = ChecksBy places (spoils places here) here r

-- those of what rows of a plan want, or of several
abbrev pub ChecksPlan : {A : Type 0} → PlanTree → Came → List ℕ → Result A ReadFault → Type 0
ChecksPlan p here is r = ChecksBy (wanted p here is) (spoiled p here is) here r

abbrev pub ChecksAll : {A : Type 0} → PlanTrees → Came → List ℕ → Result A ReadFault → Type 0
ChecksAll ps here is r = ChecksBy (all_wanted ps here is) (any_spoiled ps here is) here r

-- the rows of the elements that lists want, where they are known
abbrev pub KnownOf : OffsetsData → Came → List ℕ → Result (Option Span) ReadFault → Type 0
KnownOf o here is (Ok None) = knows_elements o here is ≡ false
KnownOf o here is (Ok (Some s)) = WantsRows o here is s
KnownOf o here is (Err (Corrupt id)) = offsets_spoiled o here is id ≡ true
KnownOf o here is (Err Overflow) = ⊥
KnownOf o here is (Err NoMemory) = Unit {0}
