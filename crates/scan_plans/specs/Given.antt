-- What rows of a plan give or lack.
use Rattle.std.specs.Prelude.{◌≡◌, ℕ, true, List, Option, Some, None, Result, Ok, Err}
use Rattle.scan_values.specs.Selections.{is_among}
use Rattle.scan_spelling.specs.Places.{Place}
use Rattle.scan_splits.specs.Wanted.{is_any}
use Rattle.scan_plans.specs.PlanTree.{PlanTree}
use Rattle.scan_plans.specs.Came.{Came, arrived}
use Rattle.scan_plans.specs.Meaning.{overflow_on}
use Rattle.scan_plans.specs.Wants.{wanted, lacks, Complete, NoneBad, spoiled}
use Rattle.scan_plans.specs.Reads.{AreValues}
use Rattle.scan_plans.specs.declared.fault.ReadFault.{ReadFault}
use Rattle.scan_plans.specs.declared.fault.ReadFault.TheVariants.{Corrupt, Overflow, NoMemory}
use Rattle.scan_plans.specs.declared.given.Given.{Given}
use Rattle.scan_plans.specs.declared.given.Given.TheVariants.{Ready, Pending}

-- these ids, at least one, and no others lack, and whatever has arrived is good
pub record AreLacking (places : List Place) (here : Came) (ids : List ℕ) : Type 0 where
  pub some : is_any ids ≡ true
  pub exact : (id : ℕ) → is_among ids id ≡ lacks places here id
  pub good : NoneBad places here

-- the ids that lack, if any, or one that is no good
abbrev pub Lacks : PlanTree → Came → List ℕ → Result (Option (List ℕ)) ReadFault → Type 0
Lacks p here is (Ok None) = Complete (wanted p here is) here
Lacks p here is (Ok (Some ids)) = AreLacking (wanted p here is) here ids
Lacks p here is (Err (Corrupt id)) = spoiled p here is id ≡ true
Lacks p here is (Err Overflow) = ⊥
Lacks p here is (Err NoMemory) = Unit {0}

-- the values where nothing lacks, the ids that lack, one that is no good, or an overflow where nothing lacks
abbrev pub Gives : PlanTree → Came → List ℕ → Result Given ReadFault → Type 0
Gives p here is (Ok (Ready c)) = Complete (wanted p here is) here × AreValues p here is c
Gives p here is (Ok (Pending ids)) = AreLacking (wanted p here is) here ids
Gives p here is (Err (Corrupt id)) = spoiled p here is id ≡ true
Gives p here is (Err Overflow) = Complete (wanted p here is) here × (overflow_on p (arrived here) is ≡ true)
Gives p here is (Err NoMemory) = Unit {0}
