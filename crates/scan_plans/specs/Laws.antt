-- Laws of what plans want.
use Rattle.std.specs.Prelude.{◌≡◌, ◌+◌, ℕ, Bool, true, not, List, [], length}
use Rattle.std.specs.List.{list_all}
use Rattle.scan_values.specs.Selections.{is_among}
use Rattle.scan_segments.specs.Source.{Store}
use Rattle.scan_spelling.specs.Places.{Place}
use Rattle.scan_layout.specs.Touched.{leaf_touched}
use Rattle.scan_plans.specs.PlanTree.{PlanTree}
use Rattle.scan_plans.specs.Came.{Came, all_of, Holds}
use Rattle.scan_plans.specs.Meaning.{true_rows, Within}
use Rattle.scan_plans.specs.Pruning.{IsWithin}
use Rattle.scan_plans.specs.Wants.{leaf_wanted, wanted, may, names_id}

-- what is wanted, whatever has arrived, is named when the plan is made
abbrev pub WantsLieInMay : Type 0
WantsLieInMay = (p : PlanTree) (here : Came) (is : List ℕ) (id : ℕ) → names_id id (wanted p here is) ≡ true → is_among (may p) id ≡ true

-- true rows of a range want of a leaf only what the range touches
abbrev pub LeavesWantWhatIsTouched : Type 0
LeavesWantWhatIsTouched = (places : List Place) (base first : ℕ) (mask : List Bool) (id : ℕ)
    → names_id id (leaf_wanted base places (true_rows first mask)) ≡ true
    → names_id id (leaf_touched base places first (first + length mask)) ≡ true

-- fewer rows want no more of a leaf
abbrev pub LeavesWantNoMoreForLess : Type 0
LeavesWantNoMoreForLess = (places : List Place) (base first : ℕ) (less mask : List Bool) (id : ℕ) → IsWithin less mask
    → names_id id (leaf_wanted base places (true_rows first less)) ≡ true
    → names_id id (leaf_wanted base places (true_rows first mask)) ≡ true

-- no row wants nothing of a leaf
abbrev pub NoRowWantsNothing : Type 0
NoRowWantsNothing = (places : List Place) (base first : ℕ) (mask : List Bool) → list_all not mask ≡ true → leaf_wanted base places (true_rows first mask) ≡ []

-- no row wants nothing of a plan, whatever has arrived
abbrev pub PlansWantNothingForNoRow : Type 0
PlansWantNothingForNoRow = (p : PlanTree) (here : Came) (first : ℕ) (mask : List Bool) → list_all not mask ≡ true → wanted p here (true_rows first mask) ≡ []

-- Whatever has arrived of a store, fewer rows of a plan want only what the others want once all has. Of lists what has
-- arrived tells which elements are wanted, so that fewer may want theirs before the others do.
abbrev pub PlansWantNoMoreForLess : Type 0
PlansWantNoMoreForLess = (p : PlanTree) (store : Store) (here : Came) (first : ℕ) (less mask : List Bool) (id : ℕ) → Holds store here
    → Within p (first + length mask) → IsWithin less mask
    → names_id id (wanted p here (true_rows first less)) ≡ true
    → names_id id (wanted p (all_of store) (true_rows first mask)) ≡ true
