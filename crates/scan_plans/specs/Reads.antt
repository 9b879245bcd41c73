-- What a contract sees of the reading of rows, and of the look at what they lack.
use Rattle.std.specs.Prelude.{◌≡◌, ℕ, ◌==◌, Bool, true, false, ◌||◌, ◌&&◌, List, [], ◌∷◌, ◌++◌, if◌then◌else◌, map, is_none, Some, None, Result, Ok, Err}
use Rattle.std.specs.List.{list_any}
use Rattle.scan_values.specs.Arrays.{ArrayData}
use Rattle.scan_values.specs.Selections.{is_among}
use Rattle.scan_values.specs.Val.{marked}
use Rattle.scan_segments.specs.Source.{Store}
use Rattle.scan_spelling.specs.Places.{Place, decoded}
use Rattle.scan_layout.specs.RowValue.{segment_value}
use Rattle.scan_plans.specs.PlanTree.{PlanTree, PlanTrees, no_plans, plan}
use Rattle.scan_plans.specs.Came.{Came, arrived}
use Rattle.scan_plans.specs.Meaning.{value_at, overflow_on, plan_dtype, true_rows}
use Rattle.scan_plans.specs.Wants.{wanted, all_wanted, lacks, Complete, spoils, spoiled, any_spoiled}
use Rattle.scan_plans.specs.declared.fault.ReadFault.{ReadFault}
use Rattle.scan_plans.specs.declared.fault.ReadFault.TheVariants.{Corrupt, Overflow, NoMemory}

-- one of the segments has this id, and a store has it not, or not as it is spelled there
abbrev pub fails : List Place → Store → ℕ → Bool
fails places store id = list_any (λ (p : Place). (p.id == id) && is_none (decoded store p)) places

-- a store has each of the segments, as it is spelled there
abbrev pub AllDecode : List Place → Store → Type 0
AllDecode places store = (id : ℕ) → fails places store id ≡ false

-- ids are added: exactly those that lack, each named by a segment; or one is no good
abbrev pub CollectsBy : {A : Type 0} → List ℕ → List ℕ → List Place → (ℕ → Bool) → Came → Result A ReadFault → Type 0
CollectsBy old new places bad here (Ok x) = (id : ℕ) → is_among new id ≡ (is_among old id || lacks places here id)
CollectsBy old new places bad here (Err (Corrupt id)) = bad id ≡ true
CollectsBy old new places bad here (Err Overflow) = ⊥
CollectsBy old new places bad here (Err NoMemory) = Unit {0}

abbrev pub Collects : {A : Type 0} → List ℕ → List ℕ → List Place → Came → Result A ReadFault → Type 0
Collects old new places here r = CollectsBy old new places (spoils places here) here r

-- those of what rows of a plan want, or of several
abbrev pub CollectsPlan : {A : Type 0} → List ℕ → List ℕ → PlanTree → Came → List ℕ → Result A ReadFault → Type 0
CollectsPlan old new p here is r = CollectsBy old new (wanted p here is) (spoiled p here is) here r

abbrev pub CollectsAll : {A : Type 0} → List ℕ → List ℕ → PlanTrees → Came → List ℕ → Result A ReadFault → Type 0
CollectsAll old new ps here is r = CollectsBy old new (all_wanted ps here is) (any_spoiled ps here is) here r

-- these are the values of rows, by what has arrived, none of them overflows, and each segment that they want decodes
pub record AreValues (p : PlanTree) (here : Came) (is : List ℕ) (a : ArrayData) : Type 0 where
  pub dtype : a.dtype ≡ plan_dtype p
  pub items : map marked a.items ≡ map (value_at p (arrived here)) is
  pub within : overflow_on p (arrived here) is ≡ false
  pub found : AllDecode (wanted p here is) (arrived here)

-- the values of rows, an overflow at one of the rows, or, where nothing lacks, a segment that is no good
abbrev pub Reads : PlanTree → Came → List ℕ → Result ArrayData ReadFault → Type 0
Reads p here is (Ok a) = AreValues p here is a
Reads p here is (Err (Corrupt id)) = Complete (wanted p here is) here → spoiled p here is id ≡ true
Reads p here is (Err Overflow) = overflow_on p (arrived here) is ≡ true
Reads p here is (Err NoMemory) = Unit {0}

-- the same of several plans, a column each
abbrev pub AreColumns : PlanTrees → Came → List ℕ → List ArrayData → Type 0
AreColumns no_plans here is [] = Unit {0}
AreColumns no_plans here is (a ∷ cs) = ⊥
AreColumns (plan p ps) here is [] = ⊥
AreColumns (plan p ps) here is (a ∷ cs) = AreValues p here is a × AreColumns ps here is cs

-- at one of the rows one of the plans overflows
abbrev pub any_overflow_on : PlanTrees → Store → List ℕ → Bool
any_overflow_on no_plans store is = false
any_overflow_on (plan p ps) store is = overflow_on p store is || any_overflow_on ps store is

-- a segment that decodes to these values, or one that is no good
abbrev pub ReadsSegment : Store → Place → Result ArrayData ReadFault → Type 0
ReadsSegment store p (Ok a) = (a.dtype ≡ p.dtype) × (decoded store p ≡ Some a.items)
ReadsSegment store p (Err (Corrupt id)) = (id ≡ p.id) × (decoded store p ≡ None)
ReadsSegment store p (Err Overflow) = ⊥
ReadsSegment store p (Err NoMemory) = Unit {0}

-- values, and then those of rows of a segment that begin at one, under a mask, where a row is true: the segment decodes
abbrev pub AddsSegment : Store → Place → ℕ → List Bool → ArrayData → Result ArrayData ReadFault → Type 0
AddsSegment store p skip bits before (Ok a) =
    (a.dtype ≡ p.dtype) × (map marked a.items ≡ map marked before.items ++ map (segment_value store p)
    (true_rows skip bits)) × AllDecode (if list_any (λ b. b) bits then p ∷ [] else []) store
AddsSegment store p skip bits before (Err (Corrupt id)) = fails (if list_any (λ b. b) bits then p ∷ [] else []) store id ≡ true
AddsSegment store p skip bits before (Err Overflow) = ⊥
AddsSegment store p skip bits before (Err NoMemory) = Unit {0}

-- the same of several plans: a column each, a segment that is no good, or an overflow at one of the rows
abbrev pub ReadsAll : {A : Type 0} → (A → List ArrayData) → PlanTrees → Came → List ℕ → Result A ReadFault → Type 0
ReadsAll items ps here is (Ok cs) = AreColumns ps here is (items cs)
ReadsAll items ps here is (Err (Corrupt id)) = Complete (all_wanted ps here is) here → any_spoiled ps here is id ≡ true
ReadsAll items ps here is (Err Overflow) = any_overflow_on ps (arrived here) is ≡ true
ReadsAll items ps here is (Err NoMemory) = Unit {0}
