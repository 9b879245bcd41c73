-- A budget of the rows that may be given in no order, which workers claim as their splits end.
use Rattle.std.specs.Prelude.{◌≡◌, ◌≤◌, ◌<◌, ◌+◌, ℕ, Bool, true, false, List, Option, None, Some, length, refl}
use Rattle.std.specs.Coded.{Coded, code_by, coded×, coded_ℕ}
use Rattle.scan_segments.specs.Source.{Store}
use Rattle.scan_splits.specs.Arrivals.{Arrivals}
use Rattle.scan_splits.specs.Wanted.{no_repeats}
use Rattle.scan_drive.specs.Files.{Part}
use Rattle.scan_drive.specs.Looks.{EachPolled}
use Rattle.scan_drive.specs.Slots.{slot_at, is_fresh, EachKeeps, IsTrimmed, read_rows}
use Rattle.scan_drive.specs.Splits.{SplitState, Event}
use Rattle.scan_drive.specs.declared.slot.Slot.{Slot}

-- how many rows it grants, how many were claimed of it, and how many of these were granted
pub record BudgetData : Type 0 where
  pub limit : ℕ
  pub claimed : ℕ
  pub granted : ℕ

-- how they are kept
abbrev pub budget_data_code : Coded BudgetData
budget_data_code =
    code_by (ℕ × (ℕ × ℕ)) (coded× coded_ℕ (coded× coded_ℕ coded_ℕ)) (λ b. (b.limit, (b.claimed, b.granted)))
    (λ p. record { limit = p.0; claimed = p.1.0; granted = p.1.1 }) (λ _. refl)

-- all that was claimed was granted, and there is more
pub record IsOpen (b : BudgetData) : Type 0 where
  pub granted : b.granted ≡ b.claimed
  pub more : b.claimed < b.limit

-- a budget, where there is one, grants what may still be given, and rows are given in no order
pub record Grants (ordered : Bool) (left : Option ℕ) (b : BudgetData) : Type 0 where
  pub free : ordered ≡ false
  pub is_open : IsOpen b
  pub most : ℕ
  pub left_is : left ≡ Some most
  pub enough : b.claimed + most ≤ b.limit

-- the same of a budget, where there is one
abbrev pub IsBudget : Bool → Option ℕ → Option BudgetData → Type 0
IsBudget ordered left None = Unit {0}
IsBudget ordered left (Some b) = Grants ordered left b

module _ {W I R : Type 0} (items : R → List I) where
  -- all rows that were claimed in a phase were granted, and no more were claimed than are there
  pub record GrantsAll (old new : BudgetData) (slots : List (Slot W R)) : Type 0 where
    pub limit : new.limit ≡ old.limit
    pub is_open : IsOpen new
    pub claims : new.claimed ≤ old.claimed + read_rows items slots

  -- the same of a budget, where there is one
  abbrev pub GrantsIn : Option BudgetData → Option BudgetData → List (Slot W R) → Type 0
  GrantsIn None new slots = new ≡ None
  GrantsIn (Some b) None slots = ⊥
  GrantsIn (Some b) (Some d) slots = GrantsAll b d slots

module _ {W I R : Type 0} (split : W → SplitState I) (comes : W → Arrivals → Store → Event → Type 0) (items : R → List I) where
  -- a phase: the splits that waited for nothing were polled, and those at these places wait for other segments now
  pub record IsPhase (asking : List ℕ) (old new : List (Slot W R)) : Type 0 where
    pub polled : EachPolled split comes items asking old new
    pub once : no_repeats asking ≡ true
    pub keeps : (p : Part I) (store : Store) → EachKeeps split comes items p store old new
    pub settled : (place : ℕ) → is_fresh (slot_at new place).stage ≡ false

  -- a phase used a budget up: of splits that were read as many rows are kept as were granted, and these are all that it grants
  pub record UsesUp (b : BudgetData) (old new : List (Slot W R)) : Type 0 where
    pub mid : List (Slot W R)
    pub asking : List ℕ
    pub phase : IsPhase asking old mid
    pub len : length new ≡ length mid
    pub trimmed : (place : ℕ) → IsTrimmed items (slot_at mid place) (slot_at new place)
    pub met : b.limit ≤ b.claimed + read_rows items new

  -- there is a budget, which a phase used up
  abbrev pub UsesUpIn : Option BudgetData → List (Slot W R) → List (Slot W R) → Type 0
  UsesUpIn None old new = ⊥
  UsesUpIn (Some b) old new = UsesUp b old new
