-- Plans of the parts of an expression that is taken apart by row numbers and rows.
use Rattle.std.specs.Prelude.{◌≡◌, ◌≤◌, ◌<◌, ◌+◌, ℕ, Bool, true, false, List, [], ◌∷◌, length}
use Rattle.scan_segments.specs.Source.{Store}
use Rattle.scan_spelling.specs.Places.{Place}
use Rattle.scan_expr.specs.Bound.{Bound}
use Rattle.scan_expr.specs.Infer.{infer}
use Rattle.scan_expr.specs.Eval.{eval}
use Rattle.scan_expr.specs.Overflow.{overflows}
use Rattle.scan_partition.specs.declared.row_idx.Partition.{Partition}
use Rattle.scan_partition.specs.declared.row_idx.Partition.TheVariants.{RowIdx, Child}
use Rattle.scan_partition.specs.RowSplit.{read_value}
use Rattle.scan_plans.specs.Came.{Came, Holds}
use Rattle.scan_plans.specs.Meaning.{value_at, overflow_at, plan_dtype, true_rows, Within}
use Rattle.scan_plans.specs.PlanTree.{PlanTree}
use Rattle.scan_plans.specs.Pruning.{is_numbered}
use Rattle.scan_plans.specs.Wants.{wanted, names_id, spoiled}
use Rattle.scan_readers.specs.PlanOf.{may_want, may_spoil}
use Rattle.scan_readers.specs.Readers.{ReaderState}

-- a part reads the rows' numbers
abbrev pub reads_numbers : Partition → Bool
reads_numbers RowIdx = true
reads_numbers Child = false

-- over the rows' numbers a plan wants nothing, over the rows what the part needs of them
abbrev pub WantsPart : ReaderState → Partition → Bound → PlanTree → Type 0
WantsPart s RowIdx p n = (here : Came) (is : List ℕ) → ◌≡◌ {A = List Place} (wanted n here is) []
WantsPart s Child p n =
    (store : Store) (here : Came) (first : ℕ) (mask : List Bool) (id : ℕ) → Holds store here
    → first + length mask ≤ s.rows → names_id id (wanted n here (true_rows first mask)) ≡ true
    → may_want s p store first (first + length mask) id ≡ true

-- over the rows' numbers nothing is no good, over the rows what is no good where the part needs it
abbrev pub SpoilsPart : ReaderState → Partition → Bound → PlanTree → Type 0
SpoilsPart s RowIdx p n = (here : Came) (is : List ℕ) (id : ℕ) → spoiled n here is id ≡ false
SpoilsPart s Child p n =
    (store : Store) (here : Came) (first : ℕ) (mask : List Bool) (id : ℕ) → Holds store here → first + length mask ≤ s.rows
    → spoiled n here (true_rows first mask) id ≡ true → may_spoil s p store first (first + length mask) id ≡ true

-- a plan of a part, on what it reads of the rows of a reader, of which the first has a number
pub record IsPartPlan (s : ReaderState) (number : ℕ) (i : Partition) (p : Bound) (n : PlanTree) : Type 0 where
  pub dtype : plan_dtype n ≡ infer p.scope p.expr
  pub rows : Within n s.rows
  pub numbered : is_numbered n ≡ reads_numbers i
  pub value : (store : Store) (k : ℕ) → k < s.rows → value_at n store k ≡ eval p.scope p.expr (read_value (s.value store k) (number + k) i) 0
  pub overflow : (store : Store) (k : ℕ) → k < s.rows → overflow_at n store k ≡ overflows p.scope p.expr (read_value (s.value store k) (number + k) i) 0
  pub wants : WantsPart s i p n
  pub spoils : SpoilsPart s i p n

-- a plan of each part
abbrev pub ArePartPlans : ReaderState → ℕ → List Partition → List Bound → List PlanTree → Type 0
ArePartPlans s number [] [] [] = Unit {0}
ArePartPlans s number [] [] (n ∷ ns) = ⊥
ArePartPlans s number [] (p ∷ ps) ns = ⊥
ArePartPlans s number (i ∷ is) [] ns = ⊥
ArePartPlans s number (i ∷ is) (p ∷ ps) [] = ⊥
ArePartPlans s number (i ∷ is) (p ∷ ps) (n ∷ ns) = IsPartPlan s number i p n × ArePartPlans s number is ps ns
