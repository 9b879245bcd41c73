-- What a plan gives: a marked value for each row, under a store of segments.
use Rattle.std.specs.Prelude.{◌≡◌, ◌≤◌, ℕ, pos, ◌+◌, ◌^◌, ◌<◌, Bool, false, not, ◌||◌, cond, List, [], ◌∷◌, length, get_or}
use Rattle.std.specs.List.{list_any}
use Rattle.scan_values.specs.DataType.{DataType, Fields, no_fields, field, int_type, with_nullability}
use Rattle.scan_values.specs.declared.ptype.Nullability.TheVariants.{NonNullable, Nullable}
use Rattle.scan_values.specs.declared.ptype.PType.TheVariants.{U64}
use Rattle.scan_values.specs.Marked.{Marked, lost, null, integer, struct, Markeds, none, more}
use Rattle.scan_values.specs.Val.{null_val, marked, is_clean}
use Rattle.scan_segments.specs.Source.{Store}
use Rattle.scan_expr.specs.Infer.{infer}
use Rattle.scan_expr.specs.Eval.{eval}
use Rattle.scan_expr.specs.Overflow.{overflows}
use Rattle.scan_layout.specs.Check.{total_rows}
use Rattle.scan_spelling.specs.Places.{places_of}
use Rattle.scan_layout.specs.RowValue.{leaf_value, elements_between, under}
use Rattle.scan_plans.specs.PlanTree.{PlanTree, leaf, rows, evaluate, over, constant, lists, lengths, valid, numbers, by_lengths, PlanTrees, no_plans, plan}
use Rattle.scan_plans.specs.OffsetsData.{offset_at, length_between}

-- the value of a row
abbrev mutual
  pub value_at : PlanTree → Store → ℕ → Marked
  value_at (leaf d s gs) store i = leaf_value d store (places_of d s gs) i
  value_at (rows d vs) store i = marked (get_or vs i null_val)
  value_at (evaluate d e p) store i = eval d e (value_at p store i) 0
  value_at (over d e ps) store i = eval d e (struct (values_at ps store i)) 0
  value_at (constant d e) store i = eval d e null 0
  value_at (lists d p o) store i = elements_between o.elements (offset_at o store i) (offset_at o store (i + 1)) (λ j. value_at p store j)
  value_at (lengths o) store i = length_between o.elements (offset_at o store i) (offset_at o store (i + 1))
  value_at (valid p v) store i = under (value_at v store i) (value_at p store i)
  value_at (numbers k) store i = integer (pos (k + i))
  value_at (by_lengths d e t f p) store i = eval d e (list_at p store i) 0

  -- the list of a row of which only the length is known, by the plan of that
  pub list_at : PlanTree → Store → ℕ → Marked
  list_at (leaf d s gs) store i = lost
  list_at (rows d vs) store i = lost
  list_at (evaluate d e p) store i = lost
  list_at (over d e ps) store i = lost
  list_at (constant d e) store i = lost
  list_at (lists d p o) store i = lost
  list_at (lengths o) store i = elements_between o.elements (offset_at o store i) (offset_at o store (i + 1)) (λ j. lost)
  list_at (valid p v) store i = under (value_at v store i) (list_at p store i)
  list_at (numbers k) store i = lost
  list_at (by_lengths d e t f p) store i = lost

  -- of each plan
  pub values_at : PlanTrees → Store → ℕ → Markeds
  values_at no_plans store i = none
  values_at (plan p ps) store i = more (value_at p store i) (values_at ps store i)

-- whether some evaluation overflows at a row
abbrev mutual
  pub overflow_at : PlanTree → Store → ℕ → Bool
  overflow_at (leaf d s gs) store i = false
  overflow_at (rows d vs) store i = false
  overflow_at (evaluate d e p) store i = overflow_at p store i || overflows d e (value_at p store i) 0
  overflow_at (over d e ps) store i = overflow_in ps store i || overflows d e (struct (values_at ps store i)) 0
  overflow_at (constant d e) store i = overflows d e null 0
  overflow_at (lists d p o) store i = false
  overflow_at (lengths o) store i = false
  overflow_at (valid p v) store i = overflow_at v store i || overflow_at p store i
  overflow_at (numbers k) store i = false
  overflow_at (by_lengths d e t f p) store i = overflow_at p store i || overflows d e (list_at p store i) 0

  -- in some plan
  pub overflow_in : PlanTrees → Store → ℕ → Bool
  overflow_in no_plans store i = false
  overflow_in (plan p ps) store i = overflow_at p store i || overflow_in ps store i

-- at one of these rows
abbrev pub overflow_on : PlanTree → Store → List ℕ → Bool
overflow_on p store is = list_any (overflow_at p store) is

-- whether a part of the value of a row is damaged
abbrev pub damage_at : PlanTree → Store → ℕ → Bool
damage_at p store i = not (is_clean (value_at p store i))

-- at one of these rows
abbrev pub damage_on : PlanTree → Store → List ℕ → Bool
damage_on p store is = list_any (damage_at p store) is

-- the dtype of the values
abbrev pub plan_dtype : PlanTree → DataType
plan_dtype (leaf d s gs) = d
plan_dtype (rows d vs) = d
plan_dtype (evaluate d e p) = infer d e
plan_dtype (over d e ps) = infer d e
plan_dtype (constant d e) = infer d e
plan_dtype (lists d p o) = d
plan_dtype (lengths o) = int_type U64 NonNullable
plan_dtype (valid p v) = with_nullability Nullable (plan_dtype p)
plan_dtype (numbers k) = int_type U64 NonNullable
plan_dtype (by_lengths d e t f p) = infer d e

-- the true rows of a mask that begins at a row
abbrev pub true_rows : ℕ → List Bool → List ℕ
true_rows i [] = []
true_rows i (b ∷ bs) = cond b (i ∷ true_rows (i + 1) bs) (true_rows (i + 1) bs)

-- a plan has at least so many rows; of numbers each is a u64
abbrev mutual
  pub Within : PlanTree → ℕ → Type 0
  Within (leaf d s gs) n = n ≤ total_rows gs
  Within (rows d vs) n = n ≤ length vs
  Within (evaluate d e p) n = Within p n
  Within (over d e ps) n = AllWithin ps n
  Within (constant d e) n = Unit {0}
  Within (lists d p o) n = (n < total_rows o.segments) × Within p o.elements
  Within (lengths o) n = n < total_rows o.segments
  Within (valid p v) n = Within v n × Within p n
  Within (numbers k) n = k + n ≤ 2 ^ 64
  Within (by_lengths d e t f p) n = Within p n

  pub AllWithin : PlanTrees → ℕ → Type 0
  AllWithin no_plans n = Unit {0}
  AllWithin (plan p ps) n = Within p n × AllWithin ps n

-- the fields have the dtypes of the plans
abbrev pub AreFields : Fields → PlanTrees → Type 0
AreFields no_fields no_plans = Unit {0}
AreFields no_fields (plan p ps) = ⊥
AreFields (field n d fs) no_plans = ⊥
AreFields (field n d fs) (plan p ps) = (d ≡ plan_dtype p) × AreFields fs ps
