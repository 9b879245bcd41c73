-- What a plan is, without where it lies in memory.
use Rattle.std.specs.Prelude.{ℕ, ◌+◌, List, [], ◌∷◌}
use Rattle.scan_values.specs.DataType.{DataType}
use Rattle.scan_values.specs.Val.{Val}
use Rattle.scan_expr.specs.Expr.{Expr}
use Rattle.scan_spelling.specs.declared.spelling.Spelling.{Spelling}
use Rattle.scan_plans.specs.OffsetsData.{OffsetsData}

mutual
  pub data PlanTree : Type 0 where
    -- the values of a leaf of this dtype and spelling: the id and the rows of each segment
    leaf : DataType → Spelling → List (ℕ × ℕ) → PlanTree
    -- values in memory
    rows : DataType → List Val → PlanTree
    -- an expression over the values of another plan, which are of this dtype
    evaluate : DataType → Expr → PlanTree → PlanTree
    -- an expression over structs, of this dtype, whose fields are the values of other plans
    over : DataType → Expr → PlanTrees → PlanTree
    -- an expression that reads nothing of its scope
    constant : DataType → Expr → PlanTree
    -- lists of this dtype, none of which is null: the plan of their elements, and their offsets
    lists : DataType → PlanTree → OffsetsData → PlanTree
    -- how many elements lists have, by their offsets
    lengths : OffsetsData → PlanTree
    -- the values of a plan, null where another is not true
    valid : PlanTree → PlanTree → PlanTree
    -- the numbers of rows, from a first one on
    numbers : ℕ → PlanTree
    -- an expression over lists of a dtype, of which it reads only whether they are null and how many elements they have:
    -- the same over how many they have, of this dtype, which another plan gives
    by_lengths : DataType → Expr → DataType → Expr → PlanTree → PlanTree

  pub data PlanTrees : Type 0 where
    no_plans : PlanTrees
    plan : PlanTree → PlanTrees → PlanTrees

abbrev pub plans : List PlanTree → PlanTrees
plans [] = no_plans
plans (p ∷ ps) = plan p (plans ps)

-- how many plans stand below one
abbrev mutual
  pub tree_size : PlanTree → ℕ
  tree_size (leaf d s gs) = 1
  tree_size (rows d vs) = 1
  tree_size (evaluate d e p) = tree_size p + 1
  tree_size (over d e ps) = trees_size ps + 1
  tree_size (constant d e) = 1
  tree_size (lists d p o) = tree_size p + 1
  tree_size (lengths o) = 1
  tree_size (valid p v) = tree_size p + tree_size v + 1
  tree_size (numbers k) = 1
  tree_size (by_lengths d e t f p) = tree_size p + 1

  pub trees_size : PlanTrees → ℕ
  trees_size no_plans = 0
  trees_size (plan p ps) = tree_size p + trees_size ps + 1
