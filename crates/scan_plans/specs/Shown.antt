-- Plans as a person reads them: a line for each node, what it stands on below it, two columns further in. A leaf's line
-- names all segments that rows of it may want.
use Rattle.std.specs.Prelude.{ℕ, ◌++◌, true, List, [], codes, decimal, length}
use Rattle.scan_values.specs.DataType.{DataType}
use Rattle.scan_values.specs.Shown.{shown_dtype}
use Rattle.scan_expr.specs.Shown.{shown_expr}
use Rattle.scan_spelling.specs.declared.spelling.Spelling.{Spelling}
use Rattle.scan_layout.specs.Shown.{indent, deeper, shown_spelling, shown_segments}
use Rattle.scan_plans.specs.OffsetsData.{OffsetsData}
use Rattle.scan_plans.specs.PlanData.{PlanData}
use Rattle.scan_plans.specs.PlanTree.{PlanTree, PlanTrees, leaf, rows, evaluate, over, constant, lists, lengths, valid, numbers, by_lengths, no_plans, plan}

-- the segments of a leaf, as `i32?, spelling 1, segments 0 (50), 1 (50)`
abbrev pub shown_leaf : DataType → Spelling → List (ℕ × ℕ) → List ℕ
shown_leaf d s gs = shown_dtype d ++ (codes ", " ++ (shown_spelling s ++ (codes ", segments " ++ shown_segments true gs)))

-- offsets, as `offsets u32, spelling 1, segments 2 (101)`
abbrev pub shown_offsets : OffsetsData → List ℕ
shown_offsets o = codes "offsets " ++ shown_leaf o.dtype o.spelling o.segments

-- what a node does, without what it stands on
abbrev pub shown_step : PlanTree → List ℕ
shown_step (leaf d s gs) = codes "leaf " ++ shown_leaf d s gs
shown_step (rows d vs) = decimal (length vs) ++ (codes " values in memory, " ++ shown_dtype d)
shown_step (evaluate d e p) = codes "evaluate " ++ shown_expr e
shown_step (over d e ps) = codes "evaluate " ++ (shown_expr e ++ codes " over the fields")
shown_step (constant d e) = codes "constant " ++ shown_expr e
shown_step (lists d p o) = shown_dtype d ++ (codes ", " ++ shown_offsets o)
shown_step (lengths o) = codes "lengths, " ++ shown_offsets o
shown_step (valid p v) = codes "null where the second is not true"
shown_step (numbers k) = codes "row numbers from " ++ decimal k
shown_step (by_lengths d e t f p) = codes "evaluate " ++ (shown_expr f ++ codes " over lengths")

-- what stands on a line of its own, so many levels in
abbrev pub on_line : ℕ → List ℕ → List ℕ
on_line d text = codes "\n" ++ (indent d ++ text)

-- a plan that stands so many levels in
abbrev mutual
  pub shown_tree : ℕ → PlanTree → List ℕ
  shown_tree d (leaf t s gs) = shown_step (leaf t s gs)
  shown_tree d (rows t vs) = shown_step (rows t vs)
  shown_tree d (evaluate t e p) = shown_step (evaluate t e p) ++ on_line (deeper d) (shown_tree (deeper d) p)
  shown_tree d (over t e ps) = shown_step (over t e ps) ++ shown_trees (deeper d) ps
  shown_tree d (constant t e) = shown_step (constant t e)
  shown_tree d (lists t p o) = shown_step (lists t p o) ++ on_line (deeper d) (shown_tree (deeper d) p)
  shown_tree d (lengths o) = shown_step (lengths o)
  shown_tree d (valid p v) =
      shown_step (valid p v) ++ (on_line (deeper d) (shown_tree (deeper d) p) ++ on_line (deeper d) (shown_tree (deeper d) v))
  shown_tree d (numbers k) = shown_step (numbers k)
  shown_tree d (by_lengths t e u f p) = shown_step (by_lengths t e u f p) ++ on_line (deeper d) (shown_tree (deeper d) p)

  -- plans, each on lines of its own
  pub shown_trees : ℕ → PlanTrees → List ℕ
  shown_trees d no_plans = []
  shown_trees d (plan p ps) = on_line d (shown_tree d p) ++ shown_trees d ps

-- one that another stands on, on lines of its own
abbrev pub shown_below : ℕ → PlanTree → List ℕ
shown_below d p = on_line d (shown_tree d p)

-- a plan: its expression over its scope, and its nodes
abbrev pub shown_plan : PlanData → List ℕ
shown_plan p = codes "plan of " ++ (shown_expr (p.expr).expr ++ (codes " over " ++ (shown_dtype (p.expr).scope ++ shown_below 1 p.tree)))
