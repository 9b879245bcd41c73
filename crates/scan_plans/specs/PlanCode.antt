-- How a plan is kept as a tree of numbers, and read back.
use Rattle.std.specs.Prelude.{◌≡◌, ℕ, zero, suc, List, [], ◌∷◌, refl}
use Rattle.std.specs.Coded.{Coded, code_by}
use base.Stored.{Gv, gnil, gnum, gcons, num}
use Rattle.scan_values.specs.Trees.{left, right, itself}
use Rattle.scan_values.specs.DataType.{DataType}
use Rattle.scan_values.specs.DataType as dtypes
use Rattle.scan_values.specs.Val.{Val}
use Rattle.scan_expr.specs.ExprCode as exprs
use Rattle.scan_spelling.specs.declared.spelling.Spelling.{Spelling}
use Rattle.scan_spelling.specs.declared.spelling.Spelling.TheVariants.{One, Two}
use Rattle.scan_layout.specs.LayoutCode.{pairs_tree, tree_pairs, tree_pairs-pairs_tree}
use Rattle.scan_plans.specs.PlanTree.{PlanTree, leaf, rows, evaluate, over, constant, lists, lengths, valid, numbers, by_lengths, PlanTrees, no_plans, plan}
use Rattle.scan_plans.specs.OffsetsData.{OffsetsData, offsets_data}

abbrev pub spelling_tree : Spelling → ℕ
spelling_tree One = 1
spelling_tree Two = 2

abbrev pub tree_spelling : ℕ → Spelling
tree_spelling zero = One
tree_spelling (suc zero) = One
tree_spelling (suc (suc n)) = Two

pub tree_spelling-spelling_tree : (s : Spelling) → tree_spelling (spelling_tree s) ≡ s
tree_spelling-spelling_tree One = refl
tree_spelling-spelling_tree Two = refl

abbrev pub vals_tree : List Val → Gv
vals_tree [] = gnil
vals_tree (v ∷ vs) = gcons (exprs.val_tree v) (vals_tree vs)

abbrev pub tree_vals : Gv → List Val
tree_vals gnil = []
tree_vals (gnum n) = []
tree_vals (gcons a b) = exprs.tree_val a ∷ tree_vals b

pub tree_vals-vals_tree : (vs : List Val) → tree_vals (vals_tree vs) ≡ vs
tree_vals-vals_tree [] = refl
tree_vals-vals_tree (v ∷ vs) = λ i. exprs.tree_val-val_tree v i ∷ tree_vals-vals_tree vs i

abbrev pub offsets_tree : OffsetsData → Gv
offsets_tree o = gcons (dtypes.tree o.dtype) (gcons (gnum (spelling_tree o.spelling)) (gcons (gnum o.elements) (pairs_tree o.segments)))

abbrev pub tree_offsets : Gv → OffsetsData
tree_offsets g = offsets_data (dtypes.read (left g)).0 (tree_spelling (num (left (right g))))
    (tree_pairs (right (right (right g)))) (num (left (right (right g))))

pub tree_offsets-offsets_tree : (o : OffsetsData) → tree_offsets (offsets_tree o) ≡ o
tree_offsets-offsets_tree o = λ i. offsets_data (dtypes.read-tree o.dtype i)
    (tree_spelling-spelling_tree o.spelling i) (tree_pairs-pairs_tree o.segments i) o.elements

abbrev pub offsets_code : Coded OffsetsData
offsets_code = code_by Gv itself offsets_tree tree_offsets tree_offsets-offsets_tree

-- a plan is its tag, what it says besides its parts, and the list of its parts
abbrev mutual
  pub plan_tree : PlanTree → Gv
  plan_tree (leaf d s gs) = gcons (gcons (gnum 0) (gcons (dtypes.tree d) (gcons (gnum (spelling_tree s)) (pairs_tree gs)))) gnil
  plan_tree (rows d vs) = gcons (gcons (gnum 1) (gcons (dtypes.tree d) (vals_tree vs))) gnil
  plan_tree (evaluate d e p) = gcons (gcons (gnum 2) (gcons (dtypes.tree d) (exprs.tree e))) (gcons (plan_tree p) gnil)
  plan_tree (over d e ps) = gcons (gcons (gnum 3) (gcons (dtypes.tree d) (exprs.tree e))) (plan_trees ps)
  plan_tree (constant d e) = gcons (gcons (gnum 4) (gcons (dtypes.tree d) (exprs.tree e))) gnil
  plan_tree (lists d p o) = gcons (gcons (gnum 5) (gcons (dtypes.tree d) (offsets_tree o))) (gcons (plan_tree p) gnil)
  plan_tree (lengths o) = gcons (gcons (gnum 6) (gcons gnil (offsets_tree o))) gnil
  plan_tree (valid p v) = gcons (gcons (gnum 7) gnil) (gcons (plan_tree p) (gcons (plan_tree v) gnil))
  plan_tree (numbers k) = gcons (gcons (gnum 8) (gnum k)) gnil
  plan_tree (by_lengths d e t f p) = gcons (gcons (gnum 9)
      (gcons (gcons (dtypes.tree d) (exprs.tree e)) (gcons (dtypes.tree t) (exprs.tree f))))
      (gcons (plan_tree p) gnil)

  pub plan_trees : PlanTrees → Gv
  plan_trees no_plans = gnil
  plan_trees (plan p ps) = gcons (plan_tree p) (plan_trees ps)

abbrev pub some_plan : PlanTree
some_plan = rows (dtypes.read gnil).0 []

abbrev pub first_plan : PlanTrees → PlanTree
first_plan no_plans = some_plan
first_plan (plan p ps) = p

abbrev pub second_plan : PlanTrees → PlanTree
second_plan no_plans = some_plan
second_plan (plan p ps) = first_plan ps

abbrev pub plan_by_tag : ℕ → Gv → PlanTrees → PlanTree
plan_by_tag zero g ps = leaf (dtypes.read (left g)).0 (tree_spelling (num (left (right g)))) (tree_pairs (right (right g)))
plan_by_tag (suc zero) g ps = rows (dtypes.read (left g)).0 (tree_vals (right g))
plan_by_tag (suc (suc zero)) g ps = evaluate (dtypes.read (left g)).0 (exprs.read (right g)).0 (first_plan ps)
plan_by_tag (suc (suc (suc zero))) g ps = over (dtypes.read (left g)).0 (exprs.read (right g)).0 ps
plan_by_tag (suc (suc (suc (suc zero)))) g ps = constant (dtypes.read (left g)).0 (exprs.read (right g)).0
plan_by_tag (suc (suc (suc (suc (suc zero))))) g ps = lists (dtypes.read (left g)).0 (first_plan ps) (tree_offsets (right g))
plan_by_tag (suc (suc (suc (suc (suc (suc zero)))))) g ps = lengths (tree_offsets (right g))
plan_by_tag (suc (suc (suc (suc (suc (suc (suc zero))))))) g ps = valid (first_plan ps) (second_plan ps)
plan_by_tag (suc (suc (suc (suc (suc (suc (suc (suc zero)))))))) g ps = numbers (num g)
plan_by_tag (suc (suc (suc (suc (suc (suc (suc (suc (suc k))))))))) g ps =
    by_lengths (dtypes.read (left (left g))).0 (exprs.read (right (left g))).0 (dtypes.read (left (right g))).0 (exprs.read (right (right g))).0 (first_plan ps)

abbrev mutual
  pub tree_plan : Gv → PlanTree
  tree_plan gnil = some_plan
  tree_plan (gnum n) = some_plan
  tree_plan (gcons a b) = plan_by_tag (num (left a)) (right a) (tree_plans b)

  pub tree_plans : Gv → PlanTrees
  tree_plans gnil = no_plans
  tree_plans (gnum n) = no_plans
  tree_plans (gcons a b) = plan (tree_plan a) (tree_plans b)

mutual
  pub tree_plan-plan_tree : (p : PlanTree) → tree_plan (plan_tree p) ≡ p
  tree_plan-plan_tree (leaf d s gs) = λ i. leaf (dtypes.read-tree d i) (tree_spelling-spelling_tree s i) (tree_pairs-pairs_tree gs i)
  tree_plan-plan_tree (rows d vs) = λ i. rows (dtypes.read-tree d i) (tree_vals-vals_tree vs i)
  tree_plan-plan_tree (evaluate d e p) = λ i. evaluate (dtypes.read-tree d i) (exprs.read-tree e i) (tree_plan-plan_tree p i)
  tree_plan-plan_tree (over d e ps) = λ i. over (dtypes.read-tree d i) (exprs.read-tree e i) (tree_plans-plan_trees ps i)
  tree_plan-plan_tree (constant d e) = λ i. constant (dtypes.read-tree d i) (exprs.read-tree e i)
  tree_plan-plan_tree (lists d p o) = λ i. lists (dtypes.read-tree d i) (tree_plan-plan_tree p i) (tree_offsets-offsets_tree o i)
  tree_plan-plan_tree (lengths o) = λ i. lengths (tree_offsets-offsets_tree o i)
  tree_plan-plan_tree (valid p v) = λ i. valid (tree_plan-plan_tree p i) (tree_plan-plan_tree v i)
  tree_plan-plan_tree (numbers k) = refl
  tree_plan-plan_tree (by_lengths d e t f p) =
      λ i. by_lengths (dtypes.read-tree d i) (exprs.read-tree e i) (dtypes.read-tree t i) (exprs.read-tree f i)
      (tree_plan-plan_tree p i)

  pub tree_plans-plan_trees : (ps : PlanTrees) → tree_plans (plan_trees ps) ≡ ps
  tree_plans-plan_trees no_plans = refl
  tree_plans-plan_trees (plan p ps) = λ i. plan (tree_plan-plan_tree p i) (tree_plans-plan_trees ps i)

abbrev pub plan_code : Coded PlanTree
plan_code = code_by Gv itself plan_tree tree_plan tree_plan-plan_tree
