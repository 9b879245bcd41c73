-- The plan that a node is.
use Rattle.scan_plans.specs.PlanTree.{PlanTree, leaf, rows, evaluate, over, constant, lists, lengths, valid, numbers, by_lengths, plans}
use Rattle.scan_plans.specs.declared.node.Kind.{Kind}
use Rattle.scan_plans.specs.declared.node.Kind.TheVariants.{Leaf, Rows, Evaluate, Over, Constant, Lists, Lengths, Valid, Numbers, ByLengths}

abbrev pub plan_of : Kind → PlanTree
plan_of (Leaf d s runs) = leaf d.value s runs.value
plan_of (Rows array) = rows (array.value).dtype (array.value).items
plan_of (Evaluate b p) = evaluate b.scope b.expr p.value
plan_of (Over b ps) = over b.scope b.expr (plans ps)
plan_of (Constant b) = constant b.scope b.expr
plan_of (Lists d p o) = lists d.value p.value o
plan_of (Lengths o) = lengths o
plan_of (Valid p v) = valid p.value v.value
plan_of (Numbers k) = numbers k
plan_of (ByLengths b l p) = by_lengths b.scope b.expr l.scope l.expr p.value
