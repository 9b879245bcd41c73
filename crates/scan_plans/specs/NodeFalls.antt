-- Each part of a node is smaller than the node.
use Rattle.std.specs.Prelude.{◌≤◌, max}
use Rattle.std.proofs.Common.{arith}
use Rattle.scan_plans.specs.PlanTree.{tree_size}
use Rattle.scan_plans.specs.PlanView.{plan_of}
use Rattle.scan_plans.specs.declared.node.Kind.{Kind}
use Rattle.scan_plans.specs.declared.node.Kind.TheVariants.{Leaf, Rows, Evaluate, Over, Constant, Lists, Lengths, Valid, Numbers, ByLengths}
use Rattle.scan_plans.specs.declared.node.PlanNode.TheDeep.{deep-Kind}

pub kind_falls : (k : Kind) → max (deep-Kind k) 0 ≤ tree_size (plan_of k)
kind_falls (Leaf d s runs) = omega arith
kind_falls (Rows array) = omega arith
kind_falls (Evaluate b p) = omega arith
kind_falls (Over b ps) = omega arith
kind_falls (Constant b) = omega arith
kind_falls (Lists d p o) = omega arith
kind_falls (Lengths o) = omega arith
kind_falls (Valid p v) = omega arith
kind_falls (Numbers k) = omega arith
kind_falls (ByLengths b l p) = omega arith
