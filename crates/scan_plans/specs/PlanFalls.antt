-- Each plan of several is smaller than all of them.
use Rattle.std.specs.Prelude.{◌≤◌, ◌+◌, max, List, [], ◌∷◌}
use Rattle.std.proofs.Common.{arith}
use denote.Param.Weighed.{most}
use Rattle.scan_plans.specs.PlanTree.{PlanTree, tree_size, trees_size, plans}

pub most-plans : (ps : List PlanTree) → max (most (λ p. tree_size p + 1) ps) 0 ≤ trees_size (plans ps)
most-plans [] = omega arith
most-plans (p ∷ ps) = omega (arith, most-plans ps)
