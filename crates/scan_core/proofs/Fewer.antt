-- A plan that has so many rows has fewer.
use Rattle.std.proofs.Common.{◌≤◌, ℕ, List, [], ◌∷◌}
use Rattle.scan_plans.specs.PlanData.{PlanData, EachPlan}
use Rattle.scan_plans.proofs.ListWants.{within_fewer}
use Rattle.scan_streams.specs.Plans.{PlansData, IsConjunct, ReachTo}

each_fewer : (n m : ℕ) (ps : List PlanData) → m ≤ n → EachPlan (IsConjunct n) ps → EachPlan (IsConjunct m) ps
each_fewer n m [] l h = tt
each_fewer n m (p ∷ ps) l h = ((within_fewer p.tree n m l (h.0).0, (h.0).1), each_fewer n m ps l h.1)

pub reach_fewer : (p : PlansData) (n m : ℕ) → m ≤ n → ReachTo n p → ReachTo m p
reach_fewer p n m l h = record { conjuncts = each_fewer n m p.conjuncts l h.conjuncts; projection = within_fewer (p.projection).tree n m l h.projection }
