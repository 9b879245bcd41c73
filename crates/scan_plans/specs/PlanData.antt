-- What a contract sees of a plan: the expression that it was made of, and the tree of its nodes.
use Rattle.std.specs.Prelude.{◌≡◌, List, [], ◌∷◌, map, refl}
use Rattle.std.specs.Coded.{Coded, code_by, coded×}
use Rattle.std.specs.declared.alloc.Global.{Global}
use Rattle.std.specs.declared.sync.Arc.{Arc}
use Rattle.scan_expr.specs.Bound.{Bound, bound_code}
use Rattle.scan_expr.specs.Infer.{infer}
use Rattle.scan_plans.specs.PlanTree.{PlanTree}
use Rattle.scan_plans.specs.PlanCode.{plan_code}
use Rattle.scan_plans.specs.Meaning.{plan_dtype}

pub record PlanData : Type 0 where
  pub expr : Bound
  pub tree : PlanTree

abbrev pub plan_data_code : Coded PlanData
plan_data_code = code_by (Bound × PlanTree) (coded× bound_code plan_code) (λ a. (a.expr, a.tree)) (λ p. record { expr = p.0; tree = p.1 }) (λ _. refl)

abbrev pub plan_data : Bound → PlanTree → PlanData
plan_data e p = record { expr = e; tree = p }

-- the values have the expression's dtype
abbrev pub IsPlan : PlanData → Type 0
IsPlan a = plan_dtype a.tree ≡ infer (a.expr).scope (a.expr).expr

-- a fact of each of several plans
abbrev pub EachPlan : (PlanData → Type 0) → List PlanData → Type 0
EachPlan P [] = Unit {0}
EachPlan P (p ∷ ps) = P p × EachPlan P ps

-- what shared plans are
abbrev pub plans_of : List (Arc PlanData Global) → List PlanData
plans_of rs = map (λ r. r.value) rs
