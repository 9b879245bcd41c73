-- The plans that a reader keeps, by their expressions.
use Rattle.std.specs.Prelude.{◌≡◌, List, [], ◌∷◌, ◌++◌, Option, Some, None, map, if◌then◌else◌, Result, Ok, Err}
use Rattle.std.specs.declared.alloc.Global.{Global}
use Rattle.std.specs.declared.sync.Arc.{Arc}
use Rattle.scan_expr.specs.Bound.{Bound}
use Rattle.scan_expr.specs.Same.{same_bound}
use Rattle.scan_values.specs.declared.memory.NoMemory.{NoMemory}
use Rattle.scan_plans.specs.PlanData.{PlanData}

-- the plan that is kept of an expression
abbrev pub Kept : Type 0
Kept = Bound → Option PlanData

-- what is kept stays kept
pub record Stay (old new : Kept) : Type 0 where
  pub stay : (e : Bound) (p : PlanData) → old e ≡ Some p → new e ≡ Some p

-- the first plan of an expression
abbrev pub find_plan : List PlanData → Bound → Option PlanData
find_plan [] e = None
find_plan (p ∷ ps) e = if same_bound p.expr e then Some p else find_plan ps e

-- a plan of an expression is kept beside the others, or nothing is
abbrev pub Makes : List PlanData → List PlanData → Bound → Result (Arc PlanData Global) NoMemory → Type 0
Makes old new e (Ok p) = ((p.value).expr ≡ e) × (new ≡ old ++ p.value ∷ [])
Makes old new e (Err f) = new ≡ old
