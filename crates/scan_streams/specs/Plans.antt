-- The plans of a scan, and the future of a split.
use Rattle.std.specs.Prelude.{◌≡◌, ℕ, Bool, true, false, List, [], ◌∷◌, map, refl}
use Rattle.std.specs.Coded.{Coded, code_by, coded×, coded_list}
use Rattle.scan_values.specs.Fits.{is_bool_type}
use Rattle.scan_plans.specs.Futures.{FutureData, future_data}
use Rattle.scan_plans.specs.Masks.{Filter, mask_data}
use Rattle.scan_plans.specs.Meaning.{Within, plan_dtype}
use Rattle.scan_plans.specs.PlanData.{PlanData, plan_data_code, EachPlan, plans_of}

-- the plans of a scan's conjuncts, in the order in which they run, and of its projection
pub record PlansData : Type 0 where
  pub conjuncts : List PlanData
  pub projection : PlanData

abbrev pub plans_data : List PlanData → PlanData → PlansData
plans_data cs p = record { conjuncts = cs; projection = p }

abbrev pub plans_code : Coded PlansData
plans_code = code_by (List PlanData × PlanData) (coded× (coded_list plan_data_code) plan_data_code)
    (λ a. (a.conjuncts, a.projection)) (λ p. record { conjuncts = p.0; projection = p.1 }) (λ _. refl)

-- a Bool plan that has so many rows
abbrev pub IsConjunct : ℕ → PlanData → Type 0
IsConjunct n p = Within p.tree n × (is_bool_type (plan_dtype p.tree) ≡ true)

-- each plan has so many rows, and the conjuncts are Bool
pub record ReachTo (n : ℕ) (p : PlansData) : Type 0 where
  pub conjuncts : EachPlan (IsConjunct n) p.conjuncts
  pub projection : Within (p.projection).tree n

-- plans that are to be true of a mask which begins at this row of each
abbrev pub filters_from : ℕ → List PlanData → List Filter
filters_from first ps = map (λ (p : PlanData). (p.tree, first)) ps

-- the projection at those rows of a mask, which begins at a row, at which each conjunct is true
abbrev pub split_data : PlansData → ℕ → List Bool → FutureData
split_data p first mask = future_data p.projection first (mask_data mask (filters_from first p.conjuncts))

-- there are conjuncts
abbrev pub is_some_plan : List PlanData → Bool
is_some_plan [] = false
is_some_plan (c ∷ cs) = true

abbrev pub has_filter : PlansData → Bool
has_filter p = is_some_plan p.conjuncts
