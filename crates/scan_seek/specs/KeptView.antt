-- What is kept of a file, as it stands in memory.
use Rattle.std.specs.Prelude.{◌≡◌, [], None}
use Rattle.scan_expr.specs.Bound.{Bound}
use Rattle.scan_layout.specs.Check.{first_fault}
use Rattle.scan_layout.specs.Layout.{Layout}
use Rattle.scan_plans.specs.PlanData.{PlanData}
use Rattle.scan_readers.specs.LeafPlans.{layout_state}
use Rattle.scan_readers.specs.PlanOf.{IsPlanOf}
use Rattle.scan_readers.specs.RowIdxData.{numbered_state}
use Rattle.scan_seek.specs.KeptData.{KeptData, unopened, skipped, flawed, ready}
use Rattle.scan_seek.specs.declared.keeping.Kind.{Kind}
use Rattle.scan_seek.specs.declared.keeping.Kind.TheVariants as kind

abbrev pub kept_of : Kind → KeptData
kept_of kind.Unopened = unopened
kept_of kind.Skipped = skipped
kept_of (kind.Flawed layout) = flawed layout.value
kept_of (kind.Ready layout plan) = ready layout.value (plan.value).expr

-- a plan of an expression over the rows of a layout, which are numbered from 0 on
abbrev pub IsPlanOver : Layout → Bound → PlanData → Type 0
IsPlanOver l e p = IsPlanOf (numbered_state 0 (layout_state [] l)) e p

-- the plan is one over the layout, which has no fault
abbrev pub HasPlan : Kind → Type 0
HasPlan kind.Unopened = Unit {0}
HasPlan kind.Skipped = Unit {0}
HasPlan (kind.Flawed layout) = Unit {0}
HasPlan (kind.Ready layout plan) = (first_fault layout.value ((plan.value).expr).scope ≡ None) × IsPlanOver layout.value (plan.value).expr plan.value
