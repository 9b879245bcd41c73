-- Laws of what the plans of readers want.
use Rattle.std.specs.Prelude.{◌≡◌, ◌≤◌, ◌+◌, ◌&&◌, ℕ, Bool, true, List, length, nat_le, nat_lt}
use Rattle.std.specs.List.{list_all}
use Rattle.scan_segments.specs.Source.{Store}
use Rattle.scan_expr.specs.Bound.{Bound}
use Rattle.scan_plans.specs.Came.{Came, Holds}
use Rattle.scan_plans.specs.Meaning.{true_rows}
use Rattle.scan_plans.specs.PlanData.{PlanData}
use Rattle.scan_plans.specs.Wants.{wanted, names_id}
use Rattle.scan_readers.specs.PlanOf.{IsPlanOf, may_want}
use Rattle.scan_readers.specs.Readers.{ReaderState}

-- each of these rows lies from a start on and before an end
abbrev pub AreBetween : ℕ → ℕ → List ℕ → Type 0
AreBetween start end is = list_all (λ i. nat_le start i && nat_lt i end) is ≡ true

-- Of a mask of which the true rows lie between a start and an end a plan wants only what the rows between these touch,
-- where the expression needs it.
abbrev pub PlansWantBetween : Type 0
PlansWantBetween = (s : ReaderState) (e : Bound) (p : PlanData) → IsPlanOf s e p
    → (store : Store) (here : Came) (first start end : ℕ) (mask : List Bool) (id : ℕ) → Holds store here → first + length mask ≤ s.rows
    → first ≤ start → start ≤ end → end ≤ first + length mask → AreBetween start end (true_rows first mask)
    → names_id id (wanted p.tree here (true_rows first mask)) ≡ true
    → may_want s e store start end id ≡ true
