-- What a reader makes of an expression.
use Rattle.std.specs.Prelude.{◌≡◌, ◌≤◌, ◌<◌, ◌+◌, ◌==◌, ◌&&◌, ℕ, Bool, true, false, List, [], length, filter, IfSome, if◌then◌else◌}
use Rattle.std.specs.List.{list_any}
use Rattle.scan_segments.specs.Source.{Store}
use Rattle.scan_spelling.specs.Places.{Place}
use Rattle.scan_expr.specs.Bound.{Bound}
use Rattle.scan_expr.specs.Expr.{uses_row_index}
use Rattle.scan_expr.specs.Infer.{infer}
use Rattle.scan_expr.specs.Needs.{needed}
use Rattle.scan_plans.specs.Came.{Came, Holds}
use Rattle.scan_plans.specs.Formed.{reads}
use Rattle.scan_plans.specs.Meaning.{value_at, overflow_at, plan_dtype, true_rows, Within}
use Rattle.scan_plans.specs.PlanData.{PlanData}
use Rattle.scan_plans.specs.Pruning.{is_numbered}
use Rattle.scan_plans.specs.Wants.{wanted, names_id, spoiled}
use Rattle.scan_readers.specs.Readers.{ReaderState, numbers_alone, value_of, overflows_at}

-- of these segments those at a path that an expression needs
abbrev pub needed_places : Bound → List Place → List Place
needed_places e places = filter (λ (p : Place). needed e.scope e.expr p.path) places

-- some of the segments that the rows of a range touch, where the expression needs them, has this id
abbrev pub may_want : ReaderState → Bound → Store → ℕ → ℕ → ℕ → Bool
may_want s e store start end id = names_id id (needed_places e (s.touched store start end))

-- some of these segments has this id, and what a store has of it there is no good
abbrev pub names_flawed : ReaderState → Store → ℕ → List Place → Bool
names_flawed s store id places = list_any (λ (p : Place). (p.id == id) && s.flawed store p) places

-- some of the segments that the rows of a range touch, where the expression needs them, has this id and is no good
abbrev pub may_spoil : ReaderState → Bound → Store → ℕ → ℕ → ℕ → Bool
may_spoil s e store start end id = names_flawed s store id (needed_places e (s.touched store start end))

-- what an expression wants of a reader that tells the segments that rows want: these, and nothing where it reads nothing
abbrev pub held : Bound → (List ℕ → List Place) → List ℕ → List Place
held e holding is = if reads e.scope e.expr then holding is else []

-- A plan of an expression over a reader's rows. Each row has the expression's value, and overflows where that does.
-- What it wants the rows touch, at paths that the expression needs, and what it finds no good there is no good. It is one
-- over row numbers where the expression reads these alone. Where it reads none it wants just the segments that a reader
-- tells.
pub record IsPlanOf (s : ReaderState) (e : Bound) (p : PlanData) : Type 0 where
  pub expr : p.expr ≡ e
  pub numbered : is_numbered p.tree ≡ numbers_alone s e.expr
  pub dtype : plan_dtype p.tree ≡ infer e.scope e.expr
  pub rows : Within p.tree s.rows
  pub value : (store : Store) (i : ℕ) → i < s.rows → value_at p.tree store i ≡ value_of s e store i
  pub overflow : (store : Store) (i : ℕ) → i < s.rows → overflow_at p.tree store i ≡ overflows_at s e store i
  pub wants : (store : Store) (here : Came) (first : ℕ) (mask : List Bool) (id : ℕ) → Holds store here
      → first + length mask ≤ s.rows → names_id id (wanted p.tree here (true_rows first mask)) ≡ true
      → may_want s e store first (first + length mask) id ≡ true
  pub spoils : (store : Store) (here : Came) (first : ℕ) (mask : List Bool) (id : ℕ) → Holds store here → first + length mask ≤ s.rows
      → spoiled p.tree here (true_rows first mask) id ≡ true → may_spoil s e store first (first + length mask) id ≡ true
  pub exact : uses_row_index e.expr ≡ false
      → IfSome s.holding (λ holding. (here : Came) (is : List ℕ) → wanted p.tree here is ≡ held e holding is)
