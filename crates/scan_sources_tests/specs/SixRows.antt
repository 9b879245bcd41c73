-- Splits of six rows.
use Rattle.std.specs.Prelude.{◌≡◌, ◌≤◌, ◌==◌, ℕ, List, [], ◌∷◌, length, None, Result, Ok, Err, if◌then◌else◌}
use Rattle.scan_values.specs.Arrays.{ArrayData}
use Rattle.scan_values.specs.DataType.{DataType, int_type}
use Rattle.scan_values.specs.declared.ptype.Nullability.TheVariants.{NonNullable}
use Rattle.scan_values.specs.declared.ptype.PType.TheVariants.{I32}
use Rattle.scan_plans.specs.Meaning.{Within, plan_dtype}
use Rattle.scan_streams.specs.Plans.{PlansData}
use Rattle.scan_streams.specs.declared.queue.SplitRows.{SplitRows}

-- numbers of i32, without null
abbrev pub int : DataType
int = int_type I32 NonNullable

-- the rows from one up to another
abbrev pub part : ℕ → ℕ → SplitRows
part a b = record { range = record { start = a; end = b }; most = None }

-- all six rows, cut before these two
abbrev pub parts : ℕ → ℕ → List SplitRows
parts a b = part 0 a ∷ part a b ∷ part b 6 ∷ []

-- plans of six numbers, without a filter
pub record AreOfSix (p : PlansData) : Type 0 where
  pub none : p.conjuncts ≡ []
  pub dtype : plan_dtype (p.projection).tree ≡ int
  pub rows : (n : ℕ) → n ≤ 6 → Within (p.projection).tree n

-- the array itself, unless it has so many rows
abbrev pub unless_of : ℕ → ArrayData → Result ArrayData ℕ
unless_of count a = if length a.items == count then Err count else Ok a
