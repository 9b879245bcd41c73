-- An expression by the row's number and the child, and what its parts give together.
use Rattle.std.specs.Prelude.{◌≡◌, ◌≤◌, ℕ, pos, Bool, true, false, ◌||◌, List, [], ◌∷◌}
use Rattle.scan_values.specs.DataType.{DataType, depth_of}
use Rattle.scan_values.specs.Marked.{Marked, integer, struct, Markeds, none, more}
use Rattle.scan_expr.specs.Bound.{Bound, bound_of}
use Rattle.scan_expr.specs.Infer.{infer}
use Rattle.scan_expr.specs.Eval.{eval}
use Rattle.scan_expr.specs.Overflow.{overflows}
use Rattle.scan_expr.specs.Expr.{Expr, uses_row_index}
use Rattle.scan_partition.specs.Shallow.{IsPart}
use Rattle.scan_partition.specs.declared.row_idx.Partition.{Partition}
use Rattle.scan_partition.specs.declared.row_idx.Partition.TheVariants.{RowIdx as TheRowIdx, Child as TheChild}
use Rattle.scan_partition.specs.declared.row_idx.Partitioning.{Partitioning}
use Rattle.scan_partition.specs.declared.row_idx.Partitioning.TheVariants.{RowIdx, Child, Both}
use Rattle.scan_partition.specs.RowDivided.{RowDivided, uses_root, number_type, over_number, row_divided}

-- as binding gives it: neither the scope nor a node is deep
pub record IsOverRows (b : Bound) : Type 0 where
  pub scope : depth_of b.scope ≤ 64
  pub nodes : IsPart b.scope b.expr

-- by whether the row's number stands in it, and whether `$` does
abbrev pub row_split_by : Bool → Bool → DataType → Expr → Partitioning
row_split_by true false s e = RowIdx (bound_of number_type (over_number e))
row_split_by false true s e = Child (bound_of s e)
row_split_by true true s e = Both (row_divided s e)
row_split_by false false s e = Both (row_divided s e)

abbrev pub row_split : DataType → Expr → Partitioning
row_split s e = row_split_by (uses_row_index e) (uses_root e) s e

-- ---- on a row of the number k, where the child's value is v
abbrev pub read_value : Marked → ℕ → Partition → Marked
read_value v k TheRowIdx = integer (pos k)
read_value v k TheChild = v

-- the value of each part, on what it reads; j stands for a row's number, of which no part knows
abbrev pub row_values : Marked → ℕ → ℕ → List Partition → List Bound → Markeds
row_values v k j [] ps = none
row_values v k j (i ∷ is) [] = none
row_values v k j (i ∷ is) (p ∷ ps) = more (eval p.scope p.expr (read_value v k i) j) (row_values v k j is ps)

abbrev pub joined_row : RowDivided → Marked → ℕ → ℕ → Marked
joined_row d v k j = eval d.root.scope d.root.expr (struct (row_values v k j d.items d.parts)) j

-- some part overflows, on what it reads
abbrev pub row_parts_overflow : Marked → ℕ → ℕ → List Partition → List Bound → Bool
row_parts_overflow v k j [] ps = false
row_parts_overflow v k j (i ∷ is) [] = false
row_parts_overflow v k j (i ∷ is) (p ∷ ps) = overflows p.scope p.expr (read_value v k i) j || row_parts_overflow v k j is ps

-- the root does, over the parts' values, or some part
abbrev pub joined_row_overflows : RowDivided → Marked → ℕ → ℕ → Bool
joined_row_overflows d v k j = overflows d.root.scope d.root.expr (struct (row_values v k j d.items d.parts)) j || row_parts_overflow v k j d.items d.parts

-- the dtype of the whole, its value on each row, and where it overflows
pub record KeepsRow (b : Bound) (d : DataType) (f : Marked → ℕ → ℕ → Marked) (g : Marked → ℕ → ℕ → Bool) : Type 0 where
  pub dtype : d ≡ infer b.scope b.expr
  pub values : (v : Marked) (k j : ℕ) → f v k j ≡ eval b.scope b.expr v k
  pub overflow : (v : Marked) (k j : ℕ) → g v k j ≡ overflows b.scope b.expr v k

abbrev pub KeepsRows : Bound → Partitioning → Type 0
KeepsRows b (RowIdx p) = KeepsRow b (infer p.scope p.expr) (λ v k j. eval p.scope p.expr (integer (pos k)) j)
    (λ v k j. overflows p.scope p.expr (integer (pos k)) j)
KeepsRows b (Child p) = KeepsRow b (infer p.scope p.expr) (λ v k j. eval p.scope p.expr v j) (λ v k j. overflows p.scope p.expr v j)
KeepsRows b (Both d) = KeepsRow b (infer d.root.scope d.root.expr) (joined_row d) (joined_row_overflows d)

-- ---- what the parts are over
abbrev pub read_type : DataType → Partition → DataType
read_type s TheRowIdx = number_type
read_type s TheChild = s

-- over this dtype, and no row's number stands in it
abbrev pub IsPartOver : DataType → Bound → Type 0
IsPartOver s p = (p.scope ≡ s) × (uses_row_index p.expr ≡ false)

abbrev pub PartsOver : DataType → List Partition → List Bound → Type 0
PartsOver s [] [] = Unit {0}
PartsOver s (i ∷ is) (p ∷ ps) = IsPartOver (read_type s i) p × PartsOver s is ps
PartsOver s _ _ = ⊥

-- each part is over what it reads, and no row's number stands in a part or in the root
abbrev pub AreOver : DataType → Partitioning → Type 0
AreOver s (RowIdx p) = IsPartOver number_type p
AreOver s (Child p) = IsPartOver s p
AreOver s (Both d) = PartsOver s d.items d.parts × (uses_row_index d.root.expr ≡ false)
