-- Parts by the row's number and the child, evaluated and joined row by row.
use Rattle.std.specs.Prelude.{◌≡◌, ℕ, List, [], ◌∷◌, map}
use Rattle.std.specs.List.{range_with_len}
use Rattle.scan_values.specs.Arrays.{ArrayData}
use Rattle.scan_values.specs.Marked.{Marked}
use Rattle.scan_values.specs.Val.{Val, marked}
use Rattle.scan_expr.specs.Bound.{Bound}
use Rattle.scan_expr.specs.Eval.{eval}
use Rattle.scan_partition.specs.declared.row_idx.Partition.{Partition}
use Rattle.scan_partition.specs.declared.row_idx.Partitioning.TheVariants.{Both}
use Rattle.scan_partition.specs.RowDivided.{RowDivided}
use Rattle.scan_partition.specs.RowSplit.{read_value, KeepsRows, AreOver}

-- an array holds a part's values on what is read in each row, whatever number of the row the part was told
abbrev pub HoldsPart : (ℕ → Marked) → ℕ → Bound → ArrayData → Type 0
HoldsPart w n p a = (j : ℕ → ℕ) × (map marked a.items ≡ map (λ r. eval p.scope p.expr (w r) (j r)) (range_with_len 0 n))

-- each array, where row r has the number k r and the child's value v r
abbrev pub HoldRowParts : (ℕ → Marked) → (ℕ → ℕ) → ℕ → List Partition → List Bound → List ArrayData → Type 0
HoldRowParts v k n [] ps xs = Unit {0}
HoldRowParts v k n (i ∷ is) [] xs = Unit {0}
HoldRowParts v k n (i ∷ is) (p ∷ ps) [] = Unit {0}
HoldRowParts v k n (i ∷ is) (p ∷ ps) (a ∷ xs) = HoldsPart (λ r. read_value (v r) (k r) i) n p a × HoldRowParts v k n is ps xs

-- such arrays join to the values of an expression of which the parts keep the whole
abbrev pub JoinsRows : RowDivided → List ArrayData → ℕ → List Val → Type 0
JoinsRows d xs n vs =
    (b : Bound) (v : ℕ → Marked) (k : ℕ → ℕ) → KeepsRows b (Both d) → AreOver b.scope (Both d)
    → HoldRowParts v k n d.items d.parts xs
    → map marked vs ≡ map (λ r. eval b.scope b.expr (v r) (k r)) (range_with_len 0 n)
