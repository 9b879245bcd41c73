-- Arrays that hold the values of parts by the row's number and the child, joined.
use Rattle.std.proofs.Common.{◌≡◌, ℕ, List, [], ◌∷◌, map, ap, ◌∙◌, refl}
use Rattle.std.specs.List.{range_with_len}
use Rattle.scan_values.specs.DataType.{DataType}
use Rattle.scan_values.specs.Arrays.{ArrayData}
use Rattle.scan_values.specs.Marked.{Marked, struct, more}
use Rattle.scan_values.specs.Val.{Val}
use Rattle.scan_expr.specs.Bound.{Bound}
use Rattle.scan_expr.specs.Eval.{eval}
use Rattle.scan_expr.proofs.Clean.{any_row}
use Rattle.scan_partition.specs.declared.item.Item.{Item}
use Rattle.scan_partition.specs.Divided.{Divided}
use Rattle.scan_partition.specs.Split.{part_values, joined_value_of}
use Rattle.scan_partition.specs.Joining.{HoldParts, JoinsParts}
use Rattle.scan_partition.specs.RowDivided.{partition_of}
use Rattle.scan_partition.specs.RowSplit.{read_value, row_values, joined_row, PartsOver}
use Rattle.scan_partition.specs.RowJoining.{HoldRowParts, JoinsRows}
use Rattle.scan_partition.proofs.RowParts.{rows_of}

module _ (v : ℕ → Marked) (k : ℕ → ℕ) where
  -- what an item of the struct of both reads
  abbrev reads : ℕ → Item → Marked
  reads r i = read_value (v r) (k r) (partition_of i)

  hold : (s : DataType) (n : ℕ) (is : List Item) (ps : List Bound) (xs : List ArrayData) → PartsOver s (map partition_of is) ps → HoldRowParts v k n (map partition_of is) ps xs → HoldParts reads n is ps xs
  hold s n [] ps xs o h = tt
  hold s n (i ∷ is) [] xs o h = tt
  hold s n (i ∷ is) (p ∷ ps) [] o h = tt
  hold s n (i ∷ is) (p ∷ ps) (a ∷ xs) o h = (h.0.1 ∙ (λ t. map (λ r. any_row p.scope p.expr (reads r i) (h.0.0 r) r o.0.1 t) (range_with_len 0 n)), hold s n is ps xs o.1 h.1)

  values_are : (r : ℕ) (is : List Item) (ps : List Bound) → part_values (reads r) r is ps ≡ row_values (v r) (k r) r (map partition_of is) ps
  values_are r [] ps = refl
  values_are r (i ∷ is) [] = refl
  values_are r (i ∷ is) (p ∷ ps) = ap (more (eval p.scope p.expr (reads r i) r)) (values_are r is ps)

  joined_is : (d : Divided) (r : ℕ) → joined_value_of d (reads r) r ≡ joined_row (rows_of (map partition_of d.items) d) (v r) (k r) r
  joined_is d r = ap (λ ms. eval d.root.scope d.root.expr (struct ms) r) (values_are r d.items d.parts)

pub rows_join : (d : Divided) (xs : List ArrayData) (n : ℕ) (vs : List Val) → JoinsParts d xs n vs → JoinsRows (rows_of (map partition_of d.items) d) xs n vs
rows_join d xs n vs join b v k keeps over h =
    join (reads v k) (hold v k b.scope n d.items d.parts xs over.0 h) ∙ (λ t. map (λ r. (joined_is v k d r ∙ keeps.values (v r) (k r) r) t) (range_with_len 0 n))
