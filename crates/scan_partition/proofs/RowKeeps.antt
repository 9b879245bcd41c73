-- What the parts by the row's number and the child keep of the whole.
use Rattle.std.proofs.Common.{◌≡◌, ℕ, pos, ◌<◌, ◌^◌, false, ◌||◌, List, [], ◌∷◌, length, map, refl, ap, ◌∙◌}
use Rattle.scan_values.specs.DataType.{DataType}
use Rattle.scan_values.specs.Marked.{Marked, null, integer, struct}
use Rattle.scan_expr.specs.Bound.{Bound, bound_of}
use Rattle.scan_expr.specs.Infer.{struct_fields}
use Rattle.scan_expr.specs.Eval.{eval}
use Rattle.scan_expr.specs.Expr.{Expr, root, row_index, literal, unary, binary, pack, Parts, no_parts, part, uses_row_index}
use Rattle.scan_expr.proofs.Clean.{any_row}
use Rattle.scan_expr.proofs.Overflowing.{any_row_overflows}
use Rattle.scan_partition.specs.Lift.{lift, lift_all}
use Rattle.scan_partition.specs.Rows.{item_type}
use Rattle.scan_partition.specs.RowDivided.{uses_root, any_uses_root, number_type, over_number, all_over_number, numbered_scope, partition_of, row_divided}
use Rattle.scan_partition.specs.declared.row_idx.Partitioning.TheVariants.{RowIdx, Child, Both}
use Rattle.scan_partition.specs.RowSplit.{read_value, row_parts_overflow, joined_row_overflows, KeepsRows}
use Rattle.scan_partition.specs.Divided.{stepped, group_part}
use Rattle.scan_partition.specs.Partition.{Group, cuts, root_of, groups_of, part_of, step_into, joined_type, stepped_type}
use Rattle.scan_expr.specs.Overflow.{overflows, any_overflows}
use Rattle.scan_partition.proofs.Through.{Seen}
use Rattle.scan_partition.proofs.RowParts.{neither, number_infers, number_seen, both_seen, row_reads, lift_through, lift_plain, rows_joined}
use Rattle.scan_partition.proofs.Lifted.{lift-expanded}
use Rattle.scan_partition.proofs.PartOverflows.{part_overflows, seen_overflows, through_overflows, any_through_overflows, partition_overflows}

module _ (s : DataType) (v : Marked) (k j : ℕ) where
  mutual
    number_overflows : (e : Expr) → uses_root e ≡ false → overflows number_type (over_number e) (integer (pos k)) j ≡ overflows s e v k
    number_overflows root h = refl
    number_overflows row_index h = refl
    number_overflows (literal d m) h = refl
    number_overflows (unary u e) h = number_overflows e h
    number_overflows (binary b x y) h =
        let a = neither (uses_root x) (uses_root y) h in
        let vx = number_seen s v k j x a.0 in
        let vy = number_seen s v k j y a.1 in
        let fx = number_overflows x a.0 in
        let fy = number_overflows y a.1 in
        λ i. fx i || (fy i || seen_overflows b (vx i) (vy i))
    number_overflows (pack ps n) h = all_number_overflows ps h

    all_number_overflows : (ps : Parts) → any_uses_root ps ≡ false → any_overflows number_type (all_over_number ps) (integer (pos k)) j ≡ any_overflows s ps v k
    all_number_overflows no_parts h = refl
    all_number_overflows (part n e ps) h =
        let a = neither (uses_root e) (any_uses_root ps) h in
        let fx = number_overflows e a.0 in
        let fy = all_number_overflows ps a.1 in
        λ i. fx i || fy i

  mutual
    lift_overflows : (e : Expr) → through_overflows (row_reads s v k j) j (lift e) ≡ overflows s e v k
    lift_overflows root = refl
    lift_overflows row_index = refl
    lift_overflows (literal d m) = refl
    lift_overflows (unary u e) = lift_overflows e
    lift_overflows (binary b x y) =
        let vx = lift_through s v k j x in
        let vy = lift_through s v k j y in
        let fx = lift_overflows x in
        let fy = lift_overflows y in
        λ i. fx i || (fy i || seen_overflows b (vx i) (vy i))
    lift_overflows (pack ps n) = lift_all_overflows ps

    lift_all_overflows : (ps : Parts) → any_through_overflows (row_reads s v k j) j (lift_all ps) ≡ any_overflows s ps v k
    lift_all_overflows no_parts = refl
    lift_all_overflows (part n e ps) =
        let fx = lift_overflows e in
        let fy = lift_all_overflows ps in
        λ i. fx i || fy i

  rows_overflow : (gs : List Group) → row_parts_overflow v k j (map partition_of (map (λ (g : Group). g.0) gs)) (map (group_part (stepped (numbered_scope s))) gs) ≡ part_overflows (row_reads s v k j) j gs
  rows_overflow [] = refl
  rows_overflow (g ∷ gs) = ap (λ b. overflows (item_type (struct_fields (numbered_scope s)) g.0) (step_into (part_of g.1)) (read_value v k (partition_of g.0)) j || b) (rows_overflow gs)

-- ---- what the parts keep of the whole
pub number_keeps : (b : Bound) → uses_root b.expr ≡ false → KeepsRows b (RowIdx (bound_of number_type (over_number b.expr)))
number_keeps b h = record {
  dtype = number_infers b.scope b.expr h;
  values = λ v k j. ap (λ (x : Seen). x.1) (number_seen b.scope v k j b.expr h);
  overflow = λ v k j. number_overflows b.scope v k j b.expr h;
}

pub child_keeps : (b : Bound) → uses_row_index b.expr ≡ false → KeepsRows b (Child (bound_of b.scope b.expr))
child_keeps b h = record {
  dtype = refl;
  values = λ v k j. any_row b.scope b.expr v j k h;
  overflow = λ v k j. any_row_overflows b.scope b.expr v j k h;
}

both_overflow : (s : DataType) (e : Expr) → length (cuts (lift e)) < 2 ^ 64 → (v : Marked) (k j : ℕ) → joined_row_overflows (row_divided s e) v k j ≡ overflows s e v k
both_overflow s e few v k j =
    let values = rows_joined s v k j (groups_of (cuts (lift e))) in
    let parts = rows_overflow s v k j (groups_of (cuts (lift e))) in
    (λ i. overflows (joined_type (stepped_type (item_type (struct_fields (numbered_scope s)))) (cuts (lift e))) (root_of (cuts (lift e)) [] (lift e)) (struct (values i)) j || parts i)
    ∙ partition_overflows (row_reads s v k j) j (lift e) (lift-expanded e) (lift_plain s e) few ∙ lift_overflows s v k j e

pub both_keeps : (b : Bound) → length (cuts (lift b.expr)) < 2 ^ 64 → KeepsRows b (Both (row_divided b.scope b.expr))
both_keeps b few = record {
  dtype = ap (λ (x : Seen). x.0) (both_seen b.scope null 0 0 b.expr few);
  values = λ v k j.
      ap (λ ms. eval (joined_type (stepped_type (item_type (struct_fields (numbered_scope b.scope)))) (cuts (lift b.expr))) (root_of (cuts (lift b.expr)) [] (lift b.expr)) (struct ms) j) (rows_joined b.scope v k j (groups_of (cuts (lift b.expr))))
      ∙ ap (λ (x : Seen). x.1) (both_seen b.scope v k j b.expr few);
  overflow = both_overflow b.scope b.expr few;
}
