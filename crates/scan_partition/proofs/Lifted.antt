-- Partitioning by row numbers and the scope.
use Rattle.std.proofs.Common.{◌≡◌, ℕ, ◌<◌, ◌^◌, [], length, refl, ap, ◌∙◌}
use Rattle.scan_values.specs.DataType.{DataType}
use Rattle.scan_values.specs.Marked.{Marked}
use Rattle.scan_partition.specs.Items.{IsExpanded, AreExpanded}
use Rattle.scan_partition.specs.Lift.{lift, lift_all, row_item_type, row_item_value}
use Rattle.scan_partition.specs.Rows.{AllPlain}
use Rattle.scan_partition.specs.Partition.{Reads, cuts, root_of}
use Rattle.scan_expr.specs.Expr.{Expr, root, row_index, literal, unary, binary, pack, Parts, no_parts, part}
use Rattle.scan_partition.proofs.Through.{seen, seen_all, seen_unary, seen_pack, same_binary, same_part, through, through_all}
use Rattle.scan_partition.proofs.Parted.{whole, partition_seen}
use Rattle.scan_partition.proofs.Expanded.{through-under, under-expanded}

mutual
  pub lift-expanded : (e : Expr) → IsExpanded (lift e)
  lift-expanded root = tt
  lift-expanded row_index = tt
  lift-expanded (literal d m) = tt
  lift-expanded (unary u e) = under-expanded u (lift e) (lift-expanded e)
  lift-expanded (binary b x y) = (lift-expanded x, lift-expanded y)
  lift-expanded (pack ps n) = lift_all-expanded ps

  pub lift_all-expanded : (ps : Parts) → AreExpanded (lift_all ps)
  lift_all-expanded no_parts = tt
  lift_all-expanded (part n e ps) = (lift-expanded e, lift_all-expanded ps)

module _ (s : DataType) (v : Marked) (k : ℕ) where
  abbrev pub row_reads : Reads
  row_reads i = (row_item_type s i, row_item_value v k i)

  mutual
    pub lift_seen : (e : Expr) → through row_reads k (lift e) ≡ seen s v k e
    lift_seen root = refl
    lift_seen row_index = refl
    lift_seen (literal d m) = refl
    lift_seen (unary u e) = through-under row_reads k u (lift e) (lift-expanded e) ∙ ap (seen_unary u) (lift_seen e)
    lift_seen (binary b x y) = same_binary b _ _ _ _ (lift_seen x) (lift_seen y)
    lift_seen (pack ps n) = ap (seen_pack n) (lift_all_seen ps)

    pub lift_all_seen : (ps : Parts) → through_all row_reads k (lift_all ps) ≡ seen_all s v k ps
    lift_all_seen no_parts = refl
    lift_all_seen (part n e ps) = same_part n _ _ _ _ (lift_seen e) (lift_all_seen ps)

pub row_partition : (s : DataType) (v : Marked) (k : ℕ) (e : Expr) → AllPlain (cuts (lift e)) → length (cuts (lift e)) < 2 ^ 64
    → seen (whole (row_reads s v k) k (cuts (lift e))).0 (whole (row_reads s v k) k (cuts (lift e))).1 k (root_of (cuts (lift e)) [] (lift e)) ≡ seen s v k e
row_partition s v k e plain few = partition_seen (row_reads s v k) k (lift e) (lift-expanded e) plain few ∙ lift_seen s v k e
