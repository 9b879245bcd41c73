-- Parts: each node within 64, but for a pack at the top.
use Rattle.std.proofs.Common.{◌≡◌, ℕ, ◌≤◌, arith, lit≤}
use Rattle.scan_values.specs.DataType.{DataType, struct_type, Fields, depth_of, fields_depth}
use Rattle.scan_values.specs.declared.ptype.Nullability.{Nullability}
use Rattle.scan_expr.specs.Infer.{infer, infer_all}
use Rattle.scan_expr.specs.Expr.{Expr, root, row_index, literal, unary, binary, pack, Parts, no_parts, part}
use Rattle.scan_partition.specs.declared.item.Item.{Item}
use Rattle.scan_partition.specs.Items.{spelled, AtMost, use_of, IsExpanded, AreExpanded}
use Rattle.scan_partition.proofs.Bare.{bare}
use Rattle.scan_partition.specs.Expand.{expand}
use Rattle.scan_partition.specs.Partition.{Reads, step_into}
use Rattle.scan_partition.specs.Rewrite.{NodesHold}
use Rattle.scan_partition.specs.Rows.{Distinct}
use Rattle.scan_partition.specs.Shallow.{NodesWithin, AllNodesWithin, IsPart}
use Rattle.scan_partition.proofs.Through.{through, through_all}
use Rattle.scan_partition.proofs.Depths.{top_within, within_fits, all_within_fit, expand_within, expand_all_within, step_into_within, step_into_all_within, ThroughWithin, AllThroughWithin, within_through, all_within_through, through_within, all_through_within}
use Rattle.scan_partition.proofs.Typed.{NodesTyped}

-- what is within 64 is a part
pub shallow_part : (s : DataType) (e : Expr) → NodesWithin 64 s e → IsPart s e
shallow_part s root h = h
shallow_part s row_index h = h
shallow_part s (literal d v) h = h
shallow_part s (unary u e) h = h
shallow_part s (binary b x y) h = h
shallow_part s (pack ps n) h = h.1

parts_depth : (s : DataType) (ps : Parts) → AllNodesWithin 64 s ps → fields_depth (infer_all s ps) ≤ 64
parts_depth s no_parts h = omega arith
parts_depth s (part n e ps) h = let t : depth_of (infer s e) ≤ 64 = top_within 64 s e (lit≤ tt) h.0 in omega (arith, parts_depth s ps h.1)

top_part : (s : DataType) (e : Expr) → NodesWithin 64 s e → depth_of (infer s e) ≤ 65
top_part s e h = let t : depth_of (infer s e) ≤ 64 = top_within 64 s e (lit≤ tt) h in omega arith

pub part_depth : (s : DataType) (e : Expr) → IsPart s e → depth_of (infer s e) ≤ 65
part_depth s root h = top_part s root h
part_depth s row_index h = top_part s row_index h
part_depth s (literal d v) h = top_part s (literal d v) h
part_depth s (unary u e) h = top_part s (unary u e) h
part_depth s (binary b x y) h = top_part s (binary b x y) h
part_depth s (pack ps n) h = let t : fields_depth (infer_all s ps) ≤ 64 = parts_depth s ps h in omega arith

-- a part binds, where its nodes' conditions hold
pub part_fits : (s : DataType) (e : Expr) → IsPart s e → NodesTyped s e → NodesHold s e
part_fits s root h t = within_fits 64 s root (lit≤ tt) h t
part_fits s row_index h t = within_fits 64 s row_index (lit≤ tt) h t
part_fits s (literal d v) h t = within_fits 64 s (literal d v) (lit≤ tt) h t
part_fits s (unary u e) h t = within_fits 64 s (unary u e) (lit≤ tt) h t
part_fits s (binary b x y) h t = within_fits 64 s (binary b x y) (lit≤ tt) h t
part_fits s (pack ps n) h t = (let d : fields_depth (infer_all s ps) ≤ 64 = parts_depth s ps h in omega arith, all_within_fit 64 s ps (lit≤ tt) h t)

-- ---- expansion
pub expand_part : (fs : Fields) (m : Nullability) → Distinct fs → (e : Expr) → IsPart (struct_type fs m) e → IsPart (struct_type fs m) (expand (struct_type fs m) e)
expand_part fs m d root h = shallow_part (struct_type fs m) (expand (struct_type fs m) root) (expand_within fs m d root h)
expand_part fs m d row_index h = h
expand_part fs m d (literal t v) h = h
expand_part fs m d (unary u e) h = shallow_part (struct_type fs m) (expand (struct_type fs m) (unary u e)) (expand_within fs m d (unary u e) h)
expand_part fs m d (binary b x y) h = shallow_part (struct_type fs m) (expand (struct_type fs m) (binary b x y)) (expand_within fs m d (binary b x y) h)
expand_part fs m d (pack ps n) h = expand_all_within fs m d ps h

-- ---- stepping in
module _ (s d : DataType) (i : Item) (same : bare d ≡ bare (infer s (spelled i))) where
  step_shallow : (e : Expr) → IsExpanded e → AtMost i (use_of e) → NodesWithin 64 s e → IsPart d (step_into e)
  step_shallow e p a h = shallow_part d (step_into e) (step_into_within s d i same e p a h)

  pub step_into_part : (e : Expr) → IsExpanded e → AtMost i (use_of e) → IsPart s e → IsPart d (step_into e)
  step_into_part root p a h = absurd p
  step_into_part row_index p a h = tt
  step_into_part (literal t v) p a h = h
  step_into_part (unary u e) p a h = step_shallow (unary u e) p a h
  step_into_part (binary b x y) p a h = step_shallow (binary b x y) p a h
  step_into_part (pack ps n) p a h = step_into_all_within s d i same ps p a h

-- ---- through the items
abbrev pub ThroughPart : Reads → ℕ → Expr → Type 0
ThroughPart r k root = ThroughWithin r k root
ThroughPart r k row_index = ThroughWithin r k row_index
ThroughPart r k (literal d v) = ThroughWithin r k (literal d v)
ThroughPart r k (unary u e) = ThroughWithin r k (unary u e)
ThroughPart r k (binary b x y) = ThroughWithin r k (binary b x y)
ThroughPart r k (pack ps n) = AllThroughWithin r k ps

module _ (s : DataType) (r : Reads) (k : ℕ) (same : (i : Item) → bare (r i).0 ≡ bare (infer s (spelled i))) where
  pub part_through : (e : Expr) → IsExpanded e → IsPart s e → ThroughPart r k e
  part_through root p h = tt
  part_through row_index p h = tt
  part_through (literal d v) p h = h
  part_through (unary u e) p h = within_through s r k same (unary u e) p h
  part_through (binary b x y) p h = within_through s r k same (binary b x y) p h
  part_through (pack ps n) p h = all_within_through s r k same ps p h

module _ (r : Reads) (k : ℕ) (i : Item) where
  through_shallow : (e : Expr) → IsExpanded e → AtMost i (use_of e) → ThroughWithin r k e → IsPart (r i).0 (step_into e)
  through_shallow e p a h = shallow_part (r i).0 (step_into e) (through_within r k i e p a h)

  pub through_part : (e : Expr) → IsExpanded e → AtMost i (use_of e) → ThroughPart r k e → IsPart (r i).0 (step_into e)
  through_part root p a h = absurd p
  through_part row_index p a h = tt
  through_part (literal d v) p a h = h
  through_part (unary u e) p a h = through_shallow (unary u e) p a h
  through_part (binary b x y) p a h = through_shallow (binary b x y) p a h
  through_part (pack ps n) p a h = all_through_within r k i ps p a h

top_through : (r : Reads) (k : ℕ) (e : Expr) → IsExpanded e → ThroughWithin r k e → depth_of (through r k e).0 ≤ 64
top_through r k root p h = absurd p
top_through r k row_index p h = lit≤ tt
top_through r k (literal d v) p h = h
top_through r k (unary u e) p h = h.0
top_through r k (binary b x y) p h = h.0
top_through r k (pack ps n) p h = h.0

parts_through : (r : Reads) (k : ℕ) (ps : Parts) → AreExpanded ps → AllThroughWithin r k ps → fields_depth (through_all r k ps).0 ≤ 64
parts_through r k no_parts p h = omega arith
parts_through r k (part n e ps) p h = let t : depth_of (through r k e).0 ≤ 64 = top_through r k e p.0 h.0 in omega (arith, parts_through r k ps p.1 h.1)

pub pack_through : (r : Reads) (k : ℕ) (ps : Parts) (n : Nullability) → AreExpanded ps → AllThroughWithin r k ps → depth_of (through r k (pack ps n)).0 ≤ 65
pack_through r k ps n p h = let t : fields_depth (through_all r k ps).0 ≤ 64 = parts_through r k ps p h in omega arith
