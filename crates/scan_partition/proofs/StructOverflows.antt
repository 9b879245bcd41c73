-- What partitioning a struct's expression gives overflows where the whole does.
use Rattle.std.proofs.Common.{◌≡◌, ℕ, ◌<◌, ◌^◌, false, ◌||◌, List, [], ◌∷◌, length, map, Option, Some, None, refl, ap, sym, subst, ◌∙◌}
use Rattle.scan_values.specs.DataType.{DataType, struct_type, Fields, Name}
use Rattle.scan_values.specs.Marked.{Marked, struct, more}
use Rattle.scan_values.specs.declared.ptype.Nullability.{Nullability}
use Rattle.scan_values.specs.declared.ptype.Nullability.TheVariants.{NonNullable, Nullable}
use Rattle.scan_expr.specs.Bound.{bound_of}
use Rattle.scan_expr.specs.Infer.{struct_fields}
use Rattle.scan_expr.specs.Eval.{eval}
use Rattle.scan_expr.specs.Expr.{Expr, root, row_index, literal, unary, binary, pack, Parts, no_parts, part}
use Rattle.scan_partition.specs.declared.item.Item.{Item}
use Rattle.scan_partition.specs.Items.{AtMost, one, use_of}
use Rattle.scan_partition.specs.Expand.{expand}
use Rattle.scan_partition.specs.Partition.{Group, cuts, groups_of, part_of, root_of, joined_type, joined_values, stepped_type, stepped_value, step_into}
use Rattle.scan_partition.specs.Rows.{Distinct, item_type, AllPlain}
use Rattle.scan_partition.specs.Divided.{divided, stepped, group_part}
use Rattle.scan_partition.specs.Direct.{Choice, chose, direct, direct_parts, field_of}
use Rattle.scan_partition.specs.Split.{part_values, parts_overflow, joined_overflows, KeepsOverflows}
use Rattle.scan_expr.specs.Overflow.{overflows, any_overflows}
use Rattle.scan_partition.proofs.Expanded.{expand-expanded}
use Rattle.scan_partition.proofs.PartOverflows.{part_overflows, partition_overflows, step_into-overflows}
use Rattle.scan_partition.proofs.ExpandOverflows.{item_reads, expand_overflows}

-- ---- fields that are chosen are calm
module _ (s : DataType) (v : Marked) (k : ℕ) where
  field_calm : (e : Expr) (f : Name) → field_of e ≡ Some f → overflows s e v k ≡ false
  field_calm root f h = cc
  field_calm row_index f h = cc
  field_calm (literal d m) f h = cc
  field_calm (unary u root) f h = refl
  field_calm (unary u row_index) f h = cc
  field_calm (unary u (literal d m)) f h = cc
  field_calm (unary u (unary w e)) f h = cc
  field_calm (unary u (binary b x y)) f h = cc
  field_calm (unary u (pack ps n)) f h = cc
  field_calm (binary b x y) f h = cc
  field_calm (pack ps n) f h = cc

  parts_calm : (ps : Parts) (c : Choice) → direct_parts ps ≡ Some c → any_overflows s ps v k ≡ false
  parts_calm no_parts c h = refl
  parts_calm (part n e ps) c h = go (field_of e) (direct_parts ps) (field_calm e) (parts_calm ps) h
    where
      go : (o : Option Name) (p : Option Choice) → ((f : Name) → o ≡ Some f → overflows s e v k ≡ false) → ((d : Choice) → p ≡ Some d → any_overflows s ps v k ≡ false) → chose n o p ≡ Some c → (overflows s e v k || any_overflows s ps v k) ≡ false
      go None p f g h = cc
      go (Some x) None f g h = cc
      go (Some x) (Some d) f g h = λ j. f x refl j || g d refl j

  pub direct_calm : (fs : Fields) (e : Expr) (c : Choice) → direct fs e ≡ Some c → overflows s e v k ≡ false
  direct_calm fs root c h = refl
  direct_calm fs row_index c h = cc
  direct_calm fs (literal d m) c h = cc
  direct_calm fs (unary u root) c h = refl
  direct_calm fs (unary u row_index) c h = cc
  direct_calm fs (unary u (literal d m)) c h = cc
  direct_calm fs (unary u (unary w e)) c h = cc
  direct_calm fs (unary u (binary b x y)) c h = cc
  direct_calm fs (unary u (pack ps n)) c h = cc
  direct_calm fs (binary b x y) c h = cc
  direct_calm fs (pack ps NonNullable) c h = parts_calm ps c h
  direct_calm fs (pack ps Nullable) c h = cc

-- ---- the parts as they are bound
pub parts_joined : (s : DataType) (w : Item → Marked) (k : ℕ) (gs : List Group) → part_values w k (map (λ (g : Group). g.0) gs) (map (group_part (stepped s)) gs) ≡ joined_values (stepped_value (item_type (struct_fields s)) w k) gs
parts_joined s w k [] = refl
parts_joined s w k (g ∷ gs) = ap (more (eval (item_type (struct_fields s) g.0) (step_into (part_of g.1)) (w g.0) k)) (parts_joined s w k gs)

bounds_overflow : (fs : Fields) (n : Nullability) (w : Item → Marked) (k : ℕ) (gs : List Group)
    → parts_overflow w k (map (λ (g : Group). g.0) gs) (map (group_part (stepped (struct_type fs n))) gs) ≡ part_overflows (item_reads fs w) k gs
bounds_overflow fs n w k [] = refl
bounds_overflow fs n w k (g ∷ gs) = ap (λ b. overflows (item_type fs g.0) (step_into (part_of g.1)) (w g.0) k || b) (bounds_overflow fs n w k gs)

module _ (fs : Fields) (n : Nullability) (e : Expr) (d : Distinct fs) where
  pub several_overflow : AllPlain (cuts (expand (struct_type fs n) e)) → length (cuts (expand (struct_type fs n) e)) < 2 ^ 64 → KeepsOverflows (bound_of (struct_type fs n) e) (joined_overflows (divided (stepped (struct_type fs n)) (expand (struct_type fs n) e)))
  several_overflow plain few v w k r a =
      let values = parts_joined (struct_type fs n) w k (groups_of (cuts (expand (struct_type fs n) e))) in
      let parts = bounds_overflow fs n w k (groups_of (cuts (expand (struct_type fs n) e))) in
      (λ j. overflows (joined_type (stepped_type (item_type fs)) (cuts (expand (struct_type fs n) e))) (root_of (cuts (expand (struct_type fs n) e)) [] (expand (struct_type fs n) e)) (struct (values j)) k || parts j)
      ∙ partition_overflows (item_reads fs w) k (expand (struct_type fs n) e) (expand-expanded (struct_type fs n) e) plain few
      ∙ expand_overflows fs w k n v d r a e

  pub alone_overflow : (i : Item) → use_of (expand (struct_type fs n) e) ≡ one i → KeepsOverflows (bound_of (struct_type fs n) e) (λ w k. overflows (item_type fs i) (step_into (expand (struct_type fs n) e)) (w i) k)
  alone_overflow i h v w k r a =
      step_into-overflows (item_reads fs w) k i (expand (struct_type fs n) e) (expand-expanded (struct_type fs n) e) (subst (AtMost i) (sym h) refl) ∙ expand_overflows fs w k n v d r a e
