-- Over a list's validity or its lengths each node keeps its condition.
use Rattle.std.proofs.Common.{◌≡◌, Bool, true, false, cond, None, refl, ap, ◌∙◌}
use Rattle.scan_values.specs.DataType.{DataType, bool_type}
use Rattle.scan_values.specs.declared.ptype.Nullability.TheVariants.{NonNullable}
use Rattle.scan_expr.specs.declared.op.Unary.{Unary}
use Rattle.scan_expr.specs.declared.op.Unary.TheVariants.{GetItem, Select, Exclude, Not, IsNull, IsNotNull, ListLength}
use Rattle.scan_expr.specs.Expr.{is_root, Expr, root, row_index, literal, unary, binary, pack, Parts, no_parts, part}
use Rattle.scan_expr.specs.Infer.{infer}
use Rattle.scan_expr.specs.Typing.{unary_fault, binary_fault}
use Rattle.scan_partition.specs.declared.list_.ListChildrenNeeded.TheVariants.{Validity, OffsetsAndValidity}
use Rattle.scan_partition.specs.Lists.{IsClass, necessary, all_necessary, children_at, at_validity, rewrite_validity, rewrite_validity_all, at_offsets, rewrite_offsets, rewrite_offsets_all}
use Rattle.scan_partition.proofs.Classes.{class-split}
use Rattle.scan_partition.proofs.Typed.{NodesTyped, AllNodesTyped}

-- ---- over the validity
module _ (s : DataType) (same : (e : Expr) → IsClass Validity (necessary e) → infer (bool_type NonNullable) (rewrite_validity e) ≡ infer s e) where
  validity_at_typed : (u : Unary) → IsClass Validity (children_at u) → NodesTyped (bool_type NonNullable) (at_validity u)
  validity_at_typed (GetItem n) h = absurd h
  validity_at_typed (Select ns) h = absurd h
  validity_at_typed (Exclude ns) h = absurd h
  validity_at_typed Not h = absurd h
  validity_at_typed IsNull h = (refl, tt)
  validity_at_typed IsNotNull h = tt
  validity_at_typed ListLength h = absurd h

  under_validity_typed : (b : Bool) (u : Unary) (e : Expr) → IsClass Validity (cond b (children_at u) (necessary e)) → unary_fault u (infer s e) ≡ None → (IsClass Validity (necessary e) → NodesTyped (bool_type NonNullable) (rewrite_validity e))
      → NodesTyped (bool_type NonNullable) (cond b (at_validity u) (unary u (rewrite_validity e)))
  under_validity_typed true u e h t f = validity_at_typed u h
  under_validity_typed false u e h t f = (ap (unary_fault u) (same e h) ∙ t, f h)

  mutual
    pub validity_typed : (e : Expr) → IsClass Validity (necessary e) → NodesTyped s e → NodesTyped (bool_type NonNullable) (rewrite_validity e)
    validity_typed root h t = tt
    validity_typed row_index h t = tt
    validity_typed (literal d v) h t = t
    validity_typed (unary u e) h t = under_validity_typed (is_root e) u e h t.0 (λ g. validity_typed e g t.1)
    validity_typed (binary b x y) h t = let hs = class-split Validity (necessary x) (necessary y) h in ((λ i. binary_fault b (same x hs.0 i) (same y hs.1 i)) ∙ t.0, validity_typed x hs.0 t.1, validity_typed y hs.1 t.2)
    validity_typed (pack ps n) h t = all_validity_typed ps h t

    all_validity_typed : (ps : Parts) → IsClass Validity (all_necessary ps) → AllNodesTyped s ps → AllNodesTyped (bool_type NonNullable) (rewrite_validity_all ps)
    all_validity_typed no_parts h t = tt
    all_validity_typed (part n e ps) h t = let hs = class-split Validity (necessary e) (all_necessary ps) h in (validity_typed e hs.0 t.0, all_validity_typed ps hs.1 t.1)

-- ---- over the lengths
module _ (s d : DataType) (same : (e : Expr) → IsClass OffsetsAndValidity (necessary e) → infer d (rewrite_offsets e) ≡ infer s e) where
  length_at_typed : (u : Unary) → IsClass OffsetsAndValidity (children_at u) → NodesTyped d (at_offsets u)
  length_at_typed (GetItem n) h = absurd h
  length_at_typed (Select ns) h = absurd h
  length_at_typed (Exclude ns) h = absurd h
  length_at_typed Not h = absurd h
  length_at_typed IsNull h = (refl, tt)
  length_at_typed IsNotNull h = (refl, tt)
  length_at_typed ListLength h = tt

  under_length_typed : (b : Bool) (u : Unary) (e : Expr) → IsClass OffsetsAndValidity (cond b (children_at u) (necessary e)) → unary_fault u (infer s e) ≡ None → (IsClass OffsetsAndValidity (necessary e) → NodesTyped d (rewrite_offsets e))
      → NodesTyped d (cond b (at_offsets u) (unary u (rewrite_offsets e)))
  under_length_typed true u e h t f = length_at_typed u h
  under_length_typed false u e h t f = (ap (unary_fault u) (same e h) ∙ t, f h)

  mutual
    pub length_typed : (e : Expr) → IsClass OffsetsAndValidity (necessary e) → NodesTyped s e → NodesTyped d (rewrite_offsets e)
    length_typed root h t = tt
    length_typed row_index h t = tt
    length_typed (literal c v) h t = t
    length_typed (unary u e) h t = under_length_typed (is_root e) u e h t.0 (λ g. length_typed e g t.1)
    length_typed (binary b x y) h t = let hs = class-split OffsetsAndValidity (necessary x) (necessary y) h in ((λ i. binary_fault b (same x hs.0 i) (same y hs.1 i)) ∙ t.0, length_typed x hs.0 t.1, length_typed y hs.1 t.2)
    length_typed (pack ps n) h t = all_length_typed ps h t

    all_length_typed : (ps : Parts) → IsClass OffsetsAndValidity (all_necessary ps) → AllNodesTyped s ps → AllNodesTyped d (rewrite_offsets_all ps)
    all_length_typed no_parts h t = tt
    all_length_typed (part n e ps) h t = let hs = class-split OffsetsAndValidity (necessary e) (all_necessary ps) h in (length_typed e hs.0 t.0, all_length_typed ps hs.1 t.1)
