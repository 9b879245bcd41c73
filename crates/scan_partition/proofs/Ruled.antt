-- Each rewriting by its rules.
use Rattle.std.proofs.Common.{◌≡◌, ◌≤◌, Bool, true, false, cond, ◌||◌, max, Some, None, List, [], ◌∷◌, refl, ap, ◌∙◌, bytes_eq, arith}
use Rattle.scan_values.specs.DataType.{DataType, struct_type, Fields, no_fields, field, Name, depth_of, fields_depth}
use Rattle.scan_values.specs.FieldLists.{dtype_named}
use Rattle.scan_values.specs.declared.ptype.Nullability.{Nullability}
use Rattle.scan_values.specs.declared.ptype.Nullability.TheVariants.{NonNullable, Nullable}
use Rattle.scan_values.specs.NameFaults.{field_names, has_name}
use Rattle.scan_expr.specs.Infer.{infer, infer_all, field_type, type_or_bool}
use Rattle.scan_expr.specs.declared.op.Unary.{Unary}
use Rattle.scan_expr.specs.declared.op.Unary.TheVariants.{GetItem, Select, Exclude, Not, IsNull, IsNotNull, ListLength}
use Rattle.scan_expr.specs.Expr.{is_root, Expr, root, row_index, literal, unary, binary, pack, Parts, no_parts, part}
use Rattle.scan_partition.specs.declared.rewrite.Rewriting.TheVariants.{Expand, Validity, Lengths}
use Rattle.scan_partition.specs.Expand.{masked, items_of, expanded_struct_root, expand_at, expand, expand_all}
use Rattle.scan_partition.specs.Lists.{at_validity, rewrite_validity, rewrite_validity_all, at_offsets, rewrite_offsets, rewrite_offsets_all}
use Rattle.scan_partition.specs.Rewrite.{rewritten, all_rewritten, or_kept, NodesHold, AllNodesHold}
use Rattle.scan_partition.specs.Rewritings.{rules_of, validity_operator, length_operator}
use Rattle.scan_partition.proofs.Bare.{bare-with}
use Rattle.scan_partition.proofs.Depths.{as_deep}
use Rattle.scan_partition.proofs.Expanded.{is_root-sound}
use Rattle.scan_partition.specs.Found.{AllFound}
use Rattle.scan_partition.proofs.Having.{names_found}
use Rattle.scan_partition.proofs.Typed.{get_typed}

module _ (s : DataType) where
  by_operator : (b : Bool) (x y z : Expr) → y ≡ z → or_kept (cond b (Some x) None) y ≡ cond b x z
  by_operator true x y z h = refl
  by_operator false x y z h = h

  mutual
    pub expands : (e : Expr) → rewritten (rules_of Expand s) e ≡ expand s e
    expands root = refl
    expands row_index = refl
    expands (literal d v) = refl
    expands (unary u e) = by_operator (is_root e) (expand_at s u) (unary u (rewritten (rules_of Expand s) e)) (unary u (expand s e)) (ap (unary u) (expands e))
    expands (binary b x y) = λ i. binary b (expands x i) (expands y i)
    expands (pack ps n) = ap (λ qs. pack qs n) (all_expand ps)

    all_expand : (ps : Parts) → all_rewritten (rules_of Expand s) ps ≡ expand_all s ps
    all_expand no_parts = refl
    all_expand (part n e ps) = λ i. part n (expands e i) (all_expand ps i)

  validity_at : (b : Bool) (u : Unary) (e x : Expr) → (b ≡ true → e ≡ root) → x ≡ rewrite_validity e → or_kept (cond b (validity_operator u) None) (unary u x) ≡ cond b (at_validity u) (unary u (rewrite_validity e))
  validity_at true (GetItem n) e x r h = ap (unary (GetItem n)) (h ∙ ap rewrite_validity (r refl))
  validity_at true (Select n) e x r h = ap (unary (Select n)) (h ∙ ap rewrite_validity (r refl))
  validity_at true (Exclude n) e x r h = ap (unary (Exclude n)) (h ∙ ap rewrite_validity (r refl))
  validity_at true Not e x r h = ap (unary Not) (h ∙ ap rewrite_validity (r refl))
  validity_at true IsNull e x r h = refl
  validity_at true IsNotNull e x r h = refl
  validity_at true ListLength e x r h = ap (unary ListLength) (h ∙ ap rewrite_validity (r refl))
  validity_at false u e x r h = ap (unary u) h

  mutual
    pub validities : (e : Expr) → rewritten (rules_of Validity s) e ≡ rewrite_validity e
    validities root = refl
    validities row_index = refl
    validities (literal d v) = refl
    validities (unary u e) = validity_at (is_root e) u e (rewritten (rules_of Validity s) e) (is_root-sound e) (validities e)
    validities (binary b x y) = λ i. binary b (validities x i) (validities y i)
    validities (pack ps n) = ap (λ qs. pack qs n) (all_validities ps)

    all_validities : (ps : Parts) → all_rewritten (rules_of Validity s) ps ≡ rewrite_validity_all ps
    all_validities no_parts = refl
    all_validities (part n e ps) = λ i. part n (validities e i) (all_validities ps i)

  length_at : (b : Bool) (u : Unary) (e x : Expr) → (b ≡ true → e ≡ root) → x ≡ rewrite_offsets e → or_kept (cond b (length_operator u) None) (unary u x) ≡ cond b (at_offsets u) (unary u (rewrite_offsets e))
  length_at true (GetItem n) e x r h = ap (unary (GetItem n)) (h ∙ ap rewrite_offsets (r refl))
  length_at true (Select n) e x r h = ap (unary (Select n)) (h ∙ ap rewrite_offsets (r refl))
  length_at true (Exclude n) e x r h = ap (unary (Exclude n)) (h ∙ ap rewrite_offsets (r refl))
  length_at true Not e x r h = ap (unary Not) (h ∙ ap rewrite_offsets (r refl))
  length_at true IsNull e x r h = ap (unary IsNull) (h ∙ ap rewrite_offsets (r refl))
  length_at true IsNotNull e x r h = ap (unary IsNotNull) (h ∙ ap rewrite_offsets (r refl))
  length_at true ListLength e x r h = refl
  length_at false u e x r h = ap (unary u) h

  mutual
    pub lengths : (e : Expr) → rewritten (rules_of Lengths s) e ≡ rewrite_offsets e
    lengths root = refl
    lengths row_index = refl
    lengths (literal d v) = refl
    lengths (unary u e) = length_at (is_root e) u e (rewritten (rules_of Lengths s) e) (is_root-sound e) (lengths e)
    lengths (binary b x y) = λ i. binary b (lengths x i) (lengths y i)
    lengths (pack ps n) = ap (λ qs. pack qs n) (all_lengths ps)

    all_lengths : (ps : Parts) → all_rewritten (rules_of Lengths s) ps ≡ rewrite_offsets_all ps
    all_lengths no_parts = refl
    all_lengths (part n e ps) = λ i. part n (lengths e i) (all_lengths ps i)

-- ---- no pack gets too deep
-- a field that there is, is no deeper than the fields
own_depth : (f : Name) (fs : Fields) → has_name f (field_names fs) ≡ true → depth_of (field_type f fs) ≤ fields_depth fs
own_depth f no_fields h = cc
own_depth f (field m d fs) h = go (bytes_eq f m) h (own_depth f fs)
  where
    go : (b : Bool) → b || has_name f (field_names fs) ≡ true → (has_name f (field_names fs) ≡ true → depth_of (field_type f fs) ≤ fields_depth fs) → depth_of (type_or_bool (cond b (Some d) (dtype_named f fs))) ≤ max (depth_of d) (fields_depth fs)
    go true q r = omega arith
    go false q r = let small : depth_of (field_type f fs) ≤ fields_depth fs = r q in omega arith

items_depth : (fs : Fields) (n : Nullability) (ns : List Name) → AllFound fs ns → fields_depth (infer_all (struct_type fs n) (items_of ns)) ≤ fields_depth fs
items_depth fs n [] h = omega arith
items_depth fs n (f ∷ ns) h =
    let here : depth_of (infer (struct_type fs n) (unary (GetItem f) root)) ≤ fields_depth fs = as_deep (fields_depth fs) (infer (struct_type fs n) (unary (GetItem f) root)) (field_type f fs) (bare-with _ (field_type f fs)) (own_depth f fs h.0) in
    let rest : fields_depth (infer_all (struct_type fs n) (items_of ns)) ≤ fields_depth fs = items_depth fs n ns h.1 in
    omega arith

items_fit : (fs : Fields) (n : Nullability) (ns : List Name) → AllFound fs ns → AllNodesHold (struct_type fs n) (items_of ns)
items_fit fs n [] h = tt
items_fit fs n (f ∷ ns) h = ((get_typed f fs h.0, tt), items_fit fs n ns h.1)

mask_fits : (s : DataType) (m : Nullability) (e : Expr) → NodesHold s e → NodesHold s (masked m e)
mask_fits s NonNullable e h = h
mask_fits s Nullable e h = (refl, h, (refl, tt))

pub expanded_root_fits : (fs : Fields) (n : Nullability) → depth_of (struct_type fs n) ≤ 66 → NodesHold (struct_type fs n) (expanded_struct_root (struct_type fs n))
expanded_root_fits fs n h =
    let deep : fields_depth (infer_all (struct_type fs n) (items_of (field_names fs))) ≤ fields_depth fs = items_depth fs n (field_names fs) (names_found fs) in
    mask_fits (struct_type fs n) n (pack (items_of (field_names fs)) NonNullable) (omega (arith, h), items_fit fs n (field_names fs) (names_found fs))
