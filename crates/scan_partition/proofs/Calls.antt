-- The public rewritings: no pack too deep, and the same values.
use Rattle.std.proofs.Common.{◌≡◌, ◌≤◌, ℕ, Bool, true, false, cond, None, ap, sym, subst, ◌∙◌, lit≤}
use Rattle.scan_values.specs.DataType.{DataType, bool_type, depth_of, nullability_of}
use Rattle.scan_values.specs.declared.ptype.Nullability.TheVariants.{NonNullable}
use Rattle.scan_values.specs.Marked.{Marked, list}
use Rattle.scan_values.specs.Marked.{none}
use Rattle.scan_expr.specs.Bound.{Bound}
use Rattle.scan_expr.specs.Infer.{infer, struct_fields}
use Rattle.scan_expr.specs.Eval.{eval}
use Rattle.scan_expr.specs.declared.op.Unary.{Unary}
use Rattle.scan_expr.specs.declared.op.Unary.TheVariants.{GetItem, Select, Exclude, Not, IsNull, IsNotNull, ListLength}
use Rattle.scan_expr.specs.Expr.{is_root, Expr, root, row_index, literal, unary, binary, pack, Parts, no_parts, part}
use Rattle.scan_partition.specs.declared.item.Item.{Item}
use Rattle.scan_partition.specs.declared.rewrite.Rewriting.TheVariants.{Expand, Validity, Lengths}
use Rattle.scan_partition.specs.declared.list_.ListChildrenNeeded.TheVariants.{Validity as ValidityAlone, OffsetsAndValidity}
use Rattle.scan_partition.specs.Items.{spelled, AtMost, use_of, IsExpanded}
use Rattle.scan_partition.specs.Expand.{expanded_struct_root, expand}
use Rattle.scan_partition.specs.Partition.{step_into}
use Rattle.scan_partition.specs.Lists.{IsClass, necessary, all_necessary, children_at, at_validity, rewrite_validity, rewrite_validity_all, at_offsets, rewrite_offsets, rewrite_offsets_all}
use Rattle.scan_partition.specs.Rewrite.{rewritten, NodesHold}
use Rattle.scan_partition.specs.Rewritings.{rules_of}
use Rattle.scan_partition.specs.Rows.{Distinct}
use Rattle.scan_partition.specs.Shallow.{NodesWithin, AllNodesWithin, IsPart}
use Rattle.scan_partition.specs.Conditions.{IsStruct, IsOverStruct}
use Rattle.scan_partition.proofs.Through.{seen, step_into-through, own_reads, through-seen}
use Rattle.scan_partition.specs.Tighter.{IsTighter}
use Rattle.scan_partition.proofs.Depths.{as_deep, within_fits}
use Rattle.scan_partition.proofs.Part.{shallow_part, part_fits, expand_part}
use Rattle.scan_partition.proofs.Tighter.{tighter-bare, tighter_typed, infer_tighter}
use Rattle.scan_partition.proofs.Classes.{class-split, rewrite_validity_seen, rewrite_offsets_seen}
use Rattle.scan_expr.specs.Typing.{typing_fault}
use Rattle.scan_partition.proofs.Typed.{NodesTyped, typed_nodes}
use Rattle.scan_partition.proofs.ExpandTyped.{expand_typed}
use Rattle.scan_partition.proofs.ListTyped.{validity_typed, length_typed}
use Rattle.scan_partition.proofs.Ruled.{expands, validities, lengths, expanded_root_fits}

pub struct_root_fits : (s : DataType) → IsStruct s → depth_of s ≤ 66 → NodesHold s (expanded_struct_root s)
struct_root_fits s st h = subst (λ (t : DataType). NodesHold t (expanded_struct_root t)) st (expanded_root_fits (struct_fields s) (nullability_of s) (subst (λ (t : DataType). depth_of t ≤ 66) (sym st) h))

pub expand_is_part : (s : DataType) (e : Expr) → IsStruct s → Distinct (struct_fields s) → IsPart s e → IsPart s (expand s e)
expand_is_part s e st d h = subst (λ (t : DataType). IsPart t (expand t e)) st (expand_part (struct_fields s) (nullability_of s) d e (subst (λ (t : DataType). IsPart t e) (sym st) h))

pub expand_nodes : (s : DataType) (e : Expr) → IsStruct s → Distinct (struct_fields s) → typing_fault s e ≡ None → NodesTyped s (expand s e)
expand_nodes s e st d h = subst (λ (t : DataType). NodesTyped t (expand t e)) st (expand_typed (struct_fields s) (nullability_of s) d e (subst (λ (t : DataType). NodesTyped t e) (sym st) (typed_nodes s e h)))

pub expand_fits : (b : Bound) (s : DataType) → s ≡ b.scope → IsOverStruct b → typing_fault b.scope b.expr ≡ None → NodesHold s (rewritten (rules_of Expand s) b.expr)
expand_fits b s h o t =
    subst (λ (t : DataType). NodesHold t (rewritten (rules_of Expand t) b.expr)) (sym h)
    (subst (NodesHold b.scope) (sym (expands b.scope b.expr)) (part_fits b.scope (expand b.scope b.expr) (expand_is_part b.scope b.expr o.structure o.distinct o.nodes) (expand_nodes b.scope b.expr o.structure o.distinct t)))

pub stepped_seen : (s : DataType) (i : Item) (e : Expr) (v : Marked) (k : ℕ) → IsExpanded e → AtMost i (use_of e) → seen (infer s (spelled i)) (eval s (spelled i) v k) k (step_into e) ≡ seen s v k e
stepped_seen s i e v k p a = step_into-through (own_reads s v k) k i e p a ∙ through-seen s v k e p

-- ---- over the validity of a list
module _ (n : ℕ) (o : 1 ≤ n) where
  validity_at_within : (u : Unary) → IsClass ValidityAlone (children_at u) → NodesWithin n (bool_type NonNullable) (at_validity u)
  validity_at_within (GetItem f) h = absurd h
  validity_at_within (Select ns) h = absurd h
  validity_at_within (Exclude ns) h = absurd h
  validity_at_within Not h = absurd h
  validity_at_within IsNull h = (o, o)
  validity_at_within IsNotNull h = o
  validity_at_within ListLength h = absurd h

module _ (s : DataType) where
  pub same_type : (e : Expr) → IsClass ValidityAlone (necessary e) → infer (bool_type NonNullable) (rewrite_validity e) ≡ infer s e
  same_type e h = ap (λ x. x.0) (rewrite_validity_seen s (list none) 0 e h)

  module _ (n : ℕ) (o : 1 ≤ n) where
    as_shallow : (e : Expr) → IsClass ValidityAlone (necessary e) → depth_of (infer s e) ≤ n → depth_of (infer (bool_type NonNullable) (rewrite_validity e)) ≤ n
    as_shallow e h w = subst (λ (t : DataType). depth_of t ≤ n) (sym (same_type e h)) w

    under_validity : (b : Bool) (u : Unary) (e : Expr) → IsClass ValidityAlone (cond b (children_at u) (necessary e)) → depth_of (infer (bool_type NonNullable) (cond b (at_validity u) (unary u (rewrite_validity e)))) ≤ n
        → (IsClass ValidityAlone (necessary e) → NodesWithin n (bool_type NonNullable) (rewrite_validity e)) → NodesWithin n (bool_type NonNullable) (cond b (at_validity u) (unary u (rewrite_validity e)))
    under_validity true u e h w f = validity_at_within n o u h
    under_validity false u e h w f = (w, f h)

    mutual
      pub validity_within : (e : Expr) → IsClass ValidityAlone (necessary e) → NodesWithin n s e → NodesWithin n (bool_type NonNullable) (rewrite_validity e)
      validity_within root h w = absurd h
      validity_within row_index h w = tt
      validity_within (literal d v) h w = w
      validity_within (unary u e) h w = under_validity (is_root e) u e h (as_shallow (unary u e) h w.0) (λ g. validity_within e g w.1)
      validity_within (binary b x y) h w = let hs = class-split ValidityAlone (necessary x) (necessary y) h in (as_shallow (binary b x y) h w.0, validity_within x hs.0 w.1, validity_within y hs.1 w.2)
      validity_within (pack ps m) h w = (as_shallow (pack ps m) h w.0, all_validity_within ps h w.1)

      all_validity_within : (ps : Parts) → IsClass ValidityAlone (all_necessary ps) → AllNodesWithin n s ps → AllNodesWithin n (bool_type NonNullable) (rewrite_validity_all ps)
      all_validity_within no_parts h w = tt
      all_validity_within (part m e ps) h w = let hs = class-split ValidityAlone (necessary e) (all_necessary ps) h in (validity_within e hs.0 w.0, all_validity_within ps hs.1 w.1)

  validity_shallow : (e : Expr) → IsClass ValidityAlone (necessary e) → NodesWithin 64 s e → IsPart (bool_type NonNullable) (rewrite_validity e)
  validity_shallow e h w = shallow_part (bool_type NonNullable) (rewrite_validity e) (validity_within 64 (lit≤ tt) e h w)

  pub validity_part : (e : Expr) → IsClass ValidityAlone (necessary e) → IsPart s e → IsPart (bool_type NonNullable) (rewrite_validity e)
  validity_part root h w = absurd h
  validity_part row_index h w = tt
  validity_part (literal d v) h w = w
  validity_part (unary u e) h w = validity_shallow (unary u e) h w
  validity_part (binary b x y) h w = validity_shallow (binary b x y) h w
  validity_part (pack ps n) h w = all_validity_within 64 (lit≤ tt) ps h w

  pub validity_fits : (e : Expr) → IsClass ValidityAlone (necessary e) → NodesWithin 66 s e → typing_fault s e ≡ None → NodesHold (bool_type NonNullable) (rewritten (rules_of Validity (bool_type NonNullable)) e)
  validity_fits e h w t =
      subst (NodesHold (bool_type NonNullable)) (sym (validities (bool_type NonNullable) e))
      (within_fits 66 (bool_type NonNullable) (rewrite_validity e) (lit≤ tt) (validity_within 66 (lit≤ tt) e h w) (validity_typed s same_type e h (typed_nodes s e t)))

-- ---- over the lengths of a list
length_at_within : (n : ℕ) (d : DataType) (u : Unary) → depth_of d ≤ n → depth_of (infer d (at_offsets u)) ≤ n → NodesWithin n d (at_offsets u)
length_at_within n d (GetItem f) h w = (w, h)
length_at_within n d (Select ns) h w = (w, h)
length_at_within n d (Exclude ns) h w = (w, h)
length_at_within n d Not h w = (w, h)
length_at_within n d IsNull h w = (w, h)
length_at_within n d IsNotNull h w = (w, h)
length_at_within n d ListLength h w = h

-- over a dtype that may be null at fewer places
tighter_top : (n : ℕ) (d e : DataType) (x : Expr) → IsTighter d e → depth_of (infer e x) ≤ n → depth_of (infer d x) ≤ n
tighter_top n d e x h w = as_deep n (infer d x) (infer e x) (tighter-bare (infer d x) (infer e x) (infer_tighter d e x h)) w

mutual
  pub tighter_within : (n : ℕ) (d e : DataType) (x : Expr) → IsTighter d e → NodesWithin n e x → NodesWithin n d x
  tighter_within n d e root h w = as_deep n d e (tighter-bare d e h) w
  tighter_within n d e row_index h w = tt
  tighter_within n d e (literal s v) h w = w
  tighter_within n d e (unary u x) h w = (tighter_top n d e (unary u x) h w.0, tighter_within n d e x h w.1)
  tighter_within n d e (binary b x y) h w = (tighter_top n d e (binary b x y) h w.0, tighter_within n d e x h w.1, tighter_within n d e y h w.2)
  tighter_within n d e (pack ps m) h w = (tighter_top n d e (pack ps m) h w.0, all_tighter_within n d e ps h w.1)

  all_tighter_within : (n : ℕ) (d e : DataType) (ps : Parts) → IsTighter d e → AllNodesWithin n e ps → AllNodesWithin n d ps
  all_tighter_within n d e no_parts h w = tt
  all_tighter_within n d e (part m x ps) h w = (tighter_within n d e x h w.0, all_tighter_within n d e ps h w.1)

pub tighter_part : (d e : DataType) (x : Expr) → IsTighter d e → IsPart e x → IsPart d x
tighter_part d e root h w = tighter_within 64 d e root h w
tighter_part d e row_index h w = tt
tighter_part d e (literal s v) h w = w
tighter_part d e (unary u x) h w = tighter_within 64 d e (unary u x) h w
tighter_part d e (binary b x y) h w = tighter_within 64 d e (binary b x y) h w
tighter_part d e (pack ps n) h w = all_tighter_within 64 d e ps h w

module _ (s : DataType) where
  abbrev pub lengths_type : DataType
  lengths_type = infer s (unary ListLength root)

  pub same_length_type : (e : Expr) → IsClass OffsetsAndValidity (necessary e) → infer lengths_type (rewrite_offsets e) ≡ infer s e
  same_length_type e h = ap (λ x. x.0) (rewrite_offsets_seen s (list none) 0 tt e h)

  module _ (n : ℕ) (o : 1 ≤ n) where
    as_shallow_length : (e : Expr) → IsClass OffsetsAndValidity (necessary e) → depth_of (infer s e) ≤ n → depth_of (infer lengths_type (rewrite_offsets e)) ≤ n
    as_shallow_length e h w = subst (λ (t : DataType). depth_of t ≤ n) (sym (same_length_type e h)) w

    under_length : (b : Bool) (u : Unary) (e : Expr) → IsClass OffsetsAndValidity (cond b (children_at u) (necessary e)) → depth_of (infer lengths_type (cond b (at_offsets u) (unary u (rewrite_offsets e)))) ≤ n
        → (IsClass OffsetsAndValidity (necessary e) → NodesWithin n lengths_type (rewrite_offsets e)) → NodesWithin n lengths_type (cond b (at_offsets u) (unary u (rewrite_offsets e)))
    under_length true u e h w f = length_at_within n lengths_type u o w
    under_length false u e h w f = (w, f h)

    mutual
      length_within : (e : Expr) → IsClass OffsetsAndValidity (necessary e) → NodesWithin n s e → NodesWithin n lengths_type (rewrite_offsets e)
      length_within root h w = absurd h
      length_within row_index h w = tt
      length_within (literal d v) h w = w
      length_within (unary u e) h w = under_length (is_root e) u e h (as_shallow_length (unary u e) h w.0) (λ g. length_within e g w.1)
      length_within (binary b x y) h w = let hs = class-split OffsetsAndValidity (necessary x) (necessary y) h in (as_shallow_length (binary b x y) h w.0, length_within x hs.0 w.1, length_within y hs.1 w.2)
      length_within (pack ps m) h w = (as_shallow_length (pack ps m) h w.0, all_length_within ps h w.1)

      all_length_within : (ps : Parts) → IsClass OffsetsAndValidity (all_necessary ps) → AllNodesWithin n s ps → AllNodesWithin n lengths_type (rewrite_offsets_all ps)
      all_length_within no_parts h w = tt
      all_length_within (part m e ps) h w = let hs = class-split OffsetsAndValidity (necessary e) (all_necessary ps) h in (length_within e hs.0 w.0, all_length_within ps hs.1 w.1)

  length_shallow : (e : Expr) → IsClass OffsetsAndValidity (necessary e) → NodesWithin 64 s e → IsPart lengths_type (rewrite_offsets e)
  length_shallow e h w = shallow_part lengths_type (rewrite_offsets e) (length_within 64 (lit≤ tt) e h w)

  own_length_part : (e : Expr) → IsClass OffsetsAndValidity (necessary e) → IsPart s e → IsPart lengths_type (rewrite_offsets e)
  own_length_part root h w = absurd h
  own_length_part row_index h w = tt
  own_length_part (literal d v) h w = w
  own_length_part (unary u e) h w = length_shallow (unary u e) h w
  own_length_part (binary b x y) h w = length_shallow (binary b x y) h w
  own_length_part (pack ps n) h w = all_length_within 64 (lit≤ tt) ps h w

  -- over lengths that may be null only where the list may
  module _ (d : DataType) (tight : IsTighter d lengths_type) where
    pub length_part : (e : Expr) → IsClass OffsetsAndValidity (necessary e) → IsPart s e → IsPart d (rewrite_offsets e)
    length_part e h w = tighter_part d lengths_type (rewrite_offsets e) tight (own_length_part e h w)

    pub length_nodes : (e : Expr) → IsClass OffsetsAndValidity (necessary e) → typing_fault s e ≡ None → NodesTyped d (rewrite_offsets e)
    length_nodes e h t = tighter_typed d lengths_type (rewrite_offsets e) tight (length_typed s lengths_type same_length_type e h (typed_nodes s e t))

    pub length_fits : (e : Expr) → IsClass OffsetsAndValidity (necessary e) → NodesWithin 66 s e → typing_fault s e ≡ None → NodesHold d (rewritten (rules_of Lengths d) e)
    length_fits e h w t =
        subst (NodesHold d) (sym (lengths d e))
        (within_fits 66 d (rewrite_offsets e) (lit≤ tt) (tighter_within 66 d lengths_type (rewrite_offsets e) tight (length_within 66 (lit≤ tt) e h w)) (length_nodes e h t))

    pub length_tighter : (e : Expr) → IsClass OffsetsAndValidity (necessary e) → IsTighter (infer d (rewrite_offsets e)) (infer s e)
    length_tighter e h = subst (IsTighter (infer d (rewrite_offsets e))) (same_length_type e h) (infer_tighter d lengths_type (rewrite_offsets e) tight)

-- ---- values to speak of dtypes alone
abbrev pub any_value : Marked
any_value = list none

abbrev pub any_list : Marked
any_list = list none
