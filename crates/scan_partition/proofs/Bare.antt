-- Dtypes without their nullability, which expansion and stepping in keep.
use Rattle.std.proofs.Common.{◌≡◌, Bool, true, false, cond, List, [], ◌∷◌, Option, Some, None, refl, ap, sym, ◌∙◌, bytes_eq}
use Rattle.scan_values.specs.DataType.{DataType, bool_type, int_type, utf8_type, list_type, struct_type, Fields, no_fields, field, Name, with_nullability}
use Rattle.scan_values.specs.declared.ptype.Nullability.{Nullability}
use Rattle.scan_values.specs.declared.ptype.Nullability.TheVariants.{NonNullable, Nullable}
use Rattle.scan_values.specs.FieldLists.{dtype_named}
use Rattle.scan_expr.specs.Needs.{other_names, Demand, fields, asked}
use Rattle.scan_expr.specs.Infer.{type_or_bool, field_type, struct_fields, infer, infer_all, chosen, without, unary_type, binary_type, ptype_or_u64}
use Rattle.scan_values.specs.NameFaults.{has_name}
use Rattle.scan_values.specs.declared.ptype.PType.TheVariants.{U64}
use Rattle.scan_partition.specs.declared.item.Item.{Item}
use Rattle.scan_partition.specs.declared.item.Item.TheVariants.{Field, Validity}
use Rattle.scan_partition.specs.Items.{spelled, item_of, Use, or_use, use_of, uses_of, ItemOr, IsExpanded, AreExpanded}
use Rattle.scan_expr.specs.Expr.{Expr, root, row_index, literal, unary, binary, pack, Parts, no_parts, part}
use Rattle.scan_partition.specs.Expand.{expand}
use Rattle.scan_partition.specs.Partition.{step_into, step_into_all, or_root}
use Rattle.scan_expr.specs.declared.op.Unary.{Unary}
use Rattle.scan_expr.specs.declared.op.Unary.TheVariants.{GetItem, Select, Exclude, Not, IsNull, IsNotNull, ListLength}
use Rattle.scan_expr.specs.declared.op.Binary.{Binary}
use Rattle.scan_expr.specs.declared.op.Binary.TheVariants.{Mask, And, Or, Equal, NotEqual, Less, LessOrEqual, Greater, GreaterOrEqual, CheckedAdd, CheckedSub}
use Rattle.scan_values.specs.Kinds.{ptype_of}
use Rattle.scan_partition.specs.Rows.{Distinct, item_type}
use Rattle.scan_values.specs.Marked.{struct}
use Rattle.scan_partition.specs.Items.{AtMost}
use Rattle.scan_partition.proofs.Through.{both-split, item_of-spelled}
use Rattle.scan_partition.proofs.Pushed.{pushed, pushed_all, nulled, nulled_all, expand_like}
use Rattle.scan_partition.proofs.Expanded.{blank, blank-even}

-- a dtype, whatever may be null in it
abbrev mutual
  pub bare : DataType → DataType
  bare (bool_type n) = bool_type Nullable
  bare (int_type p n) = int_type p Nullable
  bare (utf8_type n) = utf8_type Nullable
  bare (list_type d n) = list_type (bare d) Nullable
  bare (struct_type fs n) = struct_type (bare_all fs) Nullable

  pub bare_all : Fields → Fields
  bare_all no_fields = no_fields
  bare_all (field n d fs) = field n (bare d) (bare_all fs)

pub bare-with : (n : Nullability) (d : DataType) → bare (with_nullability n d) ≡ bare d
bare-with m (bool_type n) = refl
bare-with m (int_type p n) = refl
bare-with m (utf8_type n) = refl
bare-with m (list_type d n) = refl
bare-with m (struct_type fs n) = refl

pub fields_of-bare : (d : DataType) → struct_fields (bare d) ≡ bare_all (struct_fields d)
fields_of-bare (bool_type n) = refl
fields_of-bare (int_type p n) = refl
fields_of-bare (utf8_type n) = refl
fields_of-bare (list_type d n) = refl
fields_of-bare (struct_type fs n) = refl

pub field_type-bare : (n : Name) (fs : Fields) → bare (field_type n fs) ≡ field_type n (bare_all fs)
field_type-bare n no_fields = refl
field_type-bare n (field m d fs) = go (bytes_eq n m) (field_type-bare n fs)
  where
    go : (b : Bool) → bare (field_type n fs) ≡ field_type n (bare_all fs) → bare (type_or_bool (cond b (Some d) (dtype_named n fs))) ≡ type_or_bool (cond b (Some (bare d)) (dtype_named n (bare_all fs)))
    go true h = refl
    go false h = h

pub chosen-bare : (ns : List Name) (fs : Fields) → bare_all (chosen ns fs) ≡ chosen ns (bare_all fs)
chosen-bare [] fs = refl
chosen-bare (n ∷ ns) fs = λ i. field n (field_type-bare n fs i) (chosen-bare ns fs i)

pub without-bare : (ns : List Name) (fs : Fields) → bare_all (without ns fs) ≡ without ns (bare_all fs)
without-bare ns no_fields = refl
without-bare ns (field m d fs) = go (has_name m ns) (without-bare ns fs)
  where
    go : (b : Bool) → bare_all (without ns fs) ≡ without ns (bare_all fs) → bare_all (cond b (without ns fs) (field m d (without ns fs))) ≡ cond b (without ns (bare_all fs)) (field m (bare d) (without ns (bare_all fs)))
    go true h = h
    go false h = ap (field m (bare d)) h

pub others-bare : (ns : List Name) (fs : Fields) → other_names ns (bare_all fs) ≡ other_names ns fs
others-bare ns no_fields = refl
others-bare ns (field m d fs) = λ i. cond (has_name m ns) (others-bare ns fs i) (m ∷ others-bare ns fs i)

-- what an operator makes of a dtype, bare, is made of the bare fields
bare_unary : Unary → Fields → DataType
bare_unary (GetItem n) fs = field_type n fs
bare_unary (Select ns) fs = struct_type (chosen ns fs) Nullable
bare_unary (Exclude ns) fs = struct_type (without ns fs) Nullable
bare_unary Not fs = bool_type Nullable
bare_unary IsNull fs = bool_type Nullable
bare_unary IsNotNull fs = bool_type Nullable
bare_unary ListLength fs = int_type U64 Nullable

unary-bare : (u : Unary) (d : DataType) → bare (unary_type u d) ≡ bare_unary u (bare_all (struct_fields d))
unfolding bare_unary
unary-bare (GetItem n) d = bare-with _ (field_type n (struct_fields d)) ∙ field_type-bare n (struct_fields d)
unary-bare (Select ns) d = λ i. struct_type (chosen-bare ns (struct_fields d) i) Nullable
unary-bare (Exclude ns) d = λ i. struct_type (without-bare ns (struct_fields d) i) Nullable
unary-bare Not d = refl
unary-bare IsNull d = refl
unary-bare IsNotNull d = refl
unary-bare ListLength d = refl

pub fields-same : (d e : DataType) → bare d ≡ bare e → bare_all (struct_fields d) ≡ bare_all (struct_fields e)
fields-same d e h = sym (fields_of-bare d) ∙ ap struct_fields h ∙ fields_of-bare e

pub unary-same : (u : Unary) (d e : DataType) → bare d ≡ bare e → bare (unary_type u d) ≡ bare (unary_type u e)
unary-same u d e h = unary-bare u d ∙ ap (bare_unary u) (fields-same d e h) ∙ sym (unary-bare u e)

ptype-bare : (d : DataType) → ptype_of (bare d) ≡ ptype_of d
ptype-bare (bool_type n) = refl
ptype-bare (int_type p n) = refl
ptype-bare (utf8_type n) = refl
ptype-bare (list_type d n) = refl
ptype-bare (struct_type fs n) = refl

pub ptypes-same : (d e : DataType) → bare d ≡ bare e → ptype_of d ≡ ptype_of e
ptypes-same d e h = sym (ptype-bare d) ∙ ap ptype_of h ∙ ptype-bare e

pub binary-same : (b : Binary) (d e f g : DataType) → bare d ≡ bare e → bare (binary_type b d f) ≡ bare (binary_type b e g)
binary-same Mask d e f g h = bare-with Nullable d ∙ h ∙ sym (bare-with Nullable e)
binary-same And d e f g h = refl
binary-same Or d e f g h = refl
binary-same Equal d e f g h = refl
binary-same NotEqual d e f g h = refl
binary-same Less d e f g h = refl
binary-same LessOrEqual d e f g h = refl
binary-same Greater d e f g h = refl
binary-same GreaterOrEqual d e f g h = refl
binary-same CheckedAdd d e f g h = ap (λ p. int_type (ptype_or_u64 p) Nullable) (ptypes-same d e h)
binary-same CheckedSub d e f g h = ap (λ p. int_type (ptype_or_u64 p) Nullable) (ptypes-same d e h)

pub asked-same : (u : Unary) (d e : DataType) (k : Demand) → bare d ≡ bare e → asked u (struct_fields d) k ≡ asked u (struct_fields e) k
asked-same (GetItem f) d e k h = refl
asked-same (Select ns) d e k h = refl
asked-same (Exclude ns) d e k h = ap fields (sym (others-bare ns (struct_fields d)) ∙ ap (other_names ns) (fields-same d e h) ∙ others-bare ns (struct_fields e))
asked-same Not d e k h = refl
asked-same IsNull d e k h = refl
asked-same IsNotNull d e k h = refl
asked-same ListLength d e k h = refl

-- ---- expansion
mutual
  bare-pushed : (d : DataType) → bare (pushed d) ≡ bare d
  bare-pushed (bool_type n) = refl
  bare-pushed (int_type p n) = refl
  bare-pushed (utf8_type n) = refl
  bare-pushed (list_type d n) = refl
  bare-pushed (struct_type fs NonNullable) = λ i. struct_type (bare_all-pushed fs i) Nullable
  bare-pushed (struct_type fs Nullable) = λ i. struct_type (bare_all-nulled fs i) Nullable

  bare_all-pushed : (fs : Fields) → bare_all (pushed_all fs) ≡ bare_all fs
  bare_all-pushed no_fields = refl
  bare_all-pushed (field n d fs) = λ i. field n (bare-pushed d i) (bare_all-pushed fs i)

  bare-nulled : (d : DataType) → bare (nulled d) ≡ bare d
  bare-nulled (bool_type n) = refl
  bare-nulled (int_type p n) = refl
  bare-nulled (utf8_type n) = refl
  bare-nulled (list_type d n) = refl
  bare-nulled (struct_type fs n) = λ i. struct_type (bare_all-nulled fs i) Nullable

  bare_all-nulled : (fs : Fields) → bare_all (nulled_all fs) ≡ bare_all fs
  bare_all-nulled no_fields = refl
  bare_all-nulled (field n d fs) = λ i. field n (bare-nulled d i) (bare_all-nulled fs i)

module _ (fs : Fields) (n : Nullability) (d : Distinct fs) where
  pub expand-bare : (e : Expr) → bare (infer (struct_type fs n) (expand (struct_type fs n) e)) ≡ bare (infer (struct_type fs n) e)
  expand-bare e = sym (bare-pushed _) ∙ ap bare (expand_like fs n (struct (blank fs)) 0 d (blank-even fs) e).dtype ∙ bare-pushed _

-- ---- stepping in
step_bare : (s d : DataType) (i : Item) (u : Unary) (x e : Expr) (o : Option Item) (w : Use) (P : Type 0) → bare d ≡ bare (infer s (spelled i)) → ItemOr o P → AtMost i (or_use o w) → ((j : Item) → o ≡ Some j → spelled j ≡ unary u e)
    → (P → AtMost i w → bare (infer d x) ≡ bare (infer s e)) → bare (infer d (or_root o (unary u x))) ≡ bare (infer s (unary u e))
step_bare s d i u x e None w P h p a g f = unary-same u _ _ (f p a)
step_bare s d i u x e (Some j) w P h p a g f = h ∙ ap (λ y. bare (infer s (spelled y))) a ∙ ap (λ y. bare (infer s y)) (g j refl)

mutual
  pub step_into-bare : (s d : DataType) (i : Item) (e : Expr) → bare d ≡ bare (infer s (spelled i)) → IsExpanded e → AtMost i (use_of e) → bare (infer d (step_into e)) ≡ bare (infer s e)
  step_into-bare s d i root h p a = absurd p
  step_into-bare s d i row_index h p a = refl
  step_into-bare s d i (literal t m) h p a = refl
  step_into-bare s d i (unary u e) h p a = step_bare s d i u (step_into e) e (item_of u e) (use_of e) (IsExpanded e) h p a (item_of-spelled u e) (step_into-bare s d i e h)
  step_into-bare s d i (binary b x y) h p a = binary-same b _ _ _ _ (step_into-bare s d i x h p.0 (both-split i (use_of x) (use_of y) a).0)
  step_into-bare s d i (pack ps n) h p a = λ j. struct_type (step_into_all-bare s d i ps h p a j) Nullable

  pub step_into_all-bare : (s d : DataType) (i : Item) (ps : Parts) → bare d ≡ bare (infer s (spelled i)) → AreExpanded ps → AtMost i (uses_of ps) → bare_all (infer_all d (step_into_all ps)) ≡ bare_all (infer_all s ps)
  step_into_all-bare s d i no_parts h p a = refl
  step_into_all-bare s d i (part n e ps) h p a =
      let hs = both-split i (use_of e) (uses_of ps) a in
      λ j. field n (step_into-bare s d i e h p.0 hs.0 j) (step_into_all-bare s d i ps h p.1 hs.1 j)

pub item-bare : (fs : Fields) (n : Nullability) (i : Item) → bare (item_type fs i) ≡ bare (infer (struct_type fs n) (spelled i))
item-bare fs n (Field f) = sym (bare-with _ (field_type f fs))
item-bare fs n Validity = refl
