-- A typed expression stays typed over a dtype that may be null at fewer places, and its dtype is tighter too.
use Rattle.std.proofs.Common.{◌≡◌, Bool, true, false, cond, not, ◌&&◌, Some, None, List, [], ◌∷◌, refl, ap, sym, subst, ◌∙◌, bytes_eq}
use Rattle.scan_values.specs.DataType.{DataType, bool_type, int_type, utf8_type, list_type, struct_type, Fields, no_fields, field, Name, nullability_of, with_nullability, is_null_kind}
use Rattle.scan_values.specs.declared.ptype.Nullability.{Nullability}
use Rattle.scan_values.specs.declared.ptype.Nullability.TheVariants.{NonNullable, Nullable}
use Rattle.scan_values.specs.FieldLists.{dtype_named}
use Rattle.scan_values.specs.NameFaults.{has_name}
use Rattle.scan_values.specs.Fits.{is_bool_type}
use Rattle.scan_expr.specs.declared.op.BindFault.TheVariants.{NotBool}
use Rattle.scan_expr.specs.declared.op.Unary.{Unary}
use Rattle.scan_expr.specs.declared.op.Unary.TheVariants.{GetItem, Select, Exclude, Not, IsNull, IsNotNull, ListLength}
use Rattle.scan_expr.specs.declared.op.Binary.{Binary}
use Rattle.scan_expr.specs.declared.op.Binary.TheVariants.{Mask, And, Or, Equal, NotEqual, Less, LessOrEqual, Greater, GreaterOrEqual, CheckedAdd, CheckedSub}
use Rattle.scan_expr.specs.Expr.{Expr, root, row_index, literal, unary, binary, pack, Parts, no_parts, part}
use Rattle.scan_expr.specs.Infer.{either, raised, struct_fields, type_or_bool, field_type, chosen, without, unary_type, ptype_or_u64, binary_type, infer, infer_all}
use Rattle.scan_expr.specs.Typing.{unless, binary_fault}
use Rattle.scan_partition.specs.declared.item.Item.{Item}
use Rattle.scan_partition.specs.declared.item.Item.TheVariants.{Field, Validity}
use Rattle.scan_partition.specs.Items.{spelled}
use Rattle.scan_partition.specs.Rows.{item_type}
use Rattle.scan_partition.specs.Tighter.{IsStricter, IsTighter, AreTighter}
use Rattle.scan_partition.proofs.Parted.{with_own}
use Rattle.scan_partition.proofs.Typed.{NodesTyped, AllNodesTyped, unary_fault-same, bools, logics, operands, sums}
use Rattle.scan_partition.proofs.Bare.{bare, bare_all, ptypes-same}

clash : {A : Type 0} → true ≡ false → A
clash h = absurd (go h)
  where
    go : true ≡ false → ⊥
    go h = cc

-- ---- nullabilities
stricter-refl : (n : Nullability) → IsStricter n n
stricter-refl NonNullable = tt
stricter-refl Nullable = tt

under_nullable : (n : Nullability) → IsStricter n Nullable
under_nullable NonNullable = tt
under_nullable Nullable = tt

either_stricter : (a b c d : Nullability) → IsStricter a b → IsStricter c d → IsStricter (either a c) (either b d)
either_stricter NonNullable NonNullable c d h k = k
either_stricter NonNullable Nullable c d h k = under_nullable c
either_stricter Nullable NonNullable c d h k = absurd h
either_stricter Nullable Nullable c d h k = tt

-- ---- dtypes
mutual
  pub tighter-refl : (d : DataType) → IsTighter d d
  tighter-refl (bool_type n) = stricter-refl n
  tighter-refl (int_type p n) = (refl, stricter-refl n)
  tighter-refl (utf8_type n) = stricter-refl n
  tighter-refl (list_type d n) = (tighter-refl d, stricter-refl n)
  tighter-refl (struct_type fs n) = (all_tighter-refl fs, stricter-refl n)

  all_tighter-refl : (fs : Fields) → AreTighter fs fs
  all_tighter-refl no_fields = tt
  all_tighter-refl (field n d fs) = (refl, tighter-refl d, all_tighter-refl fs)

mutual
  pub tighter-bare : (d e : DataType) → IsTighter d e → bare d ≡ bare e
  tighter-bare (bool_type n) (bool_type m) h = refl
  tighter-bare (bool_type n) _ h = absurd h
  tighter-bare (int_type p n) (int_type q m) h = ap (λ p. int_type p Nullable) h.0
  tighter-bare (int_type p n) _ h = absurd h
  tighter-bare (utf8_type n) (utf8_type m) h = refl
  tighter-bare (utf8_type n) _ h = absurd h
  tighter-bare (list_type d n) (list_type e m) h = ap (λ d. list_type d Nullable) (tighter-bare d e h.0)
  tighter-bare (list_type d n) _ h = absurd h
  tighter-bare (struct_type fs n) (struct_type gs m) h = ap (λ fs. struct_type fs Nullable) (all_tighter-bare fs gs h.0)
  tighter-bare (struct_type fs n) _ h = absurd h

  all_tighter-bare : (fs gs : Fields) → AreTighter fs gs → bare_all fs ≡ bare_all gs
  all_tighter-bare no_fields no_fields h = refl
  all_tighter-bare no_fields (field m e gs) h = absurd h
  all_tighter-bare (field n d fs) no_fields h = absurd h
  all_tighter-bare (field n d fs) (field m e gs) h = λ i. field (h.0 i) (tighter-bare d e h.1 i) (all_tighter-bare fs gs h.2 i)

pub null_stricter : (d e : DataType) → IsTighter d e → IsStricter (nullability_of d) (nullability_of e)
null_stricter (bool_type n) (bool_type m) h = h
null_stricter (bool_type n) _ h = absurd h
null_stricter (int_type p n) (int_type q m) h = h.1
null_stricter (int_type p n) _ h = absurd h
null_stricter (utf8_type n) (utf8_type m) h = h
null_stricter (utf8_type n) _ h = absurd h
null_stricter (list_type d n) (list_type e m) h = h.1
null_stricter (list_type d n) _ h = absurd h
null_stricter (struct_type fs n) (struct_type gs m) h = h.1
null_stricter (struct_type fs n) _ h = absurd h

with_tighter : (a b : Nullability) (d e : DataType) → IsStricter a b → IsTighter d e → IsTighter (with_nullability a d) (with_nullability b e)
with_tighter a b (bool_type n) (bool_type m) k h = k
with_tighter a b (bool_type n) _ k h = absurd h
with_tighter a b (int_type p n) (int_type q m) k h = (h.0, k)
with_tighter a b (int_type p n) _ k h = absurd h
with_tighter a b (utf8_type n) (utf8_type m) k h = k
with_tighter a b (utf8_type n) _ k h = absurd h
with_tighter a b (list_type d n) (list_type e m) k h = (h.0, k)
with_tighter a b (list_type d n) _ k h = absurd h
with_tighter a b (struct_type fs n) (struct_type gs m) k h = (h.0, k)
with_tighter a b (struct_type fs n) _ k h = absurd h

fields_tighter : (d e : DataType) → IsTighter d e → AreTighter (struct_fields d) (struct_fields e)
fields_tighter (bool_type n) (bool_type m) h = tt
fields_tighter (bool_type n) _ h = absurd h
fields_tighter (int_type p n) (int_type q m) h = tt
fields_tighter (int_type p n) _ h = absurd h
fields_tighter (utf8_type n) (utf8_type m) h = tt
fields_tighter (utf8_type n) _ h = absurd h
fields_tighter (list_type d n) (list_type e m) h = tt
fields_tighter (list_type d n) _ h = absurd h
fields_tighter (struct_type fs n) (struct_type gs m) h = h.0
fields_tighter (struct_type fs n) _ h = absurd h

field_tighter : (n : Name) (fs gs : Fields) → AreTighter fs gs → IsTighter (field_type n fs) (field_type n gs)
field_tighter n no_fields no_fields h = tt
field_tighter n no_fields (field k e gs) h = absurd h
field_tighter n (field m d fs) no_fields h = absurd h
field_tighter n (field m d fs) (field k e gs) h = go (bytes_eq n m) (bytes_eq n k) (ap (bytes_eq n) h.0) h.1 (field_tighter n fs gs h.2)
  where
    go : (b c : Bool) → b ≡ c → IsTighter d e → IsTighter (field_type n fs) (field_type n gs) → IsTighter (type_or_bool (cond b (Some d) (dtype_named n fs))) (type_or_bool (cond c (Some e) (dtype_named n gs)))
    go true true q a f = a
    go true false q a f = clash q
    go false true q a f = clash (sym q)
    go false false q a f = f

chosen_tighter : (ns : List Name) (fs gs : Fields) → AreTighter fs gs → AreTighter (chosen ns fs) (chosen ns gs)
chosen_tighter [] fs gs h = tt
chosen_tighter (n ∷ ns) fs gs h = (refl, field_tighter n fs gs h, chosen_tighter ns fs gs h)

without_tighter : (ns : List Name) (fs gs : Fields) → AreTighter fs gs → AreTighter (without ns fs) (without ns gs)
without_tighter ns no_fields no_fields h = tt
without_tighter ns no_fields (field k e gs) h = absurd h
without_tighter ns (field m d fs) no_fields h = absurd h
without_tighter ns (field m d fs) (field k e gs) h = go (has_name m ns) (has_name k ns) (ap (λ n. has_name n ns) h.0) (without_tighter ns fs gs h.2)
  where
    go : (b c : Bool) → b ≡ c → AreTighter (without ns fs) (without ns gs) → AreTighter (cond b (without ns fs) (field m d (without ns fs))) (cond c (without ns gs) (field k e (without ns gs)))
    go true true q f = f
    go true false q f = clash q
    go false true q f = clash (sym q)
    go false false q f = (h.0, h.1, f)

unary_tighter : (u : Unary) (d e : DataType) → IsTighter d e → IsTighter (unary_type u d) (unary_type u e)
unary_tighter (GetItem n) d e h =
    let f = field_tighter n (struct_fields d) (struct_fields e) (fields_tighter d e h) in
    with_tighter (either (nullability_of d) (nullability_of (field_type n (struct_fields d)))) (either (nullability_of e) (nullability_of (field_type n (struct_fields e)))) (field_type n (struct_fields d)) (field_type n (struct_fields e))
    (either_stricter (nullability_of d) (nullability_of e) (nullability_of (field_type n (struct_fields d))) (nullability_of (field_type n (struct_fields e))) (null_stricter d e h) (null_stricter (field_type n (struct_fields d)) (field_type n (struct_fields e)) f)) f
unary_tighter (Select ns) d e h = (chosen_tighter ns (struct_fields d) (struct_fields e) (fields_tighter d e h), null_stricter d e h)
unary_tighter (Exclude ns) d e h = (without_tighter ns (struct_fields d) (struct_fields e) (fields_tighter d e h), null_stricter d e h)
unary_tighter Not d e h = null_stricter d e h
unary_tighter IsNull d e h = tt
unary_tighter IsNotNull d e h = tt
unary_tighter ListLength d e h = (refl, null_stricter d e h)

nulls_tighter : (d e f g : DataType) → IsTighter d e → IsTighter f g → IsStricter (either (nullability_of d) (nullability_of f)) (either (nullability_of e) (nullability_of g))
nulls_tighter d e f g h k = either_stricter (nullability_of d) (nullability_of e) (nullability_of f) (nullability_of g) (null_stricter d e h) (null_stricter f g k)

binary_tighter : (b : Binary) (d e f g : DataType) → IsTighter d e → IsTighter f g → IsTighter (binary_type b d f) (binary_type b e g)
binary_tighter Mask d e f g h k = with_tighter Nullable Nullable d e tt h
binary_tighter And d e f g h k = nulls_tighter d e f g h k
binary_tighter Or d e f g h k = nulls_tighter d e f g h k
binary_tighter Equal d e f g h k = nulls_tighter d e f g h k
binary_tighter NotEqual d e f g h k = nulls_tighter d e f g h k
binary_tighter Less d e f g h k = nulls_tighter d e f g h k
binary_tighter LessOrEqual d e f g h k = nulls_tighter d e f g h k
binary_tighter Greater d e f g h k = nulls_tighter d e f g h k
binary_tighter GreaterOrEqual d e f g h k = nulls_tighter d e f g h k
binary_tighter CheckedAdd d e f g h k = (ap ptype_or_u64 (ptypes-same d e (tighter-bare d e h)), nulls_tighter d e f g h k)
binary_tighter CheckedSub d e f g h k = (ap ptype_or_u64 (ptypes-same d e (tighter-bare d e h)), nulls_tighter d e f g h k)

mutual
  pub infer_tighter : (d e : DataType) (x : Expr) → IsTighter d e → IsTighter (infer d x) (infer e x)
  infer_tighter d e root h = h
  infer_tighter d e row_index h = (refl, tt)
  infer_tighter d e (literal t v) h = tighter-refl t
  infer_tighter d e (unary u x) h = unary_tighter u (infer d x) (infer e x) (infer_tighter d e x h)
  infer_tighter d e (binary b x y) h = binary_tighter b (infer d x) (infer e x) (infer d y) (infer e y) (infer_tighter d e x h) (infer_tighter d e y h)
  infer_tighter d e (pack ps n) h = (infer_all_tighter d e ps h, stricter-refl n)

  infer_all_tighter : (d e : DataType) (ps : Parts) → IsTighter d e → AreTighter (infer_all d ps) (infer_all e ps)
  infer_all_tighter d e no_parts h = tt
  infer_all_tighter d e (part n x ps) h = (refl, infer_tighter d e x h, infer_all_tighter d e ps h)

-- ---- the conditions of nodes
-- a mask is a Bool that is not nullable
mask_typed : (f g : DataType) → IsTighter f g → is_bool_type f ≡ is_bool_type g → unless (is_bool_type g && not (is_null_kind (nullability_of g))) NotBool ≡ None → unless (is_bool_type f && not (is_null_kind (nullability_of f))) NotBool ≡ None
mask_typed f g h q t = go (is_bool_type f) (is_bool_type g) (nullability_of f) (nullability_of g) q (null_stricter f g h) t
  where
    go : (a b : Bool) (n m : Nullability) → a ≡ b → IsStricter n m → unless (b && not (is_null_kind m)) NotBool ≡ None → unless (a && not (is_null_kind n)) NotBool ≡ None
    go true true NonNullable m q h t = refl
    go true true Nullable NonNullable q h t = absurd h
    go true true Nullable Nullable q h t = t
    go true false n m q h t = clash q
    go false b n m q h t = cc

binary_typed : (b : Binary) (d e f g : DataType) → IsTighter d e → IsTighter f g → binary_fault b e g ≡ None → binary_fault b d f ≡ None
binary_typed b d e f g h k t = go b t
  where
    p : bare d ≡ bare e
    p = tighter-bare d e h

    q : bare f ≡ bare g
    q = tighter-bare f g k

    go : (b : Binary) → binary_fault b e g ≡ None → binary_fault b d f ≡ None
    go Mask t = mask_typed f g k (bools d e f g p q f g q) t
    go And t = logics d e f g p q ∙ t
    go Or t = logics d e f g p q ∙ t
    go Equal t = operands d e f g p q ∙ t
    go NotEqual t = operands d e f g p q ∙ t
    go Less t = operands d e f g p q ∙ t
    go LessOrEqual t = operands d e f g p q ∙ t
    go Greater t = operands d e f g p q ∙ t
    go GreaterOrEqual t = operands d e f g p q ∙ t
    go CheckedAdd t = sums d e f g p q ∙ t
    go CheckedSub t = sums d e f g p q ∙ t

mutual
  pub tighter_typed : (d e : DataType) (x : Expr) → IsTighter d e → NodesTyped e x → NodesTyped d x
  tighter_typed d e root h t = tt
  tighter_typed d e row_index h t = tt
  tighter_typed d e (literal s v) h t = t
  tighter_typed d e (unary u x) h t = (unary_fault-same u (infer d x) (infer e x) (tighter-bare (infer d x) (infer e x) (infer_tighter d e x h)) ∙ t.0, tighter_typed d e x h t.1)
  tighter_typed d e (binary b x y) h t = (binary_typed b (infer d x) (infer e x) (infer d y) (infer e y) (infer_tighter d e x h) (infer_tighter d e y h) t.0, tighter_typed d e x h t.1, tighter_typed d e y h t.2)
  tighter_typed d e (pack ps n) h t = all_tighter_typed d e ps h t

  all_tighter_typed : (d e : DataType) (ps : Parts) → IsTighter d e → AllNodesTyped e ps → AllNodesTyped d ps
  all_tighter_typed d e no_parts h t = tt
  all_tighter_typed d e (part n x ps) h t = (tighter_typed d e x h t.0, all_tighter_typed d e ps h t.1)

-- ---- an item's own dtype, and what the item has over the struct
either_right : (n m : Nullability) → IsStricter m (either n m)
either_right NonNullable m = stricter-refl m
either_right Nullable m = under_nullable m

raised_tighter : (n : Nullability) (d : DataType) → IsTighter d (raised n d)
raised_tighter n d = subst (λ (e : DataType). IsTighter e (raised n d)) (with_own d) (with_tighter (nullability_of d) (either n (nullability_of d)) d d (either_right n (nullability_of d)) (tighter-refl d))

pub item_tighter : (fs : Fields) (n : Nullability) (i : Item) → IsTighter (item_type fs i) (infer (struct_type fs n) (spelled i))
item_tighter fs n (Field f) = raised_tighter n (field_type f fs)
item_tighter fs n Validity = tt
