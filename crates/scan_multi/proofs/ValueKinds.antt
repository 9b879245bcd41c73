-- The value of a Bool expression is a truth value, or null, or damaged, whatever the number of the row.
use Rattle.std.proofs.Common.{◌≡◌, ℕ, Bool, true, false, cond, not, ◌&&◌, ◌||◌, Option, Some, None, List, [], ◌∷◌, bytes_eq, refl, ◌∙◌, ap, subst}
use Rattle.std.specs.Prelude.{is_some}
use Rattle.scan_values.specs.DataType.{DataType, bool_type, int_type, utf8_type, list_type, struct_type, Fields, no_fields, field, Name, nullability_of, is_nullable, with_nullability}
use Rattle.scan_values.specs.Damage.{damaged}
use Rattle.scan_values.specs.FieldLists.{dtype_named}
use Rattle.scan_values.specs.Fits.{fits, fits_fields, fits_int, is_bool_type}
use Rattle.scan_values.specs.Kinds.{is_scalar_type}
use Rattle.scan_values.specs.Marked.{Marked, lost, null, gone, boolean, integer, text, list, struct, Markeds, none, more}
use Rattle.scan_values.specs.NameFaults.{has_name}
use Rattle.scan_values.specs.Val.{marked}
use Rattle.scan_values.specs.declared.ptype.Nullability.{Nullability}
use Rattle.scan_values.specs.declared.ptype.Nullability.TheVariants.{NonNullable, Nullable}
use Rattle.scan_expr.specs.declared.op.BindFault.TheVariants.{NoField, RepeatedName, Literal}
use Rattle.scan_expr.specs.declared.op.Binary.{Binary}
use Rattle.scan_expr.specs.declared.op.Binary.TheVariants.{Mask, And, Or, Equal, NotEqual, Less, LessOrEqual, Greater, GreaterOrEqual, CheckedAdd, CheckedSub}
use Rattle.scan_expr.specs.declared.op.Unary.{Unary}
use Rattle.scan_expr.specs.declared.op.Unary.TheVariants.{GetItem, Select, Exclude, Not, IsNull, IsNotNull, ListLength}
use Rattle.scan_expr.specs.Eval.{arithmetic_value, binary_value, comparison_value, eval, eval_all, holds, integer_of, is_damaged, is_nothing, is_truth, leave, length_value, logic_value, mask_value, not_value, null_test, of_struct, order, pick, pick_all, sum_of, unary_value}
use Rattle.scan_expr.specs.Expr.{Expr, root, row_index, literal, unary, binary, pack, Parts, no_parts, part}
use Rattle.scan_expr.specs.Infer.{binary_type, chosen, either, infer, infer_all, joint_bool, raised, sum_type, type_or_bool, unary_type, without}
use Rattle.scan_expr.specs.Typing.{binary_fault, have_fields, has_field, or_fault, parts_typing_fault, repeats, typing_fault, unary_fault, unless}
use Rattle.scan_expr.proofs.Sound.{held, no_fault}

-- a value is no truth value's where the dtype is not, through the fields of structs
abbrev mutual
  pub is_kind : Marked → DataType → Bool
  is_kind lost d = true
  is_kind null d = true
  is_kind gone d = true
  is_kind (boolean b) d = true
  is_kind (integer z) d = not (is_bool_type d)
  is_kind (text s) d = not (is_bool_type d)
  is_kind (list ms) d = not (is_bool_type d)
  is_kind (struct ms) (bool_type n) = false
  is_kind (struct ms) (int_type p n) = true
  is_kind (struct ms) (utf8_type n) = true
  is_kind (struct ms) (list_type d n) = true
  is_kind (struct ms) (struct_type fs n) = are_kinds ms fs

  pub are_kinds : Markeds → Fields → Bool
  are_kinds none fs = true
  are_kinds (more m ms) no_fields = true
  are_kinds (more m ms) (field n d fs) = is_kind m d && are_kinds ms fs

both : (a b : Bool) → a ≡ true → b ≡ true → (a && b) ≡ true
both true b h k = k
both false b h k = cc

left_of : (a b : Bool) → (a && b) ≡ true → a ≡ true
left_of true b h = refl
left_of false b h = h

right_of : (a b : Bool) → (a && b) ≡ true → b ≡ true
right_of true b h = h
right_of false b h = cc

-- ---- a value that fits is of the kind
mutual
  fits_kind : (m : Marked) (d : DataType) → fits m d ≡ true → is_kind m d ≡ true
  fits_kind lost d h = refl
  fits_kind null d h = refl
  fits_kind gone d h = refl
  fits_kind (boolean b) d h = refl
  fits_kind (integer z) (bool_type n) h = cc
  fits_kind (integer z) (int_type p n) h = refl
  fits_kind (integer z) (utf8_type n) h = refl
  fits_kind (integer z) (list_type d n) h = refl
  fits_kind (integer z) (struct_type fs n) h = refl
  fits_kind (text s) (bool_type n) h = cc
  fits_kind (text s) (int_type p n) h = refl
  fits_kind (text s) (utf8_type n) h = refl
  fits_kind (text s) (list_type d n) h = refl
  fits_kind (text s) (struct_type fs n) h = refl
  fits_kind (list ms) (bool_type n) h = cc
  fits_kind (list ms) (int_type p n) h = refl
  fits_kind (list ms) (utf8_type n) h = refl
  fits_kind (list ms) (list_type d n) h = refl
  fits_kind (list ms) (struct_type fs n) h = refl
  fits_kind (struct ms) (bool_type n) h = cc
  fits_kind (struct ms) (int_type p n) h = refl
  fits_kind (struct ms) (utf8_type n) h = refl
  fits_kind (struct ms) (list_type d n) h = refl
  fits_kind (struct ms) (struct_type fs n) h = fit_kinds ms fs h

  fit_kinds : (ms : Markeds) (fs : Fields) → fits_fields ms fs ≡ true → are_kinds ms fs ≡ true
  fit_kinds none fs h = refl
  fit_kinds (more m ms) no_fields h = refl
  fit_kinds (more m ms) (field n d fs) h = both (is_kind m d) (are_kinds ms fs) (fits_kind m d (left_of (fits m d) (fits_fields ms fs) h)) (fit_kinds ms fs (right_of (fits m d) (fits_fields ms fs) h))

-- ---- a dtype that becomes nullable
bool_with : (d : DataType) (n : Nullability) → is_bool_type (with_nullability n d) ≡ is_bool_type d
bool_with (bool_type k) n = refl
bool_with (int_type p k) n = refl
bool_with (utf8_type k) n = refl
bool_with (list_type e k) n = refl
bool_with (struct_type fs k) n = refl

kind_with : (m : Marked) (d : DataType) (n : Nullability) → is_kind m d ≡ true → is_kind m (with_nullability n d) ≡ true
kind_with lost d n h = refl
kind_with null d n h = refl
kind_with gone d n h = refl
kind_with (boolean b) d n h = refl
kind_with (integer z) d n h = ap not (bool_with d n) ∙ h
kind_with (text s) d n h = ap not (bool_with d n) ∙ h
kind_with (list ms) d n h = ap not (bool_with d n) ∙ h
kind_with (struct ms) (bool_type k) n h = h
kind_with (struct ms) (int_type p k) n h = h
kind_with (struct ms) (utf8_type k) n h = h
kind_with (struct ms) (list_type e k) n h = h
kind_with (struct ms) (struct_type fs k) n h = h

-- ---- operators on one value
damaged_kind : (k : Nullability) (d : DataType) → is_kind (damaged k) d ≡ true
damaged_kind NonNullable d = refl
damaged_kind Nullable d = refl

pick_kind : (n : Name) (fs : Fields) (ms : Markeds) (t : DataType) → are_kinds ms fs ≡ true → dtype_named n fs ≡ Some t → is_kind (pick n fs ms) t ≡ true
pick_kind n no_fields ms t h e = refl
pick_kind n (field m d fs) none t h e = refl
pick_kind n (field m d fs) (more v vs) t h e = go (bytes_eq n m) (pick_kind n fs vs t (right_of (is_kind v d) (are_kinds vs fs) h)) e
  where
    go : (b : Bool) → (dtype_named n fs ≡ Some t → is_kind (pick n fs vs) t ≡ true) → cond b (Some d) (dtype_named n fs) ≡ Some t → is_kind (cond b v (pick n fs vs)) t ≡ true
    go true on e = let same : d ≡ t = cc in subst (λ z. is_kind v z ≡ true) same (left_of (is_kind v d) (are_kinds vs fs) h)
    go false on e = on e

found_kind : (n : Name) (fs : Fields) (ms : Markeds) (o : Option DataType) → dtype_named n fs ≡ o → is_some o ≡ true → are_kinds ms fs ≡ true → is_kind (pick n fs ms) (type_or_bool o) ≡ true
found_kind n fs ms None is g h = cc
found_kind n fs ms (Some t) is g h = pick_kind n fs ms t h is

item_kind : (n : Name) (m : Marked) (fs : Fields) (k : Nullability) → is_kind m (struct_type fs k) ≡ true → has_field n fs ≡ true → is_kind (of_struct (pick n fs) m) (raised k (type_or_bool (dtype_named n fs))) ≡ true
item_kind n lost fs k h e = refl
item_kind n null fs k h e = refl
item_kind n gone fs k h e = refl
item_kind n (boolean b) fs k h e = refl
item_kind n (integer z) fs k h e = refl
item_kind n (text s) fs k h e = refl
item_kind n (list ms) fs k h e = refl
item_kind n (struct ms) fs k h e = kind_with (pick n fs ms) (type_or_bool (dtype_named n fs)) (either k (nullability_of (type_or_bool (dtype_named n fs)))) (found_kind n fs ms (dtype_named n fs) refl e h)

chosen_kinds : (ns : List Name) (fs : Fields) (ms : Markeds) → are_kinds ms fs ≡ true → have_fields ns fs ≡ true → are_kinds (pick_all ns fs ms) (chosen ns fs) ≡ true
chosen_kinds [] fs ms h e = refl
chosen_kinds (n ∷ ns) fs ms h e =
    both (is_kind (pick n fs ms) (type_or_bool (dtype_named n fs))) (are_kinds (pick_all ns fs ms) (chosen ns fs))
    (found_kind n fs ms (dtype_named n fs) refl (left_of (has_field n fs) (have_fields ns fs) e) h) (chosen_kinds ns fs ms h (right_of (has_field n fs) (have_fields ns fs) e))

left_kinds : (ns : List Name) (fs : Fields) (ms : Markeds) → are_kinds ms fs ≡ true → are_kinds (leave ns fs ms) (without ns fs) ≡ true
left_kinds ns no_fields ms h = refl
left_kinds ns (field n d fs) none h = refl
left_kinds ns (field n d fs) (more v vs) h = first (has_name n ns) (left_kinds ns fs vs (right_of (is_kind v d) (are_kinds vs fs) h))
  where
    first : (b : Bool) → are_kinds (leave ns fs vs) (without ns fs) ≡ true → are_kinds (cond b (leave ns fs vs) (more v (leave ns fs vs))) (cond b (without ns fs) (field n d (without ns fs))) ≡ true
    first true rest = rest
    first false rest = both (is_kind v d) (are_kinds (leave ns fs vs) (without ns fs)) (left_of (is_kind v d) (are_kinds vs fs) h) rest

struct_kind : (m : Marked) (fs gs : Fields) (k : Nullability) (f : Markeds → Markeds) → ((ms : Markeds) → are_kinds ms fs ≡ true → are_kinds (f ms) gs ≡ true)
    → is_kind m (struct_type fs k) ≡ true → is_kind (of_struct (λ ms. struct (f ms)) m) (struct_type gs k) ≡ true
struct_kind lost fs gs k f g h = refl
struct_kind null fs gs k f g h = refl
struct_kind gone fs gs k f g h = refl
struct_kind (boolean b) fs gs k f g h = refl
struct_kind (integer z) fs gs k f g h = refl
struct_kind (text s) fs gs k f g h = refl
struct_kind (list ms) fs gs k f g h = refl
struct_kind (struct ms) fs gs k f g h = g ms h

not_kind : (m : Marked) (n : Nullability) (d : DataType) → is_kind (not_value n m) d ≡ true
not_kind lost n d = damaged_kind n d
not_kind null n d = refl
not_kind gone n d = damaged_kind n d
not_kind (boolean b) n d = refl
not_kind (integer z) n d = refl
not_kind (text s) n d = refl
not_kind (list ms) n d = refl
not_kind (struct ms) n d = refl

test_kind : (m : Marked) (want b : Bool) (d : DataType) → is_kind (cond b (null_test want m) (boolean (not want))) d ≡ true
test_kind m want false d = refl
test_kind lost want true d = refl
test_kind null want true d = refl
test_kind gone want true d = refl
test_kind (boolean c) want true d = refl
test_kind (integer z) want true d = refl
test_kind (text s) want true d = refl
test_kind (list ms) want true d = refl
test_kind (struct ms) want true d = refl

length_kind : (m : Marked) (n : Nullability) (d : DataType) → is_bool_type d ≡ false → is_kind (length_value n m) d ≡ true
length_kind lost n d h = damaged_kind n d
length_kind null n d h = refl
length_kind gone n d h = damaged_kind n d
length_kind (boolean b) n d h = refl
length_kind (integer z) n d h = refl
length_kind (text s) n d h = refl
length_kind (list ms) n d h = ap not h
length_kind (struct ms) n d h = refl

unary_kind : (u : Unary) (m : Marked) (d : DataType) → is_kind m d ≡ true → unary_fault u d ≡ None → is_kind (unary_value u d m) (unary_type u d) ≡ true
unary_kind (GetItem n) m (bool_type k) h e = cc
unary_kind (GetItem n) m (int_type p k) h e = cc
unary_kind (GetItem n) m (utf8_type k) h e = cc
unary_kind (GetItem n) m (list_type f k) h e = cc
unary_kind (GetItem n) m (struct_type fs k) h e = item_kind n m fs k h (held (has_field n fs) NoField e)
unary_kind (Select ns) m (bool_type k) h e = cc
unary_kind (Select ns) m (int_type p k) h e = cc
unary_kind (Select ns) m (utf8_type k) h e = cc
unary_kind (Select ns) m (list_type f k) h e = cc
unary_kind (Select ns) m (struct_type fs k) h e =
    let found = held (have_fields ns fs) NoField (no_fault (unless (not (repeats [] ns)) RepeatedName) (unless (have_fields ns fs) NoField) e).1 in
    struct_kind m fs (chosen ns fs) k (pick_all ns fs) (λ ms g. chosen_kinds ns fs ms g found) h
unary_kind (Exclude ns) m (bool_type k) h e = cc
unary_kind (Exclude ns) m (int_type p k) h e = cc
unary_kind (Exclude ns) m (utf8_type k) h e = cc
unary_kind (Exclude ns) m (list_type f k) h e = cc
unary_kind (Exclude ns) m (struct_type fs k) h e = struct_kind m fs (without ns fs) k (leave ns fs) (λ ms g. left_kinds ns fs ms g) h
unary_kind Not m d h e = not_kind m (nullability_of (bool_type (nullability_of d))) (bool_type (nullability_of d))
unary_kind IsNull m d h e = test_kind m true (is_nullable d) (bool_type NonNullable)
unary_kind IsNotNull m d h e = test_kind m false (is_nullable d) (bool_type NonNullable)
unary_kind ListLength m d h e = length_kind m (nullability_of d) (unary_type ListLength d) refl

-- ---- operators on two values
mask_kind : (x m : Marked) (d : DataType) → is_kind x d ≡ true → is_kind (mask_value x m) (with_nullability Nullable d) ≡ true
mask_kind x lost d h = refl
mask_kind x null d h = refl
mask_kind x gone d h = refl
mask_kind x (boolean true) d h = kind_with x d Nullable h
mask_kind x (boolean false) d h = refl
mask_kind x (integer z) d h = refl
mask_kind x (text s) d h = refl
mask_kind x (list ms) d h = refl
mask_kind x (struct ms) d h = refl

logic_kind : (b : Bool) (n : Nullability) (x y : Marked) (d : DataType) → is_kind (logic_value b n x y) d ≡ true
logic_kind b n x y d = go (is_truth b x || is_truth b y) (is_damaged x || is_damaged y) (is_truth (not b) x && is_truth (not b) y)
  where
    go : (p q r : Bool) → is_kind (cond p (boolean b) (cond q (damaged n) (cond r (boolean (not b)) null))) d ≡ true
    go true q r = refl
    go false true r = damaged_kind n d
    go false false true = refl
    go false false false = refl

comparison_kind : (o : Binary) (n : Nullability) (x y : Marked) (d : DataType) → is_kind (comparison_value o n x y) d ≡ true
comparison_kind o n x y d = go (is_nothing x || is_nothing y) (is_damaged x || is_damaged y)
  where
    go : (p q : Bool) → is_kind (cond p null (cond q (damaged n) (boolean (holds o (order x y))))) d ≡ true
    go true q = refl
    go false true = damaged_kind n d
    go false false = refl

sum_kind : (o : Binary) (x y : Marked) (d : DataType) → is_bool_type d ≡ false → is_kind (arithmetic_value o d x y) d ≡ true
sum_kind o x y d h = go (is_nothing x || is_nothing y) (is_damaged x || is_damaged y) (fits_int d (sum_of o (integer_of x) (integer_of y)))
  where
    go : (p q r : Bool) → is_kind (cond p null (cond q (damaged (nullability_of d)) (cond r (integer (sum_of o (integer_of x) (integer_of y))) gone))) d ≡ true
    go true q r = refl
    go false true r = damaged_kind (nullability_of d) d
    go false false true = ap not h
    go false false false = refl

binary_kind : (o : Binary) (x y : Marked) (d e : DataType) → is_kind x d ≡ true → is_kind (binary_value o (binary_type o d e) x y) (binary_type o d e) ≡ true
binary_kind Mask x y d e h = mask_kind x y d h
binary_kind And x y d e h = logic_kind false (nullability_of (joint_bool d e)) x y (joint_bool d e)
binary_kind Or x y d e h = logic_kind true (nullability_of (joint_bool d e)) x y (joint_bool d e)
binary_kind Equal x y d e h = comparison_kind Equal (nullability_of (joint_bool d e)) x y (joint_bool d e)
binary_kind NotEqual x y d e h = comparison_kind NotEqual (nullability_of (joint_bool d e)) x y (joint_bool d e)
binary_kind Less x y d e h = comparison_kind Less (nullability_of (joint_bool d e)) x y (joint_bool d e)
binary_kind LessOrEqual x y d e h = comparison_kind LessOrEqual (nullability_of (joint_bool d e)) x y (joint_bool d e)
binary_kind Greater x y d e h = comparison_kind Greater (nullability_of (joint_bool d e)) x y (joint_bool d e)
binary_kind GreaterOrEqual x y d e h = comparison_kind GreaterOrEqual (nullability_of (joint_bool d e)) x y (joint_bool d e)
binary_kind CheckedAdd x y d e h = sum_kind CheckedAdd x y (sum_type d e) refl
binary_kind CheckedSub x y d e h = sum_kind CheckedSub x y (sum_type d e) refl

-- ---- the whole
mutual
  eval_kind : (s : DataType) (x : Expr) (v : Marked) (i : ℕ) → is_kind v s ≡ true → typing_fault s x ≡ None → is_kind (eval s x v i) (infer s x) ≡ true
  eval_kind s root v i h t = h
  eval_kind s row_index v i h t = refl
  eval_kind s (literal d w) v i h t = fits_kind (marked w) d (right_of (is_scalar_type d) (fits (marked w) d) (held (is_scalar_type d && fits (marked w) d) Literal t))
  eval_kind s (unary u e) v i h t =
      let a = no_fault (typing_fault s e) (unary_fault u (infer s e)) t in
      unary_kind u (eval s e v i) (infer s e) (eval_kind s e v i h a.0) a.1
  eval_kind s (binary o x y) v i h t =
      let a = no_fault (typing_fault s x) (or_fault (typing_fault s y) (binary_fault o (infer s x) (infer s y))) t in
      binary_kind o (eval s x v i) (eval s y v i) (infer s x) (infer s y) (eval_kind s x v i h a.0)
  eval_kind s (pack ps n) v i h t = parts_kind s ps v i h t

  parts_kind : (s : DataType) (ps : Parts) (v : Marked) (i : ℕ) → is_kind v s ≡ true → parts_typing_fault s ps ≡ None → are_kinds (eval_all s ps v i) (infer_all s ps) ≡ true
  parts_kind s no_parts v i h t = refl
  parts_kind s (part n e ps) v i h t =
      let a = no_fault (typing_fault s e) (parts_typing_fault s ps) t in
      both (is_kind (eval s e v i) (infer s e)) (are_kinds (eval_all s ps v i) (infer_all s ps)) (eval_kind s e v i h a.0) (parts_kind s ps v i h a.1)

-- the kind of the value of an expression that types, on a value that fits
pub value_kind : (s : DataType) (x : Expr) (v : Marked) (i : ℕ) → fits v s ≡ true → typing_fault s x ≡ None → is_kind (eval s x v i) (infer s x) ≡ true
value_kind s x v i h t = eval_kind s x v i (fits_kind v s h) t
