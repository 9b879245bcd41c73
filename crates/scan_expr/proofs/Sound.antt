-- The value of an expression is one of its dtype.
use Rattle.std.proofs.Common.{◌≡◌, ℕ, ℤ, ◌<◌, ◌^◌, Bool, true, false, cond, not, ◌&&◌, ◌||◌, Option, Some, None, List, [], ◌∷◌, map, refl, arith}
use Rattle.std.specs.Prelude.{is_some}
use Rattle.std.proofs.lemmas.Bool.Decides.{nat_tests}
use Rattle.scan_values.specs.DataType.{DataType, bool_type, int_type, utf8_type, list_type, struct_type, Fields, no_fields, field, Name, nullability_of, is_nullable, is_null_kind, with_nullability}
use Rattle.scan_values.specs.FieldLists.{dtype_named}
use Rattle.scan_values.specs.Kinds.{is_scalar_type}
use Rattle.scan_values.specs.Damage.{damaged}
use Rattle.scan_values.specs.Val.{Val, vals_of, marked, marked_all}
use Rattle.scan_values.specs.declared.ptype.Nullability.{Nullability}
use Rattle.scan_values.specs.declared.ptype.Nullability.TheVariants.{NonNullable, Nullable}
use Rattle.scan_values.specs.declared.ptype.PType.{PType}
use Rattle.scan_values.specs.declared.ptype.PType.TheVariants.{U64}
use Rattle.scan_values.specs.Ranges.{in_range}
use Rattle.scan_values.specs.Kinds.{ptype_of}
use Rattle.scan_values.specs.NameFaults.{has_name}
use Rattle.scan_values.specs.Fits.{fits, fits_all, fits_fields, is_short, is_bool_type}
use Rattle.scan_values.specs.Marked.{Marked, lost, null, gone, boolean, integer, text, list, struct, Markeds, none, more, chained}
use Rattle.scan_expr.specs.declared.op.Unary.{Unary}
use Rattle.scan_expr.specs.declared.op.Unary.TheVariants.{GetItem, Select, Exclude, Not, IsNull, IsNotNull, ListLength}
use Rattle.scan_expr.specs.declared.op.Binary.{Binary}
use Rattle.scan_expr.specs.declared.op.Binary.TheVariants.{Mask, And, Or, Equal, NotEqual, Less, LessOrEqual, Greater, GreaterOrEqual, CheckedAdd, CheckedSub}
use Rattle.scan_expr.specs.declared.op.BindFault.{BindFault}
use Rattle.scan_expr.specs.declared.op.BindFault.TheVariants.{NoField, NotBool, RepeatedName, Literal}
use Rattle.scan_expr.specs.Infer.{either, raised, chosen, without, type_or_bool, ptype_or_u64, sum_type, unary_type, binary_type, infer, infer_all}
use Rattle.scan_expr.specs.Typing.{Fault, or_fault, unless, has_field, have_fields, repeats, unary_fault, binary_fault, typing_fault, parts_typing_fault}
use Rattle.scan_expr.specs.Eval.{not_value, null_test, length_value, of_struct, pick, pick_all, leave, is_nothing, is_damaged, is_truth, holds, order, unary_value, binary_value, mask_value, logic_value, comparison_value, integer_of, sum_of, checked, arithmetic_value, eval, eval_all}
use Rattle.scan_expr.specs.Expr.{Expr, root, row_index, literal, unary, binary, pack, Parts, no_parts, part}
use Rattle.scan_expr.proofs.Fitting.{fits-nullable, fits-either, pick_fits, and_left, and_right, is_nullable-with}

-- ---- no fault
pub no_fault : (f g : Fault) → or_fault f g ≡ None → (f ≡ None) × (g ≡ None)
no_fault None g h = (refl, h)
no_fault (Some e) g h = cc

pub held : (b : Bool) (e : BindFault) → unless b e ≡ None → b ≡ true
held true e h = refl
held false e h = cc

-- ---- operators on one value
damaged_fits : (n : Nullability) → fits (damaged n) (bool_type n) ≡ true
damaged_fits NonNullable = refl
damaged_fits Nullable = refl

not_fits : (m : Marked) (n : Nullability) → fits m (bool_type n) ≡ true → fits (not_value n m) (bool_type n) ≡ true
not_fits lost n h = damaged_fits n
not_fits null n h = h
not_fits gone n h = damaged_fits n
not_fits (boolean b) n h = refl
not_fits (integer z) n h = cc
not_fits (text s) n h = cc
not_fits (list ms) n h = cc
not_fits (struct ms) n h = cc

null_test_fits : (m : Marked) (want b : Bool) (n : Nullability) → fits (cond b (null_test want m) (boolean (not want))) (bool_type n) ≡ true
null_test_fits m want false n = refl
null_test_fits lost want true n = refl
null_test_fits null want true n = refl
null_test_fits gone want true n = refl
null_test_fits (boolean c) want true n = refl
null_test_fits (integer z) want true n = refl
null_test_fits (text s) want true n = refl
null_test_fits (list ms) want true n = refl
null_test_fits (struct ms) want true n = refl

damaged_fits_int : (n : Nullability) → fits (damaged n) (int_type U64 n) ≡ true
damaged_fits_int NonNullable = refl
damaged_fits_int Nullable = refl

length_fits : (m : Marked) (e : DataType) (n : Nullability) → fits m (list_type e n) ≡ true → fits (length_value n m) (int_type U64 n) ≡ true
length_fits lost e n h = damaged_fits_int n
length_fits null e n h = h
length_fits gone e n h = damaged_fits_int n
length_fits (boolean b) e n h = cc
length_fits (integer z) e n h = cc
length_fits (text s) e n h = cc
length_fits (list ms) e n h = and_left (is_short ms) (fits_all ms e) h
length_fits (struct ms) e n h = cc

get_item_fits : (n : Name) (m : Marked) (fs : Fields) (k : Nullability) (t : DataType) → fits m (struct_type fs k) ≡ true → dtype_named n fs ≡ Some t
    → fits (of_struct (pick n fs) m) (raised k t) ≡ true
get_item_fits n lost fs NonNullable t h e = cc
get_item_fits n lost fs Nullable t h e = is_nullable-with t
get_item_fits n null fs NonNullable t h e = cc
get_item_fits n null fs Nullable t h e = is_nullable-with t
get_item_fits n gone fs k t h e = cc
get_item_fits n (boolean b) fs k t h e = cc
get_item_fits n (integer z) fs k t h e = cc
get_item_fits n (text s) fs k t h e = cc
get_item_fits n (list ms) fs k t h e = cc
get_item_fits n (struct ms) fs k t h e = fits-either (pick n fs ms) t k (pick_fits n fs ms t h e)

get_item_sound : (n : Name) (m : Marked) (d : DataType) → fits m d ≡ true → unary_fault (GetItem n) d ≡ None → fits (unary_value (GetItem n) d m) (unary_type (GetItem n) d) ≡ true
get_item_sound n m (bool_type k) h e = cc
get_item_sound n m (int_type p k) h e = cc
get_item_sound n m (utf8_type k) h e = cc
get_item_sound n m (list_type f k) h e = cc
get_item_sound n m (struct_type fs k) h e = found (dtype_named n fs) refl (held (has_field n fs) NoField e)
  where
    found : (o : Option DataType) → dtype_named n fs ≡ o → is_some o ≡ true → fits (of_struct (pick n fs) m) (raised k (type_or_bool o)) ≡ true
    found None is g = cc
    found (Some t) is g = get_item_fits n m fs k t h is

not_sound : (m : Marked) (d : DataType) → fits m d ≡ true → unary_fault Not d ≡ None → fits (unary_value Not d m) (unary_type Not d) ≡ true
not_sound m (bool_type k) h e = not_fits m k h
not_sound m (int_type p k) h e = cc
not_sound m (utf8_type k) h e = cc
not_sound m (list_type f k) h e = cc
not_sound m (struct_type fs k) h e = cc

length_sound : (m : Marked) (d : DataType) → fits m d ≡ true → unary_fault ListLength d ≡ None → fits (unary_value ListLength d m) (unary_type ListLength d) ≡ true
length_sound m (bool_type k) h e = cc
length_sound m (int_type p k) h e = cc
length_sound m (utf8_type k) h e = cc
length_sound m (list_type f k) h e = length_fits m f k h
length_sound m (struct_type fs k) h e = cc

-- ---- fields that are chosen, and those that are left
chosen_fits : (ns : List Name) (fs : Fields) (ms : Markeds) → fits_fields ms fs ≡ true → have_fields ns fs ≡ true → fits_fields (pick_all ns fs ms) (chosen ns fs) ≡ true
chosen_fits [] fs ms h e = refl
chosen_fits (n ∷ ns) fs ms h e =
    rw (found (dtype_named n fs) refl (and_left (has_field n fs) (have_fields ns fs) e)) (chosen_fits ns fs ms h (and_right (has_field n fs) (have_fields ns fs) e))
  where
    found : (o : Option DataType) → dtype_named n fs ≡ o → is_some o ≡ true → fits (pick n fs ms) (type_or_bool o) ≡ true
    found None is g = cc
    found (Some d) is g = pick_fits n fs ms d h is

left_fits : (ns : List Name) (fs : Fields) (ms : Markeds) → fits_fields ms fs ≡ true → fits_fields (leave ns fs ms) (without ns fs) ≡ true
left_fits ns no_fields ms h = refl
left_fits ns (field n d fs) none h = cc
left_fits ns (field n d fs) (more v vs) h = first (has_name n ns) (left_fits ns fs vs (and_right (fits v d) (fits_fields vs fs) h))
  where
    first : (b : Bool) → fits_fields (leave ns fs vs) (without ns fs) ≡ true → fits_fields (cond b (leave ns fs vs) (more v (leave ns fs vs))) (cond b (without ns fs) (field n d (without ns fs))) ≡ true
    first true rest = rest
    first false rest = rw (and_left (fits v d) (fits_fields vs fs) h) rest

of_struct_fits : (m : Marked) (fs gs : Fields) (k : Nullability) (f : Markeds → Markeds) → ((ms : Markeds) → fits_fields ms fs ≡ true → fits_fields (f ms) gs ≡ true)
    → fits m (struct_type fs k) ≡ true → fits (of_struct (λ ms. struct (f ms)) m) (struct_type gs k) ≡ true
of_struct_fits lost fs gs k f g h = h
of_struct_fits null fs gs k f g h = h
of_struct_fits gone fs gs k f g h = cc
of_struct_fits (boolean b) fs gs k f g h = cc
of_struct_fits (integer z) fs gs k f g h = cc
of_struct_fits (text s) fs gs k f g h = cc
of_struct_fits (list ms) fs gs k f g h = cc
of_struct_fits (struct ms) fs gs k f g h = g ms h

select_sound : (ns : List Name) (m : Marked) (d : DataType) → fits m d ≡ true → unary_fault (Select ns) d ≡ None → fits (unary_value (Select ns) d m) (unary_type (Select ns) d) ≡ true
select_sound ns m (bool_type k) h e = cc
select_sound ns m (int_type p k) h e = cc
select_sound ns m (utf8_type k) h e = cc
select_sound ns m (list_type f k) h e = cc
select_sound ns m (struct_type fs k) h e =
    let found = held (have_fields ns fs) NoField (no_fault (unless (not (repeats [] ns)) RepeatedName) (unless (have_fields ns fs) NoField) e).1 in
    of_struct_fits m fs (chosen ns fs) k (pick_all ns fs) (λ ms g. chosen_fits ns fs ms g found) h

exclude_sound : (ns : List Name) (m : Marked) (d : DataType) → fits m d ≡ true → unary_fault (Exclude ns) d ≡ None → fits (unary_value (Exclude ns) d m) (unary_type (Exclude ns) d) ≡ true
exclude_sound ns m (bool_type k) h e = cc
exclude_sound ns m (int_type p k) h e = cc
exclude_sound ns m (utf8_type k) h e = cc
exclude_sound ns m (list_type f k) h e = cc
exclude_sound ns m (struct_type fs k) h e = of_struct_fits m fs (without ns fs) k (leave ns fs) (λ ms g. left_fits ns fs ms g) h

pub unary_sound : (u : Unary) (m : Marked) (d : DataType) → fits m d ≡ true → unary_fault u d ≡ None → fits (unary_value u d m) (unary_type u d) ≡ true
unary_sound (GetItem n) m d h e = get_item_sound n m d h e
unary_sound (Select ns) m d h e = select_sound ns m d h e
unary_sound (Exclude ns) m d h e = exclude_sound ns m d h e
unary_sound Not m d h e = not_sound m d h e
unary_sound IsNull m d h e = null_test_fits m true (is_nullable d) NonNullable
unary_sound IsNotNull m d h e = null_test_fits m false (is_nullable d) NonNullable
unary_sound ListLength m d h e = length_sound m d h e

-- ---- operators on two values
nothing_nullable : (m : Marked) (d : DataType) → fits m d ≡ true → is_nothing m ≡ true → is_null_kind (nullability_of d) ≡ true
nothing_nullable lost d h e = cc
nothing_nullable null d h e = h
nothing_nullable gone d h e = cc
nothing_nullable (boolean b) d h e = cc
nothing_nullable (integer z) d h e = cc
nothing_nullable (text s) d h e = cc
nothing_nullable (list ms) d h e = cc
nothing_nullable (struct ms) d h e = cc

either_nullable : (a b : Nullability) → (is_null_kind a || is_null_kind b) ≡ true → is_null_kind (either a b) ≡ true
either_nullable NonNullable b h = h
either_nullable Nullable b h = refl

one_nothing : (x y : Marked) (d e : DataType) → fits x d ≡ true → fits y e ≡ true → (is_nothing x || is_nothing y) ≡ true → is_null_kind (either (nullability_of d) (nullability_of e)) ≡ true
one_nothing x y d e g h w = first (is_nothing x) refl w
  where
    first : (b : Bool) → is_nothing x ≡ b → (b || is_nothing y) ≡ true → is_null_kind (either (nullability_of d) (nullability_of e)) ≡ true
    first true is w = either_nullable (nullability_of d) (nullability_of e) (rw (nothing_nullable x d g is) refl)
    first false is w = either_nullable (nullability_of d) (nullability_of e) (second (is_null_kind (nullability_of d)) (nothing_nullable y e h w))
      where
        second : (a : Bool) → is_null_kind (nullability_of e) ≡ true → (a || is_null_kind (nullability_of e)) ≡ true
        second true q = refl
        second false q = q

or_none : (a b : Bool) → (a || b) ≡ false → (a ≡ false) × (b ≡ false)
or_none true b h = cc
or_none false b h = (refl, h)

-- a Bool that is neither truth value, nor damaged, is null
neither_truth : (b : Bool) (x : Marked) (k : Nullability) → fits x (bool_type k) ≡ true → is_truth b x ≡ false → is_damaged x ≡ false → is_truth (not b) x ≡ false → is_null_kind k ≡ true
neither_truth b lost k h t d f = cc
neither_truth b null k h t d f = h
neither_truth b gone k h t d f = cc
neither_truth true (boolean true) k h t d f = cc
neither_truth true (boolean false) k h t d f = cc
neither_truth false (boolean true) k h t d f = cc
neither_truth false (boolean false) k h t d f = cc
neither_truth b (integer z) k h t d f = cc
neither_truth b (text s) k h t d f = cc
neither_truth b (list ms) k h t d f = cc
neither_truth b (struct ms) k h t d f = cc

either_left : (a b : Nullability) → is_null_kind a ≡ true → is_null_kind (either a b) ≡ true
either_left NonNullable b h = cc
either_left Nullable b h = refl

either_right : (a b : Nullability) → is_null_kind b ≡ true → is_null_kind (either a b) ≡ true
either_right NonNullable b h = h
either_right Nullable b h = refl

logic_null : (b : Bool) (x y : Marked) (j k : Nullability) → fits x (bool_type j) ≡ true → fits y (bool_type k) ≡ true
    → (is_truth b x || is_truth b y) ≡ false → (is_damaged x || is_damaged y) ≡ false → (is_truth (not b) x && is_truth (not b) y) ≡ false → is_null_kind (either j k) ≡ true
logic_null b x y j k g h t d f =
    let t2 = or_none (is_truth b x) (is_truth b y) t in
    let d2 = or_none (is_damaged x) (is_damaged y) d in
    first (is_truth (not b) x) f (λ e. neither_truth b x j g t2.0 d2.0 e) (λ e. neither_truth b y k h t2.1 d2.1 e) refl
  where
    first : (c : Bool) → (c && is_truth (not b) y) ≡ false → (is_truth (not b) x ≡ false → is_null_kind j ≡ true) → (is_truth (not b) y ≡ false → is_null_kind k ≡ true) → is_truth (not b) x ≡ c → is_null_kind (either j k) ≡ true
    first true f p q e = either_right j k (q f)
    first false f p q e = either_left j k (p e)

logic_fits : (a c e b b' : Bool) (n : Nullability) → (a ≡ false → c ≡ false → e ≡ false → is_null_kind n ≡ true) → fits (cond a (boolean b) (cond c (damaged n) (cond e (boolean b') null))) (bool_type n) ≡ true
logic_fits true c e b b' n h = refl
logic_fits false true e b b' n h = damaged_fits n
logic_fits false false true b b' n h = refl
logic_fits false false false b b' n h = h refl refl refl

comparison_fits : (e c b : Bool) (n : Nullability) → (e ≡ true → is_null_kind n ≡ true) → fits (cond e null (cond c (damaged n) (boolean b))) (bool_type n) ≡ true
comparison_fits true c b n h = h refl
comparison_fits false true b n h = damaged_fits n
comparison_fits false false b n h = refl

mask_fits : (x m : Marked) (d : DataType) → fits x d ≡ true → fits (mask_value x m) (with_nullability Nullable d) ≡ true
mask_fits x lost d h = is_nullable-with d
mask_fits x null d h = is_nullable-with d
mask_fits x gone d h = is_nullable-with d
mask_fits x (boolean true) d h = fits-nullable x d h
mask_fits x (boolean false) d h = is_nullable-with d
mask_fits x (integer z) d h = is_nullable-with d
mask_fits x (text s) d h = is_nullable-with d
mask_fits x (list ms) d h = is_nullable-with d
mask_fits x (struct ms) d h = is_nullable-with d

logic_sound : (b : Bool) (x y : Marked) (d e : DataType) → fits x d ≡ true → fits y e ≡ true → is_bool_type d ≡ true → is_bool_type e ≡ true
    → fits (logic_value b (either (nullability_of d) (nullability_of e)) x y) (bool_type (either (nullability_of d) (nullability_of e))) ≡ true
logic_sound b x y (int_type p j) e g h s t = cc
logic_sound b x y (utf8_type j) e g h s t = cc
logic_sound b x y (list_type f j) e g h s t = cc
logic_sound b x y (struct_type fs j) e g h s t = cc
logic_sound b x y (bool_type j) (int_type p k) g h s t = cc
logic_sound b x y (bool_type j) (utf8_type k) g h s t = cc
logic_sound b x y (bool_type j) (list_type f k) g h s t = cc
logic_sound b x y (bool_type j) (struct_type fs k) g h s t = cc
logic_sound b x y (bool_type j) (bool_type k) g h s t =
    logic_fits (is_truth b x || is_truth b y) (is_damaged x || is_damaged y) (is_truth (not b) x && is_truth (not b) y) b (not b) (either j k) (logic_null b x y j k g h)

both_bool : (d e : DataType) → or_fault (unless (is_bool_type d) NotBool) (unless (is_bool_type e) NotBool) ≡ None → (is_bool_type d ≡ true) × (is_bool_type e ≡ true)
both_bool d e h =
    let p = no_fault (unless (is_bool_type d) NotBool) (unless (is_bool_type e) NotBool) h in
    (held (is_bool_type d) NotBool p.0, held (is_bool_type e) NotBool p.1)

comparison_sound : (o : Binary) (x y : Marked) (d e : DataType) → fits x d ≡ true → fits y e ≡ true
    → fits (comparison_value o (either (nullability_of d) (nullability_of e)) x y) (bool_type (either (nullability_of d) (nullability_of e))) ≡ true
comparison_sound o x y d e g h =
    comparison_fits (is_nothing x || is_nothing y) (is_damaged x || is_damaged y) (holds o (order x y)) (either (nullability_of d) (nullability_of e)) (one_nothing x y d e g h)

checked_fits : (z : ℤ) (p : PType) (n : Nullability) → fits (checked (int_type p n) z) (int_type p n) ≡ true
checked_fits z p n = go (in_range p z) refl
  where
    go : (b : Bool) → in_range p z ≡ b → fits (cond b (integer z) gone) (int_type p n) ≡ true
    go true is = is
    go false is = refl

arithmetic_fits : (a c : Bool) (z : ℤ) (p : PType) (n : Nullability) → (a ≡ true → is_null_kind n ≡ true) → fits (cond a null (cond c (damaged n) (checked (int_type p n) z))) (int_type p n) ≡ true
arithmetic_fits true c z p n h = h refl
arithmetic_fits false true z p NonNullable h = refl
arithmetic_fits false true z p Nullable h = refl
arithmetic_fits false false z p n h = checked_fits z p n

arithmetic_sound : (o : Binary) (x y : Marked) (d e : DataType) → fits x d ≡ true → fits y e ≡ true → fits (arithmetic_value o (sum_type d e) x y) (sum_type d e) ≡ true
arithmetic_sound o x y d e g h =
    arithmetic_fits (is_nothing x || is_nothing y) (is_damaged x || is_damaged y) (sum_of o (integer_of x) (integer_of y)) (ptype_or_u64 (ptype_of d)) (either (nullability_of d) (nullability_of e)) (one_nothing x y d e g h)

pub binary_sound : (o : Binary) (x y : Marked) (d e : DataType) → fits x d ≡ true → fits y e ≡ true → binary_fault o d e ≡ None → fits (binary_value o (binary_type o d e) x y) (binary_type o d e) ≡ true
binary_sound Mask x y d e g h t = mask_fits x y d g
binary_sound And x y d e g h t = let b = both_bool d e t in logic_sound false x y d e g h b.0 b.1
binary_sound Or x y d e g h t = let b = both_bool d e t in logic_sound true x y d e g h b.0 b.1
binary_sound Equal x y d e g h t = comparison_sound Equal x y d e g h
binary_sound NotEqual x y d e g h t = comparison_sound NotEqual x y d e g h
binary_sound Less x y d e g h t = comparison_sound Less x y d e g h
binary_sound LessOrEqual x y d e g h t = comparison_sound LessOrEqual x y d e g h
binary_sound Greater x y d e g h t = comparison_sound Greater x y d e g h
binary_sound GreaterOrEqual x y d e g h t = comparison_sound GreaterOrEqual x y d e g h
binary_sound CheckedAdd x y d e g h t = arithmetic_sound CheckedAdd x y d e g h
binary_sound CheckedSub x y d e g h t = arithmetic_sound CheckedSub x y d e g h

-- ---- the whole
mutual
  pub eval_fits : (s : DataType) (x : Expr) (v : Marked) (i : ℕ) → fits v s ≡ true → i < 2 ^ 64 → typing_fault s x ≡ None → fits (eval s x v i) (infer s x) ≡ true
  eval_fits s root v i h l t = h
  eval_fits s row_index v i h l t = grind (arith, nat_tests)
  eval_fits s (literal d w) v i h l t = and_right (is_scalar_type d) (fits (marked w) d) (held (is_scalar_type d && fits (marked w) d) Literal t)
  eval_fits s (unary u e) v i h l t =
      let a = no_fault (typing_fault s e) (unary_fault u (infer s e)) t in
      unary_sound u (eval s e v i) (infer s e) (eval_fits s e v i h l a.0) a.1
  eval_fits s (binary o x y) v i h l t =
      let a = no_fault (typing_fault s x) (or_fault (typing_fault s y) (binary_fault o (infer s x) (infer s y))) t in
      let b = no_fault (typing_fault s y) (binary_fault o (infer s x) (infer s y)) a.1 in
      binary_sound o (eval s x v i) (eval s y v i) (infer s x) (infer s y) (eval_fits s x v i h l a.0) (eval_fits s y v i h l b.0) b.1
  eval_fits s (pack ps n) v i h l t = parts_fit s ps v i h l t

  pub parts_fit : (s : DataType) (ps : Parts) (v : Marked) (i : ℕ) → fits v s ≡ true → i < 2 ^ 64 → parts_typing_fault s ps ≡ None → fits_fields (eval_all s ps v i) (infer_all s ps) ≡ true
  parts_fit s no_parts v i h l t = refl
  parts_fit s (part n e ps) v i h l t =
      let a = no_fault (typing_fault s e) (parts_typing_fault s ps) t in
      rw (eval_fits s e v i h l a.0) (parts_fit s ps v i h l a.1)

-- each item of an array
pub all_fit : (s : DataType) (x : Expr) (vs : List Val) → fits_all (marked_all (vals_of vs)) s ≡ true → typing_fault s x ≡ None → fits_all (chained (map (λ v. eval s x (marked v) 0) vs)) (infer s x) ≡ true
all_fit s x [] h t = refl
all_fit s x (v ∷ vs) h t =
    rw (eval_fits s x (marked v) 0 (and_left (fits (marked v) s) (fits_all (marked_all (vals_of vs)) s) h) (omega arith) t) (all_fit s x vs (and_right (fits (marked v) s) (fits_all (marked_all (vals_of vs)) s) h) t)
