-- Evaluation on clean values, row numbers and conjuncts.
use Rattle.std.proofs.Common.{◌≡◌, ℕ, ℤ, pos, Option, Some, None, Bool, true, false, cond, not, ◌&&◌, ◌||◌, List, [], ◌∷◌, ◌++◌, bytes_eq, refl, ap}
use Rattle.std.specs.Prelude.{◌↔◌}
use Rattle.std.specs.List.{All, AllByRecursion}
use Rattle.std.proofs.lemmas.List.Elements.{recursion_from_All, All-from_recursion}
use Rattle.scan_values.specs.DataType.{DataType, Fields, no_fields, field, Name, nullability_of, is_nullable}
use Rattle.scan_values.specs.NameFaults.{has_name}
use Rattle.scan_values.specs.Fits.{fits_int}
use Rattle.scan_values.specs.Kinds.{ptype_of}
use Rattle.scan_values.specs.Ranges.{in_range}
use Rattle.scan_values.specs.declared.ptype.PType.{PType}
use Rattle.scan_values.specs.declared.ptype.PType.TheVariants.{U8, U16, U32, U64, I8, I16, I32, I64}
use Rattle.scan_values.specs.Damage.{damaged}
use Rattle.scan_values.specs.Marked.{Marked, lost, null, gone, boolean, integer, text, list, struct, Markeds, none, more}
use Rattle.scan_values.specs.Val.{is_clean, are_clean, is_clean-marked}
use Rattle.scan_values.specs.declared.ptype.Nullability.{Nullability}
use Rattle.scan_values.specs.declared.ptype.Nullability.TheVariants.{NonNullable, Nullable}
use Rattle.scan_expr.specs.declared.op.Unary.{Unary}
use Rattle.scan_expr.specs.declared.op.Unary.TheVariants.{GetItem, Select, Exclude, Not, IsNull, IsNotNull, ListLength}
use Rattle.scan_expr.specs.declared.op.Binary.{Binary}
use Rattle.scan_expr.specs.declared.op.Binary.TheVariants.{Mask, And, Or, Equal, NotEqual, Less, LessOrEqual, Greater, GreaterOrEqual, CheckedAdd, CheckedSub}
use Rattle.scan_expr.specs.Expr.{Expr, root, row_index, literal, unary, binary, pack, Parts, no_parts, part, uses_row_index, any_uses_row_index, conjuncts_of}
use Rattle.scan_expr.specs.Infer.{infer, struct_fields, either, ptype_or_u64, sum_type, binary_type}
use Rattle.scan_expr.specs.Overflow.{outside, spills, overflows, any_overflows}
use Rattle.scan_expr.specs.Eval.{not_value, null_test, length_value, of_struct, pick, pick_all, leave, is_nothing, is_damaged, is_truth, holds, order, unary_value, binary_value, mask_value, logic_value, comparison_value, integer_of, combine, sum_of, checked, arithmetic_value, eval, eval_all}
use Rattle.scan_expr.proofs.Fitting.{and_left, and_right}

-- ---- clean values
pick_clean : (n : Name) (fs : Fields) (ms : Markeds) → are_clean ms ≡ true → is_clean (pick n fs ms) ≡ true
pick_clean n no_fields ms h = refl
pick_clean n (field m d fs) none h = refl
pick_clean n (field m d fs) (more v vs) h = first (bytes_eq n m) (pick_clean n fs vs (and_right (is_clean v) (are_clean vs) h))
  where
    first : (b : Bool) → is_clean (pick n fs vs) ≡ true → is_clean (cond b v (pick n fs vs)) ≡ true
    first true rest = and_left (is_clean v) (are_clean vs) h
    first false rest = rest

pick_all_clean : (ns : List Name) (fs : Fields) (ms : Markeds) → are_clean ms ≡ true → are_clean (pick_all ns fs ms) ≡ true
pick_all_clean [] fs ms h = refl
pick_all_clean (n ∷ ns) fs ms h = rw (pick_clean n fs ms h) (pick_all_clean ns fs ms h)

leave_clean : (ns : List Name) (fs : Fields) (ms : Markeds) → are_clean ms ≡ true → are_clean (leave ns fs ms) ≡ true
leave_clean ns no_fields ms h = refl
leave_clean ns (field m d fs) none h = refl
leave_clean ns (field m d fs) (more v vs) h = first (has_name m ns) (leave_clean ns fs vs (and_right (is_clean v) (are_clean vs) h))
  where
    first : (b : Bool) → are_clean (leave ns fs vs) ≡ true → are_clean (cond b (leave ns fs vs) (more v (leave ns fs vs))) ≡ true
    first true rest = rest
    first false rest = rw (and_left (is_clean v) (are_clean vs) h) rest

of_struct_clean : (f : Markeds → Marked) (m : Marked) → ((ms : Markeds) → are_clean ms ≡ true → is_clean (f ms) ≡ true) → is_clean m ≡ true → is_clean (of_struct f m) ≡ true
of_struct_clean f lost g h = cc
of_struct_clean f null g h = refl
of_struct_clean f gone g h = cc
of_struct_clean f (boolean b) g h = refl
of_struct_clean f (integer z) g h = refl
of_struct_clean f (text s) g h = refl
of_struct_clean f (list ms) g h = refl
of_struct_clean f (struct ms) g h = g ms h

not_clean : (n : Nullability) (m : Marked) → is_clean m ≡ true → is_clean (not_value n m) ≡ true
not_clean n lost h = cc
not_clean n null h = refl
not_clean n gone h = cc
not_clean n (boolean b) h = refl
not_clean n (integer z) h = refl
not_clean n (text s) h = refl
not_clean n (list ms) h = refl
not_clean n (struct ms) h = refl

length_clean : (n : Nullability) (m : Marked) → is_clean m ≡ true → is_clean (length_value n m) ≡ true
length_clean n lost h = cc
length_clean n null h = refl
length_clean n gone h = cc
length_clean n (boolean b) h = refl
length_clean n (integer z) h = refl
length_clean n (text s) h = refl
length_clean n (list ms) h = refl
length_clean n (struct ms) h = refl

test_clean : (b want : Bool) (m : Marked) → is_clean m ≡ true → is_clean (cond b (null_test want m) (boolean (not want))) ≡ true
test_clean false want m h = refl
test_clean true want lost h = cc
test_clean true want null h = refl
test_clean true want gone h = cc
test_clean true want (boolean b) h = refl
test_clean true want (integer z) h = refl
test_clean true want (text s) h = refl
test_clean true want (list ms) h = refl
test_clean true want (struct ms) h = refl

unary_clean : (u : Unary) (d : DataType) (m : Marked) → is_clean m ≡ true → is_clean (unary_value u d m) ≡ true
unary_clean (GetItem n) d m h = of_struct_clean (pick n (struct_fields d)) m (pick_clean n (struct_fields d)) h
unary_clean (Select ns) d m h = of_struct_clean (λ ms. struct (pick_all ns (struct_fields d) ms)) m (pick_all_clean ns (struct_fields d)) h
unary_clean (Exclude ns) d m h = of_struct_clean (λ ms. struct (leave ns (struct_fields d) ms)) m (leave_clean ns (struct_fields d)) h
unary_clean Not d m h = not_clean (nullability_of d) m h
unary_clean IsNull d m h = test_clean (is_nullable d) true m h
unary_clean IsNotNull d m h = test_clean (is_nullable d) false m h
unary_clean ListLength d m h = length_clean (nullability_of d) m h

undamaged : (m : Marked) → is_clean m ≡ true → is_damaged m ≡ false
undamaged lost h = cc
undamaged null h = refl
undamaged gone h = cc
undamaged (boolean b) h = refl
undamaged (integer z) h = refl
undamaged (text s) h = refl
undamaged (list ms) h = refl
undamaged (struct ms) h = refl

mask_clean : (x m : Marked) → is_clean x ≡ true → is_clean m ≡ true → is_clean (mask_value x m) ≡ true
mask_clean x lost g h = cc
mask_clean x null g h = refl
mask_clean x gone g h = cc
mask_clean x (boolean true) g h = g
mask_clean x (boolean false) g h = refl
mask_clean x (integer z) g h = refl
mask_clean x (text s) g h = refl
mask_clean x (list ms) g h = refl
mask_clean x (struct ms) g h = refl

logic_clean : (b : Bool) (n : Nullability) (x y : Marked) → is_clean x ≡ true → is_clean y ≡ true → is_clean (logic_value b n x y) ≡ true
logic_clean b n x y g h = rw (undamaged x g, undamaged y h) (go (is_truth b x || is_truth b y) (is_truth (not b) x && is_truth (not b) y))
  where
    go : (a e : Bool) → is_clean (cond a (boolean b) (cond e (boolean (not b)) null)) ≡ true
    go true e = refl
    go false true = refl
    go false false = refl

comparison_clean : (o : Binary) (n : Nullability) (x y : Marked) → is_clean x ≡ true → is_clean y ≡ true → is_clean (comparison_value o n x y) ≡ true
comparison_clean o n x y g h = rw (undamaged x g, undamaged y h) (go (is_nothing x || is_nothing y))
  where
    go : (a : Bool) → is_clean (cond a null (boolean (holds o (order x y)))) ≡ true
    go true = refl
    go false = refl

zero_in_range : (p : PType) → in_range p (pos 0) ≡ true
zero_in_range U8 = refl
zero_in_range U16 = refl
zero_in_range U32 = refl
zero_in_range U64 = refl
zero_in_range I8 = refl
zero_in_range I16 = refl
zero_in_range I32 = refl
zero_in_range I64 = refl

-- 0 is a number of the dtype of each sum
pub zero_fits : (d e : DataType) → fits_int (sum_type d e) (pos 0) ≡ true
zero_fits d e = zero_in_range (ptype_or_u64 (ptype_of d))

checked_clean : (o : Binary) (d : DataType) (p q : Option ℤ) → fits_int d (pos 0) ≡ true → outside o d p q ≡ false → is_clean (checked d (sum_of o p q)) ≡ true
checked_clean o d None q z h = rw z refl
checked_clean o d (Some x) None z h = rw z refl
checked_clean o d (Some x) (Some y) z h = go (fits_int d (combine o x y)) h
  where
    go : (b : Bool) → not b ≡ false → is_clean (cond b (integer (combine o x y)) gone) ≡ true
    go true g = refl
    go false g = cc

arithmetic_clean : (o : Binary) (d : DataType) (x y : Marked) → fits_int d (pos 0) ≡ true → is_clean x ≡ true → is_clean y ≡ true → outside o d (integer_of x) (integer_of y) ≡ false
    → is_clean (arithmetic_value o d x y) ≡ true
arithmetic_clean o d x y z g h w = rw (undamaged x g, undamaged y h) (go (is_nothing x || is_nothing y))
  where
    go : (a : Bool) → is_clean (cond a null (checked d (sum_of o (integer_of x) (integer_of y)))) ≡ true
    go true = refl
    go false = checked_clean o d (integer_of x) (integer_of y) z w

binary_clean : (o : Binary) (d e : DataType) (x y : Marked) → is_clean x ≡ true → is_clean y ≡ true → spills o (binary_type o d e) x y ≡ false
    → is_clean (binary_value o (binary_type o d e) x y) ≡ true
binary_clean Mask d e x y g h w = mask_clean x y g h
binary_clean And d e x y g h w = logic_clean false (either (nullability_of d) (nullability_of e)) x y g h
binary_clean Or d e x y g h w = logic_clean true (either (nullability_of d) (nullability_of e)) x y g h
binary_clean Equal d e x y g h w = comparison_clean Equal (either (nullability_of d) (nullability_of e)) x y g h
binary_clean NotEqual d e x y g h w = comparison_clean NotEqual (either (nullability_of d) (nullability_of e)) x y g h
binary_clean Less d e x y g h w = comparison_clean Less (either (nullability_of d) (nullability_of e)) x y g h
binary_clean LessOrEqual d e x y g h w = comparison_clean LessOrEqual (either (nullability_of d) (nullability_of e)) x y g h
binary_clean Greater d e x y g h w = comparison_clean Greater (either (nullability_of d) (nullability_of e)) x y g h
binary_clean GreaterOrEqual d e x y g h w = comparison_clean GreaterOrEqual (either (nullability_of d) (nullability_of e)) x y g h
binary_clean CheckedAdd d e x y g h w = arithmetic_clean CheckedAdd (sum_type d e) x y (zero_fits d e) g h w
binary_clean CheckedSub d e x y g h w = arithmetic_clean CheckedSub (sum_type d e) x y (zero_fits d e) g h w

or_none : (a b : Bool) → (a || b) ≡ false → (a ≡ false) × (b ≡ false)
or_none true b h = cc
or_none false b h = (refl, h)

mutual
  pub eval_clean : (s : DataType) (e : Expr) (v : Marked) (i : ℕ) → is_clean v ≡ true → overflows s e v i ≡ false → is_clean (eval s e v i) ≡ true
  eval_clean s root v i h w = h
  eval_clean s row_index v i h w = refl
  eval_clean s (literal d m) v i h w = is_clean-marked m
  eval_clean s (unary u e) v i h w = unary_clean u (infer s e) (eval s e v i) (eval_clean s e v i h w)
  eval_clean s (binary b x y) v i h w =
      let spilt = spills b (binary_type b (infer s x) (infer s y)) (eval s x v i) (eval s y v i) in
      let p = or_none (overflows s x v i) (overflows s y v i || spilt) w in
      let q = or_none (overflows s y v i) spilt p.1 in
      binary_clean b (infer s x) (infer s y) (eval s x v i) (eval s y v i) (eval_clean s x v i h p.0) (eval_clean s y v i h q.0) q.1
  eval_clean s (pack ps n) v i h w = eval_all_clean s ps v i h w

  pub eval_all_clean : (s : DataType) (ps : Parts) (v : Marked) (i : ℕ) → is_clean v ≡ true → any_overflows s ps v i ≡ false → are_clean (eval_all s ps v i) ≡ true
  eval_all_clean s no_parts v i h w = refl
  eval_all_clean s (part n e ps) v i h w =
      let p = or_none (overflows s e v i) (any_overflows s ps v i) w in
      rw (eval_clean s e v i h p.0) (eval_all_clean s ps v i h p.1)

-- ---- row numbers
mutual
  pub any_row : (s : DataType) (e : Expr) (v : Marked) (i j : ℕ) → uses_row_index e ≡ false → eval s e v i ≡ eval s e v j
  any_row s root v i j h = refl
  any_row s row_index v i j h = cc
  any_row s (literal d w) v i j h = refl
  any_row s (unary u e) v i j h = ap (unary_value u (infer s e)) (any_row s e v i j h)
  any_row s (binary b x y) v i j h =
      let p = or_none (uses_row_index x) (uses_row_index y) h in
      rw (any_row s x v i j p.0, any_row s y v i j p.1) refl
  any_row s (pack ps n) v i j h = ap struct (any_row_all s ps v i j h)

  pub any_row_all : (s : DataType) (ps : Parts) (v : Marked) (i j : ℕ) → any_uses_row_index ps ≡ false → eval_all s ps v i ≡ eval_all s ps v j
  any_row_all s no_parts v i j h = refl
  any_row_all s (part n e ps) v i j h =
      let p = or_none (uses_row_index e) (any_uses_row_index ps) h in
      rw (any_row s e v i j p.0, any_row_all s ps v i j p.1) refl

-- ---- conjuncts
abbrev AreTrue : DataType → Marked → ℕ → List Expr → Type 0
AreTrue s v i = AllByRecursion (λ e. eval s e v i ≡ boolean true)

append_true : (s : DataType) (v : Marked) (i : ℕ) (xs ys : List Expr) → AreTrue s v i xs → AreTrue s v i ys → AreTrue s v i (xs ++ ys)
append_true s v i [] ys h g = g
append_true s v i (x ∷ xs) ys h g = (h.0, append_true s v i xs ys h.1 g)

split_true : (s : DataType) (v : Marked) (i : ℕ) (xs ys : List Expr) → AreTrue s v i (xs ++ ys) → AreTrue s v i xs × AreTrue s v i ys
split_true s v i [] ys h = (tt, h)
split_true s v i (x ∷ xs) ys h = let p = split_true s v i xs ys h.1 in ((h.0, p.0), p.1)

is_truth-boolean : (m : Marked) → is_truth true m ≡ true → m ≡ boolean true
is_truth-boolean lost h = cc
is_truth-boolean null h = cc
is_truth-boolean gone h = cc
is_truth-boolean (boolean true) h = refl
is_truth-boolean (boolean false) h = cc
is_truth-boolean (integer z) h = cc
is_truth-boolean (text s) h = cc
is_truth-boolean (list ms) h = cc
is_truth-boolean (struct ms) h = cc

damaged_false : (n : Nullability) → damaged n ≡ boolean true → ⊥
damaged_false NonNullable h = cc
damaged_false Nullable h = cc

and_true : (n : Nullability) (a c e : Bool) → cond a (boolean false) (cond c (damaged n) (cond e (boolean true) null)) ≡ boolean true → e ≡ true
and_true n true c e h = cc
and_true n false true e h = absurd (damaged_false n h)
and_true n false false true h = refl
and_true n false false false h = cc

both_true : (n : Nullability) (x y : Marked) → logic_value false n x y ≡ boolean true → (x ≡ boolean true) × (y ≡ boolean true)
both_true n x y h =
    let e = and_true n (is_truth false x || is_truth false y) (is_damaged x || is_damaged y) (is_truth true x && is_truth true y) h in
    (is_truth-boolean x (and_left (is_truth true x) (is_truth true y) e), is_truth-boolean y (and_right (is_truth true x) (is_truth true y) e))

from_true : (s : DataType) (e : Expr) (v : Marked) (i : ℕ) → eval s e v i ≡ boolean true → AreTrue s v i (conjuncts_of e)
from_true s root v i h = (h, tt)
from_true s row_index v i h = (h, tt)
from_true s (literal d w) v i h = (h, tt)
from_true s (unary u e) v i h = (h, tt)
from_true s (binary And x y) v i h =
    let p = both_true (nullability_of (binary_type And (infer s x) (infer s y))) (eval s x v i) (eval s y v i) h in
    append_true s v i (conjuncts_of x) (conjuncts_of y) (from_true s x v i p.0) (from_true s y v i p.1)
from_true s (binary Mask x y) v i h = (h, tt)
from_true s (binary Or x y) v i h = (h, tt)
from_true s (binary Equal x y) v i h = (h, tt)
from_true s (binary NotEqual x y) v i h = (h, tt)
from_true s (binary Less x y) v i h = (h, tt)
from_true s (binary LessOrEqual x y) v i h = (h, tt)
from_true s (binary Greater x y) v i h = (h, tt)
from_true s (binary GreaterOrEqual x y) v i h = (h, tt)
from_true s (binary CheckedAdd x y) v i h = (h, tt)
from_true s (binary CheckedSub x y) v i h = (h, tt)
from_true s (pack ps n) v i h = (h, tt)

to_true : (s : DataType) (e : Expr) (v : Marked) (i : ℕ) → AreTrue s v i (conjuncts_of e) → eval s e v i ≡ boolean true
to_true s root v i h = h.0
to_true s row_index v i h = h.0
to_true s (literal d w) v i h = h.0
to_true s (unary u e) v i h = h.0
to_true s (binary And x y) v i h =
    let p = split_true s v i (conjuncts_of x) (conjuncts_of y) h in
    rw (to_true s x v i p.0, to_true s y v i p.1) refl
to_true s (binary Mask x y) v i h = h.0
to_true s (binary Or x y) v i h = h.0
to_true s (binary Equal x y) v i h = h.0
to_true s (binary NotEqual x y) v i h = h.0
to_true s (binary Less x y) v i h = h.0
to_true s (binary LessOrEqual x y) v i h = h.0
to_true s (binary Greater x y) v i h = h.0
to_true s (binary GreaterOrEqual x y) v i h = h.0
to_true s (binary CheckedAdd x y) v i h = h.0
to_true s (binary CheckedSub x y) v i h = h.0
to_true s (pack ps n) v i h = h.0

pub conjuncts_true : (s : DataType) (e : Expr) (v : Marked) (i : ℕ) → (eval s e v i ≡ boolean true) ↔ All (λ c. eval s c v i ≡ boolean true) (conjuncts_of e)
conjuncts_true s e v i =
    (λ h. All-from_recursion (λ c. eval s c v i ≡ boolean true) (conjuncts_of e) (from_true s e v i h), λ h. to_true s e v i (recursion_from_All (λ c. eval s c v i ≡ boolean true) (conjuncts_of e) h))
