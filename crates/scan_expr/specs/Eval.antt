-- The value of an expression on one row, of which parts may be lost.
use Rattle.std.specs.Prelude.{ℕ, ℤ, pos, ◌+ℤ◌, ◌-ℤ◌, Bool, true, false, cond, not, ◌&&◌, ◌||◌, List, [], ◌∷◌, Option, Some, None, length, bytes_eq}
use Rattle.std.specs.Ordering.{int_cmp, nat_cmp, is_eq, is_lt, is_gt}
use Rattle.std.specs.declared.cmp.Ordering.{Ordering}
use Rattle.std.specs.declared.cmp.Ordering.TheVariants as orders
use Rattle.std.specs.Cmp.Lexicographic.{slice_cmp}
use Rattle.scan_values.specs.Marked.{Marked, lost, null, gone, boolean, integer, text, list, struct, Markeds, none, more, listed}
use Rattle.scan_values.specs.Val.{marked}
use Rattle.scan_values.specs.Damage.{damaged}
use Rattle.scan_values.specs.DataType.{DataType, Fields, no_fields, field, Name, nullability_of, is_nullable}
use Rattle.scan_values.specs.Fits.{fits_int}
use Rattle.scan_values.specs.NameFaults.{has_name}
use Rattle.scan_values.specs.declared.ptype.Nullability.{Nullability}
use Rattle.scan_expr.specs.declared.op.Unary.{Unary}
use Rattle.scan_expr.specs.declared.op.Unary.TheVariants.{GetItem, Select, Exclude, Not, IsNull, IsNotNull, ListLength}
use Rattle.scan_expr.specs.declared.op.Binary.{Binary}
use Rattle.scan_expr.specs.declared.op.Binary.TheVariants.{Mask, And, Or, Equal, NotEqual, Less, LessOrEqual, Greater, GreaterOrEqual, CheckedAdd, CheckedSub}
use Rattle.scan_expr.specs.Expr.{Expr, root, row_index, literal, unary, binary, pack, Parts, no_parts, part}
use Rattle.scan_expr.specs.Infer.{struct_fields, infer, binary_type}

abbrev pub is_damaged : Marked → Bool
is_damaged lost = true
is_damaged null = false
is_damaged gone = true
is_damaged (boolean b) = false
is_damaged (integer z) = false
is_damaged (text s) = false
is_damaged (list ms) = false
is_damaged (struct ms) = false

abbrev pub is_nothing : Marked → Bool
is_nothing lost = false
is_nothing null = true
is_nothing gone = false
is_nothing (boolean b) = false
is_nothing (integer z) = false
is_nothing (text s) = false
is_nothing (list ms) = false
is_nothing (struct ms) = false

-- whether a value is the truth value b
abbrev pub is_truth : Bool → Marked → Bool
is_truth b lost = false
is_truth b null = false
is_truth b gone = false
is_truth b (boolean c) = cond b c (not c)
is_truth b (integer z) = false
is_truth b (text s) = false
is_truth b (list ms) = false
is_truth b (struct ms) = false

-- ---- fields
-- the value of the first field of this name
abbrev pub pick : Name → Fields → Markeds → Marked
pick n no_fields ms = null
pick n (field m d fs) none = null
pick n (field m d fs) (more v vs) = cond (bytes_eq n m) v (pick n fs vs)

-- of the fields of these names, in the order written
abbrev pub pick_all : List Name → Fields → Markeds → Markeds
pick_all [] fs ms = none
pick_all (n ∷ ns) fs ms = more (pick n fs ms) (pick_all ns fs ms)

-- of the fields of other names
abbrev pub leave : List Name → Fields → Markeds → Markeds
leave ns no_fields ms = none
leave ns (field m d fs) none = none
leave ns (field m d fs) (more v vs) = cond (has_name m ns) (leave ns fs vs) (more v (leave ns fs vs))

-- what is made of a struct's fields
abbrev pub of_struct : (Markeds → Marked) → Marked → Marked
of_struct f lost = lost
of_struct f null = null
of_struct f gone = gone
of_struct f (boolean b) = null
of_struct f (integer z) = null
of_struct f (text s) = null
of_struct f (list ms) = null
of_struct f (struct ms) = f ms

-- ---- operators on one value
-- whether a value is null (if want is true) or is not, where it can be
abbrev pub null_test : Bool → Marked → Marked
null_test want lost = gone
null_test want null = boolean want
null_test want gone = boolean (not want)
null_test want (boolean b) = boolean (not want)
null_test want (integer z) = boolean (not want)
null_test want (text s) = boolean (not want)
null_test want (list ms) = boolean (not want)
null_test want (struct ms) = boolean (not want)

abbrev pub not_value : Nullability → Marked → Marked
not_value n lost = damaged n
not_value n null = null
not_value n gone = damaged n
not_value n (boolean b) = boolean (not b)
not_value n (integer z) = null
not_value n (text s) = null
not_value n (list ms) = null
not_value n (struct ms) = null

abbrev pub length_value : Nullability → Marked → Marked
length_value n lost = damaged n
length_value n null = null
length_value n gone = damaged n
length_value n (boolean b) = null
length_value n (integer z) = null
length_value n (text s) = null
length_value n (list ms) = integer (pos (length (listed ms)))
length_value n (struct ms) = null

-- the value of an operator, on a value of the dtype d
abbrev pub unary_value : Unary → DataType → Marked → Marked
unary_value (GetItem n) d m = of_struct (pick n (struct_fields d)) m
unary_value (Select ns) d m = of_struct (λ ms. struct (pick_all ns (struct_fields d) ms)) m
unary_value (Exclude ns) d m = of_struct (λ ms. struct (leave ns (struct_fields d) ms)) m
unary_value Not d m = not_value (nullability_of d) m
unary_value IsNull d m = cond (is_nullable d) (null_test true m) (boolean false)
unary_value IsNotNull d m = cond (is_nullable d) (null_test false m) (boolean true)
unary_value ListLength d m = length_value (nullability_of d) m

-- ---- operators on two values
abbrev pub mask_value : Marked → Marked → Marked
mask_value e lost = lost
mask_value e null = null
mask_value e gone = lost
mask_value e (boolean b) = cond b e null
mask_value e (integer z) = null
mask_value e (text s) = null
mask_value e (list ms) = null
mask_value e (struct ms) = null

-- `and` where b is false, `or` where b is true: b where one side is b, else damaged where one side is so, else
-- the contrary of b where both sides are that, else null
abbrev pub logic_value : Bool → Nullability → Marked → Marked → Marked
logic_value b n x y =
    cond (is_truth b x || is_truth b y) (boolean b)
    (cond (is_damaged x || is_damaged y) (damaged n)
    (cond (is_truth (not b) x && is_truth (not b) y) (boolean (not b)) null))

abbrev pub bool_cmp : Bool → Bool → Ordering
bool_cmp false false = orders.Equal
bool_cmp false true = orders.Less
bool_cmp true false = orders.Greater
bool_cmp true true = orders.Equal

-- false below true, integers by value, texts by bytes
abbrev pub order : Marked → Marked → Ordering
order (boolean a) (boolean b) = bool_cmp a b
order (integer a) (integer b) = int_cmp a b
order (text a) (text b) = slice_cmp nat_cmp a b
order _ _ = orders.Equal

-- whether a comparison holds of two values in this order
abbrev pub holds : Binary → Ordering → Bool
holds Mask o = false
holds And o = false
holds Or o = false
holds Equal o = is_eq o
holds NotEqual o = not (is_eq o)
holds Less o = is_lt o
holds LessOrEqual o = not (is_gt o)
holds Greater o = is_gt o
holds GreaterOrEqual o = not (is_lt o)
holds CheckedAdd o = false
holds CheckedSub o = false

-- null where one side is null, else damaged where one side is so, else whether it holds
abbrev pub comparison_value : Binary → Nullability → Marked → Marked → Marked
comparison_value b n x y =
    cond (is_nothing x || is_nothing y) null (cond (is_damaged x || is_damaged y) (damaged n) (boolean (holds b (order x y))))

-- the integer that a value is
abbrev pub integer_of : Marked → Option ℤ
integer_of lost = None
integer_of null = None
integer_of gone = None
integer_of (boolean b) = None
integer_of (integer z) = Some z
integer_of (text s) = None
integer_of (list ms) = None
integer_of (struct ms) = None

-- the sum or the difference
abbrev pub combine : Binary → ℤ → ℤ → ℤ
combine Mask x y = pos 0
combine And x y = pos 0
combine Or x y = pos 0
combine Equal x y = pos 0
combine NotEqual x y = pos 0
combine Less x y = pos 0
combine LessOrEqual x y = pos 0
combine Greater x y = pos 0
combine GreaterOrEqual x y = pos 0
combine CheckedAdd x y = x +ℤ y
combine CheckedSub x y = x -ℤ y

-- of two integers; 0 of anything else
abbrev pub sum_of : Binary → Option ℤ → Option ℤ → ℤ
sum_of b None q = pos 0
sum_of b (Some x) None = pos 0
sum_of b (Some x) (Some y) = combine b x y

-- an integer where it is one of the dtype, else gone
abbrev pub checked : DataType → ℤ → Marked
checked d z = cond (fits_int d z) (integer z) gone

-- null where one side is null, else damaged where one side is so, else the sum or difference where it lies in the dtype
abbrev pub arithmetic_value : Binary → DataType → Marked → Marked → Marked
arithmetic_value b d x y =
    cond (is_nothing x || is_nothing y) null
    (cond (is_damaged x || is_damaged y) (damaged (nullability_of d))
    (checked d (sum_of b (integer_of x) (integer_of y))))

-- the value of an operator whose result has the dtype d
abbrev pub binary_value : Binary → DataType → Marked → Marked → Marked
binary_value Mask d x y = mask_value x y
binary_value And d x y = logic_value false (nullability_of d) x y
binary_value Or d x y = logic_value true (nullability_of d) x y
binary_value Equal d x y = comparison_value Equal (nullability_of d) x y
binary_value NotEqual d x y = comparison_value NotEqual (nullability_of d) x y
binary_value Less d x y = comparison_value Less (nullability_of d) x y
binary_value LessOrEqual d x y = comparison_value LessOrEqual (nullability_of d) x y
binary_value Greater d x y = comparison_value Greater (nullability_of d) x y
binary_value GreaterOrEqual d x y = comparison_value GreaterOrEqual (nullability_of d) x y
binary_value CheckedAdd d x y = arithmetic_value CheckedAdd d x y
binary_value CheckedSub d x y = arithmetic_value CheckedSub d x y

-- ---- the whole: over a scope, on the scope's value v, in the row of number i
abbrev mutual
  pub eval : DataType → Expr → Marked → ℕ → Marked
  eval s root v i = v
  eval s row_index v i = integer (pos i)
  eval s (literal d w) v i = marked w
  eval s (unary u e) v i = unary_value u (infer s e) (eval s e v i)
  eval s (binary b x y) v i = binary_value b (binary_type b (infer s x) (infer s y)) (eval s x v i) (eval s y v i)
  eval s (pack ps n) v i = struct (eval_all s ps v i)

  pub eval_all : DataType → Parts → Marked → ℕ → Markeds
  eval_all s no_parts v i = none
  eval_all s (part n e ps) v i = more (eval s e v i) (eval_all s ps v i)
