-- Integers and truth values as operands: those of a column, or one that stands everywhere; and what operators make of them.
use Rattle.std.specs.Prelude.{Bool, cond, not, List, replicate}
use Rattle.scan_values.specs.DataType.{DataType, Name, bool_type, is_nullable}
use Rattle.scan_values.specs.declared.ptype.Nullability.TheVariants.{Nullable}
use Rattle.scan_values.specs.Marked.{boolean}
use Rattle.scan_values.specs.Val.{Val, bool_val, int_val, marked, read_marked}
use Rattle.scan_expr.specs.declared.op.Binary.{Binary}
use Rattle.scan_expr.specs.Eval.{null_test, length_value, of_struct, pick}
use Rattle.scan_expr.specs.Infer.{struct_fields}
use Rattle.scan_columns.specs.Evaluated.{binary_val}
use Rattle.scan_columns.specs.declared.integers.Numbers.{Numbers}
use Rattle.scan_columns.specs.declared.integers.Numbers.TheVariants as numbers
use Rattle.scan_columns.specs.declared.truths.Truths.{Truths}
use Rattle.scan_columns.specs.declared.truths.Truths.TheVariants as truths

abbrev pub numbers_in : Numbers → List Val
numbers_in (numbers.Each xs) = xs.now
numbers_in (numbers.Same z n) = replicate n (int_val z)

abbrev pub truths_in : Truths → List Val
truths_in (truths.Each xs) = xs.now
truths_in (truths.Same b n) = replicate n (bool_val b)

-- of an operator that is no sum, whatever the dtype
abbrev pub pair_val : Binary → Val → Val → Val
pair_val op = binary_val op (bool_type Nullable)

-- whether a value of the dtype is null, if want is true, or is not
abbrev pub test_val : Bool → DataType → Val → Val
test_val want d v = read_marked (cond (is_nullable d) (null_test want (marked v)) (boolean (not want)))

abbrev pub test_bit : Bool → Bool → Bool
test_bit want b = cond want b (not b)

abbrev pub length_val : Val → Val
length_val v = read_marked (length_value Nullable (marked v))

-- the value of the first field of this name of a struct of the dtype
abbrev pub field_val : Name → DataType → Val → Val
field_val n d v = read_marked (of_struct (pick n (struct_fields d)) (marked v))
