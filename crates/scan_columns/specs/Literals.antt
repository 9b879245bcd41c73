-- Which operators compare or add, and the number that an operand is.
use Rattle.std.specs.Prelude.{ℤ, Bool, true, false, Option, Some, None}
use Rattle.scan_values.specs.Val.{Val, null_val, bool_val, int_val, text_val, list_val, struct_val}
use Rattle.scan_expr.specs.declared.op.Binary.{Binary}
use Rattle.scan_expr.specs.declared.op.Binary.TheVariants.{Mask, And, Or, Equal, NotEqual, Less, LessOrEqual, Greater, GreaterOrEqual, CheckedAdd, CheckedSub}

abbrev pub is_comparison : Binary → Bool
is_comparison Mask = false
is_comparison And = false
is_comparison Or = false
is_comparison Equal = true
is_comparison NotEqual = true
is_comparison Less = true
is_comparison LessOrEqual = true
is_comparison Greater = true
is_comparison GreaterOrEqual = true
is_comparison CheckedAdd = false
is_comparison CheckedSub = false

abbrev pub is_sum : Binary → Bool
is_sum Mask = false
is_sum And = false
is_sum Or = false
is_sum Equal = false
is_sum NotEqual = false
is_sum Less = false
is_sum LessOrEqual = false
is_sum Greater = false
is_sum GreaterOrEqual = false
is_sum CheckedAdd = true
is_sum CheckedSub = true

abbrev pub is_logic : Binary → Bool
is_logic Mask = false
is_logic And = true
is_logic Or = true
is_logic Equal = false
is_logic NotEqual = false
is_logic Less = false
is_logic LessOrEqual = false
is_logic Greater = false
is_logic GreaterOrEqual = false
is_logic CheckedAdd = false
is_logic CheckedSub = false

abbrev pub number_of : Val → Option ℤ
number_of null_val = None
number_of (bool_val b) = None
number_of (int_val z) = Some z
number_of (text_val s) = None
number_of (list_val vs) = None
number_of (struct_val vs) = None
