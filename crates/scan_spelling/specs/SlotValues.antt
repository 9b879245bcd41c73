-- The value that a slot of one width holds.
use Rattle.std.specs.Prelude.{ℤ, Bool as Truth, Option, Some, None}
use Rattle.scan_values.specs.Val.{Val, null_val, bool_val, int_val}
use Rattle.scan_spelling.specs.declared.slot.SlotValue.{SlotValue}
use Rattle.scan_spelling.specs.declared.slot.SlotValue.TheVariants.{Null, Bool, Int}

abbrev pub slot_val : SlotValue → Val
slot_val Null = null_val
slot_val (Bool b) = bool_val b
slot_val (Int z) = int_val z

-- the number, if it is one
abbrev pub slot_int : SlotValue → Option ℤ
slot_int Null = None
slot_int (Bool b) = None
slot_int (Int z) = Some z

-- the truth value, if it is one
abbrev pub slot_bool : SlotValue → Option Truth
slot_bool Null = None
slot_bool (Bool b) = Some b
slot_bool (Int z) = None
