-- The value that a `Value` is.
use Rattle.scan_values.specs.Val.{Val, null_val, bool_val, int_val, text_val, list_val, struct_val, vals_of}
use Rattle.scan_values.specs.declared.value.Value.{Value}
use Rattle.scan_values.specs.declared.value.Value.TheVariants.{Null, Bool, Int, Text, List as Listed, Struct}

abbrev pub val_of : Value → Val
val_of Null = null_val
val_of (Bool b) = bool_val b
val_of (Int z) = int_val z
val_of (Text s) = text_val s
val_of (Listed vs) = list_val (vals_of vs)
val_of (Struct vs) = struct_val (vals_of vs)
