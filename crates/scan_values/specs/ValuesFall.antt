-- Each value of a list is smaller than the list.
use Rattle.std.specs.Prelude.{◌≤◌, List, [], ◌∷◌, map, max}
use Rattle.std.proofs.Common.{arith}
use denote.Param.Weighed.{most}
use Rattle.scan_values.specs.Val.{val_size, vals_size, vals_of}
use Rattle.scan_values.specs.Values.{val_of}
use Rattle.scan_values.specs.declared.value.Value.{Value}
use Rattle.scan_values.specs.declared.value.Value.TheVariants.{Null, Bool, Int, Text, List as Listed, Struct}
use Rattle.scan_values.specs.declared.value.Values.TheDeep.{deep-Value}

deep_le-size : (v : Value) → deep-Value v ≤ val_size (val_of v)
deep_le-size Null = omega arith
deep_le-size (Bool b) = omega arith
deep_le-size (Int z) = omega arith
deep_le-size (Text s) = omega arith
deep_le-size (Listed vs) = omega arith
deep_le-size (Struct vs) = omega arith

most_le : (vs : List Value) → most deep-Value vs ≤ vals_size (vals_of (map val_of vs))
most_le [] = omega arith
most_le (v ∷ vs) = omega (arith, deep_le-size v, most_le vs)

pub most-size : (vs : List Value) → max (most deep-Value vs) 0 ≤ vals_size (vals_of (map val_of vs))
most-size vs = omega (arith, most_le vs)
