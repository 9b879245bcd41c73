-- The cells within lists and structs stand less deep.
use Rattle.std.specs.Prelude.{◌≤◌, max, List, [], ◌∷◌}
use Rattle.std.proofs.Common.{arith}
use denote.Param.Weighed.{most}
use Rattle.scan_columns.specs.Cells.{depth_in, deepest}
use Rattle.scan_columns.specs.declared.cells.Cells.{Cells}
use Rattle.scan_columns.specs.declared.cells.Cells.TheVariants.{Ints, Bools, Texts, Values, Constant, Lists, Structs}
use Rattle.scan_columns.specs.declared.cells.Lists.TheDeep.{deep-Cells}

pub deep_falls : (c : Cells) → deep-Cells c ≤ depth_in c
deep_falls (Ints vs) = omega arith
deep_falls (Bools vs) = omega arith
deep_falls (Texts d) = omega arith
deep_falls (Values vs) = omega arith
deep_falls (Constant vs) = omega arith
deep_falls (Lists d) = omega arith
deep_falls (Structs d) = omega arith

pub list_falls : (c : Cells) → max (deep-Cells c) 0 ≤ depth_in c
list_falls c = omega (arith, deep_falls c)

most_falls : (cs : List Cells) → most deep-Cells cs ≤ deepest cs
most_falls [] = omega arith
most_falls (c ∷ cs) = omega (arith, deep_falls c, most_falls cs)

pub struct_falls : (cs : List Cells) → max (most deep-Cells cs) 0 ≤ deepest cs
struct_falls cs = omega (arith, most_falls cs)
