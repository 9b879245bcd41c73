-- The values that are lent.
use Rattle.std.specs.Prelude.{List, map, replicate}
use Rattle.scan_values.specs.Val.{Val, null_val, bool_val, int_val, text_val}
use Rattle.scan_values.specs.Values.{val_of}
use Rattle.scan_groups.specs.declared.cell.Cell.{Cell}
use Rattle.scan_groups.specs.declared.cell.Cell.TheVariants.{Null, Truth, Number, Text, Held}
use Rattle.scan_groups.specs.declared.run.Run.{Run}
use Rattle.scan_groups.specs.declared.run.Run.TheVariants.{Numbers, Cells, Nulls}

abbrev pub cell_val : Cell → Val
cell_val Null = null_val
cell_val (Truth b) = bool_val b
cell_val (Number z) = int_val z
cell_val (Text s) = text_val s.now
cell_val (Held v) = val_of v.now

abbrev pub run_vals : Run → List Val
run_vals (Numbers zs) = map int_val zs.now
run_vals (Cells cs) = map cell_val cs.now
run_vals (Nulls n) = replicate n null_val
