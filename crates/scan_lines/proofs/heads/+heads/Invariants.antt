use Rattle.std.proofs.Common.{◌≡◌, ◌+◌, ◌*◌, take}
use Rattle.scan_values.specs.DataType.{size_of, fields_size, fields_of}
use Rattle.scan_values.specs.FieldLists.{dtypes_of}
use Rattle.scan_lines.proofs.heads.+heads.Given as goal

abbrev pub decreases-Heads::of : goal.decreases-Heads::of
decreases-Heads::of l = 4 * size_of l.dtype.now + 3

abbrev pub decreases-parts_in : goal.decreases-parts_in
decreases-parts_in l = 4 * size_of l.dtype.now + 2

abbrev pub decreases-field_parts : goal.decreases-field_parts
decreases-field_parts l = 4 * fields_size (fields_of l.fields.now) + 4

abbrev pub invariant-field_parts-loop-i : goal.invariant-field_parts-loop-i
invariant-field_parts-loop-i l = l.made.items ≡ take l.i (dtypes_of l.fields)

abbrev pub decreases-element_parts : goal.decreases-element_parts
decreases-element_parts l = 4 * size_of l.dtype.now + 1
