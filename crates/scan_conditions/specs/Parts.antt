-- The part of a text that a `Part` is.
use Rattle.std.specs.Prelude.{string_bytes}
use Rattle.scan_conditions.specs.declared.token.Part.{Part}
use Rattle.scan_conditions.specs.Spelling as spelling

abbrev pub part_of : Part → spelling.Part
part_of p = spelling.part_as p.kind (string_bytes p.text)
