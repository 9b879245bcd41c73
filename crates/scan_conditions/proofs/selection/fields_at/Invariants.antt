use Rattle.std.proofs.Common.{map}
use Rattle.scan_conditions.specs.Parts.{part_of}
use Rattle.scan_conditions.specs.Reads.{SelectedTo}
use Rattle.scan_conditions.proofs.selection.fields_at.Given as goal

abbrev pub invariant-commas : goal.invariant-commas
invariant-commas l = SelectedTo (map part_of l.parts) l.end-2 l.selected.names.items l.selected.fields.items
