use Rattle.std.proofs.Common.{◌≡◌, drop}
use Rattle.scan_values.specs.FieldLists.{names_of}
use Rattle.scan_layout.specs.Slots.{named_fields}
use Rattle.scan_layout.proofs.Matches.{with_found}
use Rattle.scan_layout.proofs.layouts.struct_.named_fields.Given as goal

abbrev pub invariant-loop-mask : goal.invariant-loop-mask
invariant-loop-mask l = with_found l.found.items (named_fields (names_of l.fields) (drop l.mask-index l.masks)) ≡ named_fields (names_of l.fields) l.masks
