use Rattle.std.proofs.Common.{◌≡◌, drop}
use Rattle.scan_values.specs.FieldLists.{dtypes_of as field_types}
use Rattle.scan_layout.specs.Layout.{nodes}
use Rattle.scan_layout.specs.LayoutView.{layouts_of}
use Rattle.scan_layout.specs.Check.{dtypes_fault}
use Rattle.scan_layout.proofs.check.are_of_fields.Given as goal

abbrev pub invariant-loop-i : goal.invariant-loop-i
invariant-loop-i l = dtypes_fault (nodes (layouts_of (drop l.i l.children))) (drop l.i (field_types l.fields)) ≡ dtypes_fault (nodes (layouts_of l.children)) (field_types l.fields)
