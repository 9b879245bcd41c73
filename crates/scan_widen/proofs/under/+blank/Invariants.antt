use Rattle.std.proofs.Common.{◌≡◌, ◌+◌, ◌*◌, ◌++◌, drop, length}
use Rattle.scan_values.specs.DataType.{fields_of, size_of, fields_size}
use Rattle.scan_layout.specs.LayoutView.{layouts_of}
use Rattle.scan_widen.specs.Blanks.{blanks_behind, blank_layouts}
use Rattle.scan_widen.proofs.under.+blank.Given as goal

abbrev pub decreases-blank_under : goal.decreases-blank_under
decreases-blank_under l = 8 * size_of l.dtype.now + 5

abbrev pub decreases-blank_list : goal.decreases-blank_list
decreases-blank_list l = 8 * size_of l.dtype.now + 4

abbrev pub decreases-blank_struct : goal.decreases-blank_struct
decreases-blank_struct l = 8 * size_of l.dtype.now + 4

abbrev pub decreases-push_blanks : goal.decreases-push_blanks
decreases-push_blanks l = 8 * fields_size (fields_of l.fields.now) + 3

abbrev pub invariant-push_blanks-loop-i : goal.invariant-push_blanks-loop-i
invariant-push_blanks-loop-i l =
    (layouts_of l.children.items ++ blank_layouts (length l.made.items) (fields_of (drop l.i l.fields)) l.rows ≡ layouts_of l.initial.children.items ++ blank_layouts (length l.initial.made.items) (fields_of l.fields) l.rows)
    × (l.made.items ++ blanks_behind (fields_of (drop l.i l.fields)) l.rows ≡ l.initial.made.items ++ blanks_behind (fields_of l.fields) l.rows)
