use Rattle.std.proofs.Common.{◌≡◌, drop}
use Rattle.scan_layout.specs.Layout.{nodes}
use Rattle.scan_layout.specs.LayoutView.{layouts_of}
use Rattle.scan_layout.specs.Check.{all_have_rows}
use Rattle.scan_layout.proofs.check.all_have_rows.Given as goal

abbrev pub invariant-loop-child : goal.invariant-loop-child
invariant-loop-child l = all_have_rows l.rows (nodes (layouts_of (drop l.child-index l.children))) ≡ all_have_rows l.rows (nodes (layouts_of l.children))
