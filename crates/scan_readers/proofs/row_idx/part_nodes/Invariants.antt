use Rattle.scan_readers.proofs.RowWalk.{Walked}
use Rattle.scan_readers.proofs.row_idx.part_nodes.Given as goal

abbrev pub invariant-loop-i : goal.invariant-loop-i
invariant-loop-i g l =
    Walked (g.R.LayoutReader.state l.fn.child) (g.R.LayoutReader.state l.child) (g.R.LayoutReader.kept l.fn.child) (g.R.LayoutReader.kept l.child) l.first l.parted.items l.parted.parts l.i l.nodes.items
