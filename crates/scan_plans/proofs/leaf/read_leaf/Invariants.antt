use Rattle.std.proofs.Common.{map}
use Rattle.scan_spelling.specs.Places.{places_of}
use Rattle.scan_layout.specs.RowValue.{leaf_value}
use Rattle.scan_plans.specs.Came.{came, arrived}
use Rattle.scan_plans.specs.Meaning.{true_rows}
use Rattle.scan_plans.specs.Wants.{leaf_wanted}
use Rattle.scan_plans.proofs.LeafWalk.{to_want, to_give}
use Rattle.scan_plans.proofs.Building.{Built}
use Rattle.scan_plans.proofs.leaf.read_leaf.Given as goal

abbrev pub invariant-loop-k : goal.invariant-loop-k
invariant-loop-k l = Built l.dtype.value l.column (to_give l.dtype.value l.spelling (arrived (came l.inbox)) l.runs l.first l.bits l.k)
    (map (leaf_value l.dtype.value (arrived (came l.inbox)) (places_of l.dtype.value l.spelling l.runs)) (true_rows l.first l.bits))
    (to_want l.dtype.value l.spelling l.runs l.first l.bits l.k) (leaf_wanted 0 (places_of l.dtype.value l.spelling l.runs) (true_rows l.first l.bits))
    (arrived (came l.inbox))
