use Rattle.scan_spelling.specs.Places.{places_of}
use Rattle.scan_plans.specs.Came.{came}
use Rattle.scan_plans.specs.Meaning.{true_rows}
use Rattle.scan_plans.specs.Wants.{leaf_wanted}
use Rattle.scan_plans.proofs.LeafWalk.{to_want}
use Rattle.scan_plans.proofs.Checked.{Checked}
use Rattle.scan_plans.proofs.checking.check_leaf.Given as goal

abbrev pub invariant-loop-k : goal.invariant-loop-k
invariant-loop-k l = Checked (to_want l.dtype.value l.spelling l.runs l.first l.bits l.k) (leaf_wanted 0 (places_of l.dtype.value l.spelling l.runs) (true_rows l.first l.bits)) (came l.inbox)
