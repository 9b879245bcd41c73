use Rattle.scan_values.specs.DataType.{DataType}
use Rattle.scan_spelling.specs.declared.spelling.Spelling.{Spelling}
use Rattle.scan_spelling.specs.Places.{places_of}
use Rattle.scan_plans.specs.Came.{came}
use Rattle.scan_plans.specs.Meaning.{true_rows}
use Rattle.scan_plans.specs.Wants.{leaf_wanted}
use Rattle.scan_plans.proofs.LeafWalk.{to_want}
use Rattle.scan_plans.proofs.Collecting.{Keeps}
use Rattle.scan_plans.proofs.leaf.collect_leaf.Given as goal

abbrev pub invariant-loop-k : goal.invariant-loop-k
invariant-loop-k l = (d : DataType) (s : Spelling) → Keeps l.fn.wants l.wants (to_want d s l.runs l.first l.bits l.k) (leaf_wanted 0 (places_of d s l.runs) (true_rows l.first l.bits)) (came l.inbox)
