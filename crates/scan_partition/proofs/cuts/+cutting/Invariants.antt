use Rattle.std.proofs.Common.{◌≡◌, ◌+◌, ◌*◌, ◌++◌, map, take}
use Rattle.scan_expr.specs.Expr.{expr_size}
use Rattle.scan_expr.specs.Bound.{exprs_of}
use Rattle.scan_partition.specs.Items.{no_use}
use Rattle.scan_partition.specs.Soles.{sole_of, cut_seen}
use Rattle.scan_partition.proofs.Uses.{folded, cuts_list}
use Rattle.scan_partition.proofs.cuts.+cutting.Given as goal

abbrev pub decreases-add_cuts : goal.decreases-add_cuts
decreases-add_cuts l = 2 * expr_size l.expr.now.expr + 1

abbrev pub decreases-add_part_cuts : goal.decreases-add_part_cuts
decreases-add_part_cuts l = 2 * expr_size l.expr.now.expr

abbrev pub invariant-add_part_cuts-loop-part : goal.invariant-add_part_cuts-loop-part
invariant-add_part_cuts-loop-part l = record {
  used : sole_of l.all ≡ folded no_use (exprs_of (take l.part-index l.parts));
  cuts : map cut_seen l.found.items ≡ map cut_seen l.initial.found.items ++ cuts_list (exprs_of (take l.part-index l.parts));
}
