use Rattle.std.proofs.Common.{refl}
use Rattle.scan_partition.proofs.Numbering.{groups_step, leaves_step}
use Rattle.scan_partition.proofs.groups.planned.Goals as goal

pub add-requires : goal.add-requires
add-requires c = c.loop-cut.invariant.placed

pub loop-cut-preserved : goal.loop-cut-preserved
loop-cut-preserved c = record {
  groups = groups_step c.args.cuts.now c.loop-cut.cut-index c.cut-item.result _ _ c.loop-cut-test.true c.cut-item.is c.loop-cut.invariant.groups c.in_ok-number.ensures.groups;
  leaves = leaves_step c.args.cuts.now c.loop-cut.cut-index c.cut-item.result _ _ _ _ c.loop-cut-test.true c.cut-item.is c.loop-cut.invariant.groups c.loop-cut.invariant.leaves c.in_ok-push.ensures.items refl c.in_ok-number.ensures.number;
  placed = c.in_ok-number.ensures.placed;
}

pub invariant_of-result : goal.invariant_of-result
invariant_of-result c = record { placed = c.loop-cut.invariant.placed }
