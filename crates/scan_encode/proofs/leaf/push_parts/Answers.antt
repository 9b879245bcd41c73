use Rattle.std.proofs.Common.{length, refl, arith, sym, subst}
use Rattle.scan_encode.proofs.Having.{has_same, has_then}
use Rattle.scan_encode.proofs.Leaves.{Leafing, leafing_none, leafing_next, leafing_all, part_fits}
use Rattle.scan_encode.proofs.leaf.push_parts.Goals as goal

pub loop-start-init : goal.loop-start-init
loop-start-init c = record {
  so_far = subst (Leafing c.args.dtype.now c.args.options.now.spelling c.args.rows.now 0 c.args.segments.now) (sym c.new-made.ensures.items)
      (leafing_none c.args.dtype.now c.args.options.now.spelling c.args.rows.now c.args.segments.now);
  has = has_same c.args.segments.now;
}

pub part_of-part-requires-clause-within : goal.part_of-part-requires-clause-within
part_of-part-requires-clause-within c = omega (arith, c.end_of-end.ensures.within, c.requires.count)

pub push_segment-requires-clause-fit : goal.push_segment-requires-clause-fit
push_segment-requires-clause-fit c =
    part_fits c.args.dtype.now c.args.rows.now c.part_of-part.result.now c.loop-start.start c.end_of-end.result c.part_of-part.ensures c.requires.fit

pub returns-in_err-id-clause-has : goal.returns-in_err-id-clause-has
returns-in_err-id-clause-has c = has_then c.args.segments.now c.loop-start.segments c.push_segment.new.segments c.loop-start.invariant.has c.push_segment.ensures.has

pub returns-in_err-push-clause-has : goal.returns-in_err-push-clause-has
returns-in_err-push-clause-has c = has_then c.args.segments.now c.loop-start.segments c.push_segment.new.segments c.loop-start.invariant.has c.push_segment.ensures.has

pub loop-start-preserved : goal.loop-start-preserved
loop-start-preserved c = record {
  so_far = leafing_next c.args.dtype.now c.args.options.now.spelling c.args.rows.now c.loop-start.start c.end_of-end.result (length c.part_of-part.result.now) c.in_ok-id.id c.part_of-part.result.now
      c.loop-start.segments c.push_segment.new.segments c.loop-start.made.items c.push.new.self.items (omega (arith, c.end_of-end.ensures.after))
      (omega (arith, c.end_of-end.ensures.within, c.requires.count)) c.part_of-part.ensures refl c.in_ok-push.ensures.items c.push_segment.ensures.has c.in_ok-id.ensures.held
      c.loop-start.invariant.so_far;
  has = has_then c.args.segments.now c.loop-start.segments c.push_segment.new.segments c.loop-start.invariant.has c.push_segment.ensures.has;
}

pub returns-clause-leaf : goal.returns-clause-leaf
returns-clause-leaf c =
    leafing_all c.args.dtype.now c.args.options.now.spelling c.args.rows.now c.loop-start.start c.args.count c.loop-start.segments c.loop-start.made.items c.in_ok-leaf_of.field-0.value
    c.requires.scalar c.requires.count c.loop-start-test.false (omega (arith, c.ranges.count)) c.loop-start.invariant.so_far c.in_ok-leaf_of.ensures
