use Rattle.scan_widened.specs.Sources.{has_stage}
use Rattle.scan_widened.proofs.Polling.{fewer_by}
use Rattle.scan_widened.proofs.Told.{rests_union}
use Rattle.scan_widened.proofs.source.UnionSourceSegmentSource.drop_request.Goals as goal

pub invariant_of-self : goal.invariant_of-self
invariant_of-self g c = record {
  tied = c.end.ensures.tied c.self.inside.behind.items c.self.invariant.tied;
  union = rests_union (g.S.SegmentSource.state c.self.inside.inner) (g.S.SegmentSource.state c.end.new.source) c.self.inside.before c.self.inside.behind.items c.self.inside.asked.items c.self.inside.inner_asked.items
      (has_stage c.self.inside.stages.entries) (has_stage c.end.new.stages.entries) c.self.inside.faults c.self.invariant.union c.end.ensures.rests
      (fewer_by c.args.id (has_stage c.self.inside.stages.entries) (has_stage c.end.new.stages.entries) c.end.ensures.live);
  readable = c.self.invariant.readable;
}
