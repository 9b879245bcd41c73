use Rattle.std.proofs.Common.{◌≡◌, ◌-◌, None}
use Rattle.vortex_scan.specs.Segments.Source.{none_live}
use Rattle.uses.specs.InParts.{HasParts}
use Rattle.uses.proofs.in_parts.read_parts.Given as goal

abbrev pub invariant-parts : goal.invariant-parts
invariant-parts g l = record {
  none : l.scan.seat ≡ None;
  idle : (g.S.SegmentSource.state l.segments).live ≡ none_live;
  holds : (g.S.SegmentSource.state l.segments).holds ≡ (g.S.SegmentSource.state l.fn.segments).holds;
  has : HasParts (g.S.SegmentSource.state l.fn.segments).holds l.fn.scan l.scan l.read.items;
}

abbrev pub decreases-parts : goal.decreases-parts
decreases-parts g l = l.scan.end - l.scan.next
