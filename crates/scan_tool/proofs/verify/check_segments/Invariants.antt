use Rattle.std.proofs.Common.{◌≡◌}
use Rattle.scan_disk.specs.SourceView.{state_of}
use Rattle.scan_segments.specs.Source.{none_live}
use Rattle.scan_tool.proofs.verify.check_segments.Given as goal

abbrev pub invariant-loop-segment : goal.invariant-loop-segment
invariant-loop-segment g l = (state_of g.F.BytesAt.bytes g.F.BytesAt.can_fail l.source).live ≡ none_live
