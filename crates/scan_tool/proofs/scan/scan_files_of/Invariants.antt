use Rattle.std.proofs.Common.{All}
use Rattle.scan_disk.specs.OpenerView.{opener_state}
use Rattle.scan_disk.specs.SourceView.{state_of}
use Rattle.scan_multi.specs.Lawful.{IsIdle}
use Rattle.scan_tool.proofs.scan.scan_files_of.Given as goal

abbrev pub invariant-loop-file : goal.invariant-loop-file
invariant-loop-file g l = All (IsIdle (opener_state g.F.BytesAt.bytes g.F.BytesAt.can_fail) (state_of g.F.BytesAt.bytes g.F.BytesAt.can_fail)) l.files.items
