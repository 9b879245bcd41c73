use Rattle.std.proofs.Common.{[], ◌∷◌, ◌++◌, List}
use Rattle.std.proofs.lemmas.List.Elements.{All-push, All-same}
use Rattle.scan_disk.specs.OpenerView.{OpenerView, opener_state}
use Rattle.scan_disk.specs.SourceView.{SourceView, state_of}
use Rattle.scan_drive.specs.declared.files.ScanFile.{ScanFile}
use Rattle.scan_multi.specs.Lawful.{IsIdle}
use Rattle.scan_tool.proofs.scan.scan_files_of.Goals as goal

pub loop-file-preserved : goal.loop-file-preserved
loop-file-preserved g c =
    let made : List (ScanFile (OpenerView g.row.F.Denot) (SourceView g.row.F.Denot)) = c.loop-file.files.items in
    let one : ScanFile (OpenerView g.row.F.Denot) (SourceView g.row.F.Denot) = c.in_ok-into_scan_file.field-0 in
    All-same (IsIdle (opener_state g.F.BytesAt.bytes g.F.BytesAt.can_fail) (state_of g.F.BytesAt.bytes g.F.BytesAt.can_fail)) c.push.new.self.items (made ++ one ∷ []) c.in_ok-push.ensures.items
    (All-push (IsIdle (opener_state g.F.BytesAt.bytes g.F.BytesAt.can_fail) (state_of g.F.BytesAt.bytes g.F.BytesAt.can_fail)) made one c.loop-file.invariant c.in_ok-into_scan_file.ensures)
