use Rattle.std.proofs.Common.{List, [], ◌∷◌, ◌++◌, refl, sym, ap, ◌∙◌, subst}
use Rattle.std.specs.Prelude.{All}
use Rattle.std.proofs.lemmas.List.Elements.{All-cons, All-nil}
use Rattle.vortex_scan.specs.Disk.OpenerView.{OpenerView, opener_state}
use Rattle.vortex_scan.specs.Disk.SourceView.{SourceView, state_of}
use Rattle.vortex_scan.specs.Drive.declared.files.ScanFile.{ScanFile}
use Rattle.vortex_scan.specs.Multi.Lawful.{IsIdle}
use Rattle.uses.specs.Disk.{disk_file}
use Rattle.uses.specs.Own.{AreOne}
use Rattle.uses.proofs.OnDisk.{file_idle, file_alone}
use Rattle.uses.proofs.disk.on_disk.Goals as goal

pub returns-clause-idle : goal.returns-clause-idle
returns-clause-idle g c =
    let bytes = g.F.BytesAt.bytes in
    let can_fail = g.F.BytesAt.can_fail in
    let file : ScanFile (OpenerView g.row.F.Denot) (SourceView g.row.F.Denot) = record { opener = c.new-opener.result; source = c.new-source.result; source_id = c.args.source_id } in
    let pushed = c.in_ok-push.ensures.items ∙ ap (λ fs. fs ++ file ∷ []) c.new-files.ensures.items in
    subst (λ fs. All (IsIdle (opener_state bytes can_fail) (state_of bytes can_fail)) fs) (sym pushed)
    (All-cons (IsIdle (opener_state bytes can_fail) (state_of bytes can_fail)) file [] (file_idle bytes can_fail file c.new-source.ensures) (All-nil (IsIdle (opener_state bytes can_fail) (state_of bytes can_fail))))

pub returns-clause-one : goal.returns-clause-one
returns-clause-one g c =
    let bytes = g.F.BytesAt.bytes in
    let can_fail = g.F.BytesAt.can_fail in
    let file : ScanFile (OpenerView g.row.F.Denot) (SourceView g.row.F.Denot) = record { opener = c.new-opener.result; source = c.new-source.result; source_id = c.args.source_id } in
    let pushed = c.in_ok-push.ensures.items ∙ ap (λ fs. fs ++ file ∷ []) c.new-files.ensures.items in
    λ whole f are.
    subst (λ fs. AreOne (opener_state bytes can_fail) (state_of bytes can_fail) (disk_file whole f) fs) (sym pushed)
    (file_alone bytes can_fail file c.args.header c.args.file whole f c.new-opener.ensures c.new-source.ensures are)
