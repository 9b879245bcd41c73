use Rattle.std.proofs.Common.{◌≡◌, ◌∙◌, List, length, arith, ap, subst, sym}
use Rattle.std.specs.Prelude.{IfErr}
use Rattle.std.proofs.lemmas.Result.{err_from_is_err_and}
use Rattle.scan_drive.specs.declared.files.ScanFile.{ScanFile}
use Rattle.scan_seek.specs.KeptData.{KeptData}
use Rattle.scan_lookup.specs.Session.{session_data}
use Rattle.scan_lookup.specs.declared.fault.LookupFault.{LookupFault}
use Rattle.scan_lookup.specs.declared.fault.LookupFault.TheVariants as fault
use Rattle.scan_lookup.proofs.Sessions.{begins_kept, none_kept}
use Rattle.scan_lookup.proofs.session.begun.Goals as goal

pub started-requires : goal.started-requires
started-requires g c =
    let files : List (ScanFile g.row.O.Denot g.row.S.Denot) = c.args.files.items in
    let many : c.len.result ≡ length files = omega (arith, c.len.ensures, c.args.files.ok.0) in
    begins_kept g.O.LayoutReaderFactory.opener g.S.SegmentSource.state c.args.projection files c.in_ok-kept.kept.items c.args.cache (none_kept files c.len.result c.in_ok-kept.kept.items many c.in_ok-kept.ensures) c.requires.parts c.requires.idle

pub returns-clause-made : goal.returns-clause-made
returns-clause-made g c =
    let files : List (ScanFile g.row.O.Denot g.row.S.Denot) = c.args.files.items in
    let many : c.len.result ≡ length files = omega (arith, c.len.ensures, c.args.files.ok.0) in
    c.started.ensures ∙ ap (λ (k : List KeptData). session_data c.args.projection files k c.args.cache) (none_kept files c.len.result c.in_ok-kept.kept.items many c.in_ok-kept.ensures)

pub returns-in_err-kept-clause-short : goal.returns-in_err-kept-clause-short
returns-in_err-kept-clause-short g c =
    let p = err_from_is_err_and c.from_residual.result c.from_residual.ensures.1 in
    subst (λ r. IfErr r (λ (u : LookupFault). u ≡ fault.NoMemory)) (sym p.1) p.2
