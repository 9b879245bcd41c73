use Rattle.std.proofs.Common.{rules, ap}
use Rattle.std.proofs.lemmas.Result.{err_from_is_err_and}
use Rattle.vortex_scan.specs.Disk.OpenerView.{opener_state}
use Rattle.vortex_scan.specs.Disk.SourceView.{state_of}
use Rattle.vortex_scan.specs.Multi.Output.{OutputData}
use Rattle.uses.specs.Disk.{disk_file}
use Rattle.uses.proofs.Alone.{given_alone}
use Rattle.uses.proofs.disk.rows_of_file.Goals as goal

pub scan_files-requires : goal.scan_files-requires
scan_files-requires g c = let idle = c.in_ok-files.ensures.idle in search (rules, idle)

pub returns-in_err-files : goal.returns-in_err-files
returns-in_err-files g c = let p = err_from_is_err_and c.from_residual.result c.from_residual.ensures.1 in rw (p.1) tt

pub returns-in_err-output : goal.returns-in_err-output
returns-in_err-output g c = let p = err_from_is_err_and c.from_residual-in_err-output.result c.from_residual-in_err-output.ensures.1 in rw (p.1) tt

pub returns : goal.returns
returns g c = λ bytes f are.
    given_alone (opener_state g.F.BytesAt.bytes g.F.BytesAt.can_fail) (state_of g.F.BytesAt.bytes g.F.BytesAt.can_fail) 1 c.args.dtype.now c.args.request.now c.in_ok-files.files.items c.scan_files.new.files.items _
    (disk_file bytes f) c.in_ok-output.output _ (ap (λ (o : OutputData). o.chunks) c.output.view_is) (c.in_ok-files.ensures.one bytes f are) c.in_ok-output.ensures.ok
