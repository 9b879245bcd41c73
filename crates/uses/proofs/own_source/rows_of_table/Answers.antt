use Rattle.std.proofs.Common.{rules, ap}
use Rattle.std.proofs.lemmas.Result.{err_from_is_err_and}
use Rattle.vortex_scan.specs.Multi.Output.{OutputData}
use Rattle.uses.specs.Own.{memory_opener, table_file, table_source}
use Rattle.uses.proofs.Alone.{given_alone}
use Rattle.uses.proofs.own_source.rows_of_table.Goals as goal

pub scan_files-requires : goal.scan_files-requires
scan_files-requires g c = let idle = c.in_ok-files.ensures.idle in search (rules, idle)

pub returns-in_err-files : goal.returns-in_err-files
returns-in_err-files g c = let p = err_from_is_err_and c.from_residual.result c.from_residual.ensures.1 in rw (p.1) tt

pub returns-in_err-output : goal.returns-in_err-output
returns-in_err-output g c = let p = err_from_is_err_and c.from_residual-in_err-output.result c.from_residual-in_err-output.ensures.1 in rw (p.1) tt

pub returns : goal.returns
returns g c =
    given_alone memory_opener table_source 1 c.args.dtype.now c.args.request.now c.in_ok-files.files.items c.scan_files.new.files.items _
    (table_file c.args.layout.value c.args.segments.items) c.in_ok-output.output _ (ap (λ (o : OutputData). o.chunks) c.output.view_is) c.in_ok-files.ensures c.in_ok-output.ensures.ok
