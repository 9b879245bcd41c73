use Rattle.std.proofs.Common.{rules, ap, ◌∙◌}
use Rattle.std.proofs.lemmas.Result.{err_from_is_err_and}
use Rattle.vortex_scan.specs.Segments.Faults.{capped}
use Rattle.vortex_scan.specs.Multi.Output.{OutputData}
use Rattle.uses.specs.Uses.{rows_in}
use Rattle.uses.proofs.Concluding.{counted}
use Rattle.uses.proofs.count.count_rows.Goals as goal

pub scan_files-requires : goal.scan_files-requires
scan_files-requires g c = let idle = c.requires in search (rules, idle)

-- ---- a refusal
pub returns-in_err-output-clause-count : goal.returns-in_err-output-clause-count
returns-in_err-output-clause-count g c = let p = err_from_is_err_and c.from_residual.result c.from_residual.ensures.1 in rw (p.1) tt

pub returns-in_err-output-clause-idle : goal.returns-in_err-output-clause-idle
returns-in_err-output-clause-idle g c = c.scan_files.ensures.moves.idle

pub returns-in_err-output-clause-lawful : goal.returns-in_err-output-clause-lawful
returns-in_err-output-clause-lawful g c = c.scan_files.ensures.moves.lawful

-- ---- the number
pub returns-clause-count : goal.returns-clause-count
returns-clause-count g c =
    let same = c.as_slice.ensures.value ∙ ap (λ (o : OutputData). o.chunks) c.output.view_is in
    counted g.O.LayoutReaderFactory.opener g.S.SegmentSource.state 1 c.args.dtype.now c.args.request.now c.args.files.now.items c.scan_files.new.files.items
    (g.C.KeyedSegmentCache.cache c.args.cache.now) (g.C.KeyedSegmentCache.cache c.scan_files.new.cache) c.in_ok-output.output c.count_in.result (c.count_in.ensures ∙ ap (λ cs. capped (rows_in cs)) same) c.in_ok-output.ensures.ok

pub returns-clause-idle : goal.returns-clause-idle
returns-clause-idle g c = c.scan_files.ensures.moves.idle

pub returns-clause-lawful : goal.returns-clause-lawful
returns-clause-lawful g c = c.scan_files.ensures.moves.lawful
