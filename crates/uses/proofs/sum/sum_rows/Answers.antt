use Rattle.std.proofs.Common.{rules, ap, ◌∙◌}
use Rattle.std.proofs.lemmas.Option.{IfSome_then}
use Rattle.std.proofs.lemmas.Result.{err_from_is_err_and}
use Rattle.vortex_scan.specs.Multi.Output.{OutputData}
use Rattle.uses.specs.Sums.{sum_of, chunk_values}
use Rattle.uses.proofs.Summing.{summed}
use Rattle.uses.proofs.sum.sum_rows.Goals as goal

pub scan_columns_of-requires : goal.scan_columns_of-requires
scan_columns_of-requires g c = let idle = c.requires in search (rules, idle)

-- ---- a refusal
pub returns-in_err-output-clause-sum : goal.returns-in_err-output-clause-sum
returns-in_err-output-clause-sum g c = let p = err_from_is_err_and c.from_residual.result c.from_residual.ensures.1 in rw (p.1) tt

pub returns-in_err-output-clause-idle : goal.returns-in_err-output-clause-idle
returns-in_err-output-clause-idle g c = c.scan_columns_of.ensures.moves.idle

pub returns-in_err-output-clause-lawful : goal.returns-in_err-output-clause-lawful
returns-in_err-output-clause-lawful g c = c.scan_columns_of.ensures.moves.lawful

-- ---- the sum
pub returns-clause-sum : goal.returns-clause-sum
returns-clause-sum g c =
    let same = c.as_slice.ensures.value ∙ ap (λ (o : OutputData). o.chunks) c.output.view_is in
    IfSome_then c.sum_in.result c.sum_in.ensures (λ z e.
    summed g.O.LayoutReaderFactory.opener g.S.SegmentSource.state 1 c.args.dtype.now c.args.request.now c.args.files.now.items c.scan_columns_of.new.files.items
    (g.C.KeyedSegmentCache.cache c.args.cache.now) (g.C.KeyedSegmentCache.cache c.scan_columns_of.new.cache) c.in_ok-output.output z (e ∙ ap (λ cs. sum_of (chunk_values cs)) same) c.in_ok-output.ensures.ok)

pub returns-clause-idle : goal.returns-clause-idle
returns-clause-idle g c = c.scan_columns_of.ensures.moves.idle

pub returns-clause-lawful : goal.returns-clause-lawful
returns-clause-lawful g c = c.scan_columns_of.ensures.moves.lawful
