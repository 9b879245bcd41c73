use Rattle.std.proofs.Common.{sym, ap, ◌∙◌}
use Rattle.std.proofs.lemmas.Result.{err_from_is_err_and}
use Rattle.vortex_scan.specs.Multi.Output.{OutputData, given}
use Rattle.uses.proofs.Concluding.{same-again}
use Rattle.uses.proofs.twice.scan_twice.Goals as goal

pub scan_files-requires-after_bounds : goal.scan_files-requires-after_bounds
scan_files-requires-after_bounds g c κs within = c.requires

pub scan_files-requires-2-after_bounds : goal.scan_files-requires-2-after_bounds
scan_files-requires-2-after_bounds g c κs within = c.scan_files.ensures.moves.idle

-- ---- the first is refused
pub returns-in_err-first-clause-same : goal.returns-in_err-first-clause-same
returns-in_err-first-clause-same g c = let p = err_from_is_err_and c.from_residual.result c.from_residual.ensures.1 in rw (p.1) tt

pub returns-in_err-first-clause-idle : goal.returns-in_err-first-clause-idle
returns-in_err-first-clause-idle g c = c.scan_files.ensures.moves.idle

pub returns-in_err-first-clause-lawful : goal.returns-in_err-first-clause-lawful
returns-in_err-first-clause-lawful g c = c.scan_files.ensures.moves.lawful

-- ---- the second is refused
pub returns-in_err-again-clause-same : goal.returns-in_err-again-clause-same
returns-in_err-again-clause-same g c = let p = err_from_is_err_and c.from_residual-in_err-again.result c.from_residual-in_err-again.ensures.1 in rw (p.1) tt

pub returns-in_err-again-clause-idle : goal.returns-in_err-again-clause-idle
returns-in_err-again-clause-idle g c = c.scan_files-2.ensures.moves.idle

pub returns-in_err-again-clause-lawful : goal.returns-in_err-again-clause-lawful
returns-in_err-again-clause-lawful g c = λ l. c.scan_files-2.ensures.moves.lawful (c.scan_files.ensures.moves.lawful l)

-- ---- both
pub returns-clause-same : goal.returns-clause-same
returns-clause-same g c =
    let cache = g.C.KeyedSegmentCache.cache in
    λ l o.
    ap (λ (z : OutputData). given z.chunks) c.again.view_is
    ∙ same-again g.O.LayoutReaderFactory.opener g.S.SegmentSource.state 1 c.args.dtype.now c.args.request.now
    c.args.files.now.items c.scan_files.new.files.items c.scan_files-2.new.files.items (cache c.args.cache.now) (cache c.scan_files.new.cache) (cache c.scan_files-2.new.cache)
    c.in_ok-first.first c.in_ok-again.again c.in_ok-first.ensures.ok c.scan_files.ensures.moves c.in_ok-again.ensures.ok l o
    ∙ sym (ap (λ (z : OutputData). given z.chunks) c.first.view_is)

pub returns-clause-idle : goal.returns-clause-idle
returns-clause-idle g c = c.scan_files-2.ensures.moves.idle

pub returns-clause-lawful : goal.returns-clause-lawful
returns-clause-lawful g c = λ l. c.scan_files-2.ensures.moves.lawful (c.scan_files.ensures.moves.lawful l)
