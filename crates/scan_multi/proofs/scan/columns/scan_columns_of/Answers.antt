use Rattle.std.proofs.Common.{◌++◌, ◌∙◌, List, ap}
use Rattle.std.proofs.lemmas.Result.{err_from_is_err_and}
use Rattle.scan_multi.specs.Output.{ChunkData}
use Rattle.scan_multi.proofs.Resting.{kept_all}
use Rattle.scan_multi.proofs.scan.columns.scan_columns_of.Goals as goal

pub scan_into-requires-after_bounds : goal.scan_into-requires-after_bounds
scan_into-requires-after_bounds g c κs within = c.requires

pub returns-in_err-end-clause-ok : goal.returns-in_err-end-clause-ok
returns-in_err-end-clause-ok g c = let p = err_from_is_err_and c.from_residual.result c.from_residual.ensures.1 in rw (p.1) tt

pub returns-in_err-end-clause-err : goal.returns-in_err-end-clause-err
returns-in_err-end-clause-err g c = let p = err_from_is_err_and c.from_residual.result c.from_residual.ensures.1 in rw (p.1, p.2) c.in_err-end.ensures.err

pub returns-in_err-end-clause-moves : goal.returns-in_err-end-clause-moves
returns-in_err-end-clause-moves g c = c.scan_into.ensures.moves

pub returns-clause-ok : goal.returns-clause-ok
returns-clause-ok g c =
    let opener = g.O.LayoutReaderFactory.opener in
    let source = g.S.SegmentSource.state in
    let old = c.args.files.now.items in
    let new = c.scan_into.new.files.items in
    let before = g.C.KeyedSegmentCache.cache c.args.cache.now in
    let after = g.C.KeyedSegmentCache.cache c.scan_into.new.cache in
    kept_all opener source _ c.args.workers c.args.dtype.now c.args.request.now old new before after c.new-kept.result c.scan_into.new.sink c.scan_into.new.sink.chunks.items c.in_ok-end.end c.in_ok-end.ensures.ok
    (λ (xs : List ChunkData) took. took ∙ ap (λ (ys : List ChunkData). ys ++ xs) c.new-kept.ensures)

pub returns-clause-moves : goal.returns-clause-moves
returns-clause-moves g c = c.scan_into.ensures.moves
