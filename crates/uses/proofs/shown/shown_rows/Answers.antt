use Rattle.std.proofs.Common.{refl}
use Rattle.std.proofs.lemmas.Result.{err_from_is_err_and}
use Rattle.uses.specs.declared.shown.FirstRows.{FirstRows}
use Rattle.uses.proofs.Showing.{all-is, shown}
use Rattle.uses.proofs.shown.shown_rows.Goals as goal

pub scan_into-requires-after_bounds : goal.scan_into-requires-after_bounds
scan_into-requires-after_bounds g c κs within = c.requires

-- ---- a refusal
pub returns-in_err-_end-clause-first : goal.returns-in_err-_end-clause-first
returns-in_err-_end-clause-first g c = let p = err_from_is_err_and c.from_residual.result c.from_residual.ensures.1 in rw (p.1) tt

pub returns-in_err-_end-clause-idle : goal.returns-in_err-_end-clause-idle
returns-in_err-_end-clause-idle g c = c.scan_into.ensures.moves.idle

pub returns-in_err-_end-clause-lawful : goal.returns-in_err-_end-clause-lawful
returns-in_err-_end-clause-lawful g c = c.scan_into.ensures.moves.lawful

-- ---- the rows
pub returns-clause-first : goal.returns-clause-first
returns-clause-first g c =
    let n = c.new-request.ensures in
    let e = all-is c.new-request.result c.args.projection n.projection n.filter n.row_range n.selection n.partition_selection n.partition_range n.ordered n.limit in
    let opener = g.O.LayoutReaderFactory.opener in
    let source = g.S.SegmentSource.state in
    let old = c.args.files.now.items in
    let new = c.scan_into.new.files.items in
    let before = g.C.KeyedSegmentCache.cache c.args.cache.now in
    let after = g.C.KeyedSegmentCache.cache c.scan_into.new.cache in
    shown opener source (λ (s : FirstRows). s.chunks.items) (λ (s : FirstRows). s.rows) (λ (s : FirstRows). s.most) 1 c.args.dtype.now c.new-request.result c.args.projection e old new before after _ c.scan_into.new.sink c.new.ensures.items refl
    c.in_ok-_end._end c.in_ok-_end.ensures.ok c.scan_into.ensures.front

pub returns-clause-idle : goal.returns-clause-idle
returns-clause-idle g c = c.scan_into.ensures.moves.idle

pub returns-clause-lawful : goal.returns-clause-lawful
returns-clause-lawful g c = c.scan_into.ensures.moves.lawful
