use Rattle.std.proofs.Common.{rules, ap, ◌∙◌}
use Rattle.std.proofs.lemmas.Result.{err_from_is_err_and}
use Rattle.vortex_scan.specs.Multi.Output.{OutputData, given}
use Rattle.uses.proofs.Concluding.{first-is, first_under}
use Rattle.uses.proofs.under.first_rows_under.Goals as goal

pub scan_union-requires-clause-idle : goal.scan_union-requires-clause-idle
scan_union-requires-clause-idle g c = let idle = c.requires in search (rules, idle)

-- ---- a refusal
pub returns-in_err-output-clause-first : goal.returns-in_err-output-clause-first
returns-in_err-output-clause-first g c = let p = err_from_is_err_and c.from_residual.result c.from_residual.ensures.1 in rw (p.1) tt

pub returns-in_err-output-clause-idle : goal.returns-in_err-output-clause-idle
returns-in_err-output-clause-idle g c = c.scan_union.ensures.moves.idle

-- ---- the rows
pub returns-clause-first : goal.returns-clause-first
returns-clause-first g c =
    let n = c.new-request.ensures in
    let e = first-is c.new-request.result c.args.projection c.args.most n.projection n.filter n.row_range n.selection n.partition_selection n.partition_range n.ordered in
    λ l.
    ap (λ (o : OutputData). given o.chunks) c.output.view_is
    ∙ first_under g.O.LayoutReaderFactory.opener g.S.SegmentSource.state 1 c.args.dtype.now _ c.args.projection c.args.most e c.args.files.now.items c.scan_union.new.files.items
    c.in_ok-output.output c.in_ok-output.ensures.ok l

pub returns-clause-idle : goal.returns-clause-idle
returns-clause-idle g c = c.scan_union.ensures.moves.idle
