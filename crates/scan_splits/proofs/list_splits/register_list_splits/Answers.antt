use Rattle.std.proofs.Common.{◌∷◌, []}
use Rattle.std.proofs.lemmas.Result.{err_from_is_err_and}
use Rattle.scan_layout.specs.Edges.{list_split_grid_size}
use Rattle.scan_splits.specs.ListSplits.{mapped_inside}
use Rattle.scan_splits.proofs.Pushing.{pushes_then, shifted_part}
use Rattle.scan_splits.proofs.list_splits.register_list_splits.Goals as goal

pub returns-in_err-push_mapped : goal.returns-in_err-push_mapped
returns-in_err-push_mapped c =
    let p = err_from_is_err_and c.from_residual.result c.from_residual.ensures.1 in
    let span = c.args.range.now in
    rw p.1 (shifted_part span.offset (mapped_inside c.args.element_rows c.args.rows (list_split_grid_size c.args.rows) span.start span.end c.args.element_splits.now) (span.end ∷ []) c.args.splits.now c.push_mapped.new.splits
    (rw (← c.list_split_grid_size-grid.ensures) c.in_err-push_mapped.ensures))

pub returns : goal.returns
returns c =
    let span = c.args.range.now in
    pushes_then c.push_end.result span.offset (mapped_inside c.args.element_rows c.args.rows (list_split_grid_size c.args.rows) span.start span.end c.args.element_splits.now) (span.end ∷ []) c.args.splits.now c.push_mapped.new.splits c.push_end.new.splits
    (rw (← c.list_split_grid_size-grid.ensures) c.in_ok-push_mapped.ensures) c.push_end.ensures
