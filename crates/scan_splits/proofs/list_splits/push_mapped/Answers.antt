use Rattle.std.proofs.Common.{get_or, refl}
use Rattle.std.proofs.lemmas.Result.{err_from_is_err_and}
use Rattle.scan_layout.specs.Edges.{is_inside, map_element_split_to_outer_grid}
use Rattle.scan_splits.proofs.Mapping.{pushed_more, pushed_part}
use Rattle.scan_splits.proofs.list_splits.push_mapped.Goals as goal

pub returns-in_err-push_new : goal.returns-in_err-push_new
returns-in_err-push_new c =
    let p = err_from_is_err_and c.from_residual.result c.from_residual.ensures.1 in
    rw p.1 (pushed_part (is_inside c.args.range.now.start c.args.range.now.end) (λ e. map_element_split_to_outer_grid e c.args.element_rows c.args.rows c.args.grid) c.args.range.now.offset c.args.element_splits.now c.loop-e.e-index
    (get_or c.args.element_splits.now c.loop-e.e-index 0) c.loop-e.last c.map_element_split_to_outer_grid-row.result c.args.splits.now c.loop-e.splits c.push_new.new.splits c.loop-e-test.true refl c.map_element_split_to_outer_grid-row.ensures c.loop-e.invariant c.in_err-push_new.ensures)

pub loop-e-preserved : goal.loop-e-preserved
loop-e-preserved c =
    pushed_more (is_inside c.args.range.now.start c.args.range.now.end) (λ e. map_element_split_to_outer_grid e c.args.element_rows c.args.rows c.args.grid) c.args.range.now.offset c.args.element_splits.now c.loop-e.e-index
    (get_or c.args.element_splits.now c.loop-e.e-index 0) c.loop-e.last c.map_element_split_to_outer_grid-row.result c.args.splits.now c.loop-e.splits c.push_new.new.splits c.loop-e-test.true refl c.map_element_split_to_outer_grid-row.ensures c.loop-e.invariant c.in_ok-push_new.ensures
