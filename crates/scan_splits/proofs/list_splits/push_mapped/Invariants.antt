use Rattle.scan_layout.specs.Edges.{is_inside, map_element_split_to_outer_grid}
use Rattle.scan_splits.proofs.Mapping.{Pushed}
use Rattle.scan_splits.proofs.list_splits.push_mapped.Given as goal

abbrev pub invariant-loop-e : goal.invariant-loop-e
invariant-loop-e l = Pushed (is_inside l.range.start l.range.end) (λ e. map_element_split_to_outer_grid e l.element_rows l.rows l.grid) l.range.offset l.element_splits l.e-index l.last l.initial.splits l.splits
