use Rattle.std.proofs.Common.{◌≡◌, length}
use Rattle.std.specs.Vec.Iter.{into_iter_items, into_iter_len}
use Rattle.scan_table.proofs.Rowing.{HasValues}
use Rattle.scan_table.proofs.rows.add_values.Given as goal

abbrev pub invariant-loop-row : goal.invariant-loop-row
invariant-loop-row l = record {
  len : into_iter_len l.row-iterator ≡ length (into_iter_items l.row-iterator);
  rows : HasValues l.keys l.fn.values.items (into_iter_items l.row-iterator) l.fn.groups l.groups;
}
