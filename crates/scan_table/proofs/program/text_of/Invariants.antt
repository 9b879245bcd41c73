use Rattle.std.proofs.Common.{◌≡◌, ◌++◌, length}
use Rattle.std.specs.Vec.Iter.{into_iter_items, into_iter_len}
use Rattle.scan_table.specs.Runs.{group_lines}
use Rattle.scan_table.proofs.program.text_of.Given as goal

abbrev pub invariant-loop-group : goal.invariant-loop-group
invariant-loop-group l = record {
  len : into_iter_len l.group-iterator ≡ length (into_iter_items l.group-iterator);
  text : l.text.items ++ group_lines l.fn.names.items (into_iter_items l.group-iterator) ≡ group_lines l.fn.names.items l.fn.groups.items;
}
