use Rattle.std.proofs.Common.{◌≡◌, ◌≤◌, ◌++◌, take, drop, vec_len, length}
use Rattle.std.specs.List.{items_where_true}
use Rattle.scan_spelling.proofs.run.kept.Given as goal

abbrev pub invariant-loop-i : goal.invariant-loop-i
invariant-loop-i g l = record {
  behind : l.count ≤ l.i;
  long : vec_len l.items ≡ length l.mask;
  same : take l.count l.items.items ++ items_where_true (drop l.i l.mask) (drop l.i l.items.items) ≡ items_where_true l.mask l.initial.items.items;
}
