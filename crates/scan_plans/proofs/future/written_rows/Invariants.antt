use Rattle.std.proofs.Common.{◌≡◌, ◌≤◌, ◌+◌, ◌++◌, take, drop, vec_len, length}
use Rattle.scan_plans.specs.Meaning.{true_rows}
use Rattle.scan_plans.proofs.future.written_rows.Given as goal

abbrev pub invariant-loop-i : goal.invariant-loop-i
invariant-loop-i l = record {
  behind : l.count ≤ l.i;
  long : vec_len l.rows ≡ length l.bits;
  same : take l.count l.rows.items ++ true_rows (l.fn.first + l.i) (drop l.i l.bits) ≡ true_rows l.fn.first l.bits;
}
