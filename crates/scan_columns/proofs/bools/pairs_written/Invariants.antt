use Rattle.std.proofs.Common.{◌≡◌, ◌++◌, take, drop, vec_len}
use Rattle.scan_values.specs.Val.{bool_val}
use Rattle.scan_columns.specs.Typed.{typed}
use Rattle.scan_columns.specs.Evaluated.{paired}
use Rattle.scan_columns.specs.Operands.{pair_val}
use Rattle.scan_columns.proofs.bools.pairs_written.Given as goal

abbrev pub invariant-loop-i : goal.invariant-loop-i
invariant-loop-i l = record {
  long : vec_len l.bits ≡ l.i-end;
  even : vec_len l.valid ≡ l.i-end;
  same : typed bool_val (take l.i l.bits.items) (take l.i l.valid.items) ++ paired (pair_val l.op) (drop l.i (typed bool_val l.x l.x_valid)) (drop l.i (typed bool_val l.y l.y_valid)) ≡ paired (pair_val l.op) (typed bool_val l.x l.x_valid) (typed bool_val l.y l.y_valid);
}
