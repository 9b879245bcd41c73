use Rattle.std.proofs.Common.{◌≡◌, ◌++◌, drop, length}
use Rattle.scan_values.specs.Val.{int_val}
use Rattle.scan_columns.specs.Typed.{typed}
use Rattle.scan_columns.specs.Evaluated.{binary_val, paired, spills_in}
use Rattle.scan_columns.specs.Operands.{numbers_in}
use Rattle.scan_columns.proofs.integers.numbers_summed.Given as goal

abbrev pub invariant-loop-i : goal.invariant-loop-i
invariant-loop-i l = record {
  even : length l.valid.items ≡ length l.values.items;
  same : typed int_val l.values.items l.valid.items ++ paired (binary_val l.op l.dtype) (drop l.i (numbers_in l.x)) (drop l.i (numbers_in l.y)) ≡ paired (binary_val l.op l.dtype) (numbers_in l.x) (numbers_in l.y);
  within : spills_in l.op l.dtype (numbers_in l.x) (numbers_in l.y) ≡ spills_in l.op l.dtype (drop l.i (numbers_in l.x)) (drop l.i (numbers_in l.y));
}
