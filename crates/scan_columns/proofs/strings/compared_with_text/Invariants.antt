use Rattle.std.proofs.Common.{◌≡◌, ◌++◌, drop, length}
use Rattle.scan_values.specs.Val.{bool_val}
use Rattle.scan_columns.specs.Typed.{typed}
use Rattle.scan_columns.specs.Evaluated.{paired}
use Rattle.scan_columns.specs.Operands.{pair_val}
use Rattle.scan_columns.specs.Texts.{texts_in}
use Rattle.scan_columns.proofs.strings.compared_with_text.Given as goal

abbrev pub invariant-loop-i : goal.invariant-loop-i
invariant-loop-i l = record {
  even : length l.valid.items ≡ length l.values.items;
  same : typed bool_val l.values.items l.valid.items ++ paired (pair_val l.op) (drop l.i (texts_in l.x)) (drop l.i (l.other)) ≡ paired (pair_val l.op) (texts_in l.x) (l.other);
}
