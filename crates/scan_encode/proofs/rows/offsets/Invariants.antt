use Rattle.std.proofs.Common.{◌≡◌, ◌+◌, ◌∷◌, ◌++◌, map, drop, length}
use Rattle.std.specs.Prelude.{pos}
use Rattle.scan_values.specs.Val.{int_val}
use Rattle.scan_values.specs.Values.{val_of}
use Rattle.scan_spelling.specs.Cuts.{sums}
use Rattle.scan_encode.specs.Rows.{all_elements, counts}
use Rattle.scan_encode.specs.RowsIn.{rows_in}
use Rattle.scan_encode.proofs.rows.offsets.Given as goal

abbrev pub invariant-loop-row : goal.invariant-loop-row
invariant-loop-row l = record {
  most : l.end + length (all_elements (rows_in (drop l.row-index l.rows))) ≡ l.fn.most;
  same : map val_of l.made.items ++ map (λ n. int_val (pos n)) (sums l.end (counts (rows_in (drop l.row-index l.rows)))) ≡ map (λ n. int_val (pos n)) (0 ∷ sums 0 (counts (rows_in l.rows)));
}
