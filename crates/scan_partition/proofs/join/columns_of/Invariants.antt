use Rattle.std.proofs.Common.{◌≡◌, ◌++◌, map}
use Rattle.std.specs.Vec.Iter.{into_iter_items}
use Rattle.scan_values.specs.Arrays.{ArrayData}
use Rattle.scan_partition.specs.Joining.{AreFitting}
use Rattle.scan_partition.proofs.join.columns_of.Given as goal

abbrev pub invariant-loop-array : goal.invariant-loop-array
invariant-loop-array l = record {
  items : l.columns.items ++ map (λ (a : ArrayData). a.items) (into_iter_items l.array-iterator) ≡ map (λ (a : ArrayData). a.items) l.fn.arrays.items;
  fit : AreFitting (into_iter_items l.array-iterator) → AreFitting l.fn.arrays.items;
}
