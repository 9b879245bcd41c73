use Rattle.std.proofs.Common.{◌≡◌, drop, map}
use Rattle.scan_values.specs.Val.{marked}
use Rattle.scan_plans.specs.MaskLists.{dtype_under}
use Rattle.scan_plans.specs.Projecting.{under_known}
use Rattle.scan_plans.proofs.future.under.Given as goal

abbrev pub invariant-loop-mask : goal.invariant-loop-mask
invariant-loop-mask l = record {
  dtype : dtype_under (drop l.mask-index l.masks) l.masked.dtype ≡ dtype_under l.masks l.fn.column.dtype;
  items : under_known (drop l.mask-index l.masks) (map marked l.masked.items) ≡ under_known l.masks (map marked l.fn.column.items);
}
