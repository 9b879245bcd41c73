-- Numbers are in order by what they are.
use Rattle.std.proofs.Common.{◌≡◌, refl, ℤ}
use Rattle.std.specs.Ordering.{int_cmp, ordering_then}
use Rattle.std.specs.declared.cmp.Ordering.{Ordering}
use Rattle.std.specs.declared.cmp.Ordering.TheVariants.{Less, Equal, Greater}
use Rattle.scan_values.specs.Val.{int_val}
use Rattle.scan_groups.specs.Order.{value_cmp}

then_equal : (o : Ordering) → ordering_then o Equal ≡ o
then_equal Less = refl
then_equal Equal = refl
then_equal Greater = refl

pub numbers_cmp : (x y : ℤ) → value_cmp (int_val x) (int_val y) ≡ int_cmp x y
numbers_cmp x y = then_equal (int_cmp x y)
