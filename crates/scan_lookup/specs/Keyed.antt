-- A number for each of some keys.
use Rattle.std.specs.Prelude.{ℕ}
use Rattle.std.specs.Coded.{Coded, coded_ℕ}
use Rattle.std.specs.Ordering.{nat_cmp}
use Rattle.std.specs.FinMap as map

abbrev pub KeyNumbers : Type 0
KeyNumbers = map.FinMap nat_cmp ℕ

abbrev pub numbers_code : Coded KeyNumbers
numbers_code = map.code coded_ℕ coded_ℕ
