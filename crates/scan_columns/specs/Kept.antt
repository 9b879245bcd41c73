-- Numbers that are kept as i64 where each is one, else as i128.
use Rattle.std.specs.Prelude.{ℤ, List}
use Rattle.scan_columns.specs.declared.kept.Kept.{Kept}
use Rattle.scan_columns.specs.declared.kept.Kept.TheVariants.{Narrow, Wide}

abbrev pub numbers_in : Kept → List ℤ
numbers_in (Narrow v) = v.items
numbers_in (Wide v) = v.items
