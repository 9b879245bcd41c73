-- Rows that are lent, as contracts see them.
use Rattle.std.specs.Prelude.{List, map, Option, option_map}
use Rattle.std.specs.Borrow.{Bor}
use Rattle.scan_values.specs.declared.value.Value.{Value}
use Rattle.scan_values.specs.Values.{val_of}
use Rattle.scan_encode.specs.Rows.{Row}

abbrev pub row_in : Option (Bor Value) → Row
row_in r = option_map (λ v. val_of v.now) r

abbrev pub rows_in : List (Option (Bor Value)) → List Row
rows_in rs = map row_in rs
