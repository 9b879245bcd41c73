-- Where a name is found.
use Rattle.std.specs.Prelude.{ℕ, List, Option, Some, None, bytes_eq}
use Rattle.std.specs.List.{position}
use Rattle.std.specs.BTreeMap.{BTreeMap, get_by_text}
use Rattle.std.specs.declared.string.String.{String}
use Rattle.scan_values.specs.DataType.{Name}

-- by a map of places where there is one, else among the names
abbrev pub place_found : {Y : Type 0} → Option (BTreeMap (String Y) ℕ) → List Name → Name → Option ℕ
place_found None ns n = position (bytes_eq n) ns
place_found (Some m) ns n = get_by_text m n
