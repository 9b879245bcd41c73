-- What a table is: the groups of the rows of an answer.
use Rattle.std.specs.Prelude.{ℕ, List, IsSome, All, map, unwrap_or}
use Rattle.scan_values.specs.DataType.{DataType}
use Rattle.scan_values.specs.Val.{null_val}
use Rattle.scan_multi.specs.Answer.{Item, ToldFile, answer}
use Rattle.scan_groups.specs.Rows.{Row, AreGroups, IsPast}
use Rattle.scan_groups.specs.declared.group.Group.{Group}
use Rattle.scan_table.specs.declared.spec.TableSpec.{TableSpec}
use Rattle.scan_table.specs.Rows.{row_in}
use Rattle.scan_table.specs.Spec.{all_measured, key_count, request_of}

-- the row of an item
abbrev pub row_of : ℕ → Item → Row
row_of keys item = row_in keys (unwrap_or item.value null_val)

-- the rows of a table over files, in the order of the answer
abbrev pub table_rows : DataType → TableSpec → List ToldFile → List Row
table_rows d s files = map (row_of (key_count s)) (answer d (request_of s) files)

-- A table of an answer: no row of that is damaged, these are the groups of its rows, and no sum is past 64 bits.
pub record IsTableOf (d : DataType) (s : TableSpec) (files : List ToldFile) (made : List Group) : Type 0 where
  pub clean : All (λ item. IsSome item.value) (answer d (request_of s) files)
  pub groups : AreGroups (key_count s) (all_measured s) (table_rows d s files) made
  pub sums : (measure : ℕ) → IsPast (all_measured s) (table_rows d s files) measure → ⊥
