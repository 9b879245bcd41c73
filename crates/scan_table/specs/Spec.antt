-- What a table is made of, and what its scan asks for.
use Rattle.std.specs.Prelude.{ℕ, ◌+◌, ◌++◌, List, [], ◌∷◌, Option, None, Some, map, length, filter_map, false}
use Rattle.std.specs.Fmt.{decimal}
use Rattle.scan_values.specs.DataType.{Name}
use Rattle.scan_values.specs.declared.ptype.Nullability.TheVariants.{NonNullable}
use Rattle.scan_values.specs.declared.selection.Selection.TheVariants.{All}
use Rattle.scan_expr.specs.Expr.{Expr, pack, parts_of}
use Rattle.scan_expr.specs.declared.request.ScanRequest.{ScanRequest}
use Rattle.scan_groups.specs.declared.measure.Measured.{Measured}
use Rattle.scan_groups.specs.declared.measure.Measured.TheVariants as is
use Rattle.scan_table.specs.declared.spec.TableSpec.{TableSpec}
use Rattle.scan_table.specs.declared.spec.Measure.{Measure}
use Rattle.scan_table.specs.declared.spec.Measure.TheVariants.{Count, Values, Sum, Least, Greatest}

-- the expression that a measure is over, where it is over one
abbrev pub read_by : Measure → Option Expr
read_by Count = None
read_by (Values e) = Some e
read_by (Sum e) = Some e
read_by (Least e) = Some e
read_by (Greatest e) = Some e

-- what it tells of the rows of a group, where what it reads stands at a place
abbrev pub measured : ℕ → Measure → Measured
measured place Count = is.Count
measured place (Values e) = is.Values place
measured place (Sum e) = is.Sum place
measured place (Least e) = is.Least place
measured place (Greatest e) = is.Greatest place

-- the place behind what it reads
abbrev pub behind : ℕ → Measure → ℕ
behind place Count = place
behind place (Values e) = place + 1
behind place (Sum e) = place + 1
behind place (Least e) = place + 1
behind place (Greatest e) = place + 1

-- measures one by one, what the first reads at a place
abbrev pub measured_from : ℕ → List (Name × Measure) → List Measured
measured_from place [] = []
measured_from place (m ∷ ms) = measured place m.1 ∷ measured_from (behind place m.1) ms

abbrev pub all_measured : TableSpec → List Measured
all_measured s = measured_from 0 s.measures.items

-- how many keys a table has
abbrev pub key_count : TableSpec → ℕ
key_count s = length s.keys.items

-- the names of keys, and those of measures
abbrev pub key_names : List (Name × Expr) → List Name
key_names ks = map (λ (k : Name × Expr). k.0) ks

abbrev pub measure_names : List (Name × Measure) → List Name
measure_names ms = map (λ (m : Name × Measure). m.0) ms

-- keys' before measures'
abbrev pub names_of : TableSpec → List Name
names_of s = key_names s.keys.items ++ measure_names s.measures.items

-- the expressions of keys, and those of measures that have one
abbrev pub key_parts : List (Name × Expr) → List Expr
key_parts ks = map (λ (k : Name × Expr). k.1) ks

abbrev pub measure_parts : List (Name × Measure) → List Expr
measure_parts ms = filter_map (λ (m : Name × Measure). read_by m.1) ms

-- what is read of each row: keys' before measures'
abbrev pub read_of : TableSpec → List Expr
read_of s = key_parts s.keys.items ++ measure_parts s.measures.items

-- so many names of their own
abbrev pub own_names : ℕ → List Expr → List Name
own_names i [] = []
own_names i (e ∷ es) = decimal i ∷ own_names (i + 1) es

-- a struct of them, under names of their own
abbrev pub projection_of : TableSpec → Expr
projection_of s = pack (parts_of (own_names 0 (read_of s)) (read_of s)) NonNullable

-- the rows of a table, in any order
abbrev pub request_of : TableSpec → ScanRequest
request_of s = record {
  projection = projection_of s;
  filter = s.filter;
  row_range = s.row_range;
  selection = s.selection;
  partition_selection = All;
  partition_range = None;
  ordered = false;
  limit = None;
}
