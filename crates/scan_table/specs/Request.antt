-- What is wrong with a table itself.
use Rattle.std.specs.Prelude.{◌≡◌, ◌≢◌, ℕ, ◌+◌, List, [], ◌∷◌, Bool, true, false, Option, None, Some, IfSome, is_some, nat_lt, option_map}
use Rattle.scan_values.specs.DataType.{DataType, Name}
use Rattle.scan_values.specs.Kinds.{is_scalar_type, ptype_of}
use Rattle.scan_values.specs.NameFaults.{names_fault}
use Rattle.scan_expr.specs.Expr.{Expr}
use Rattle.scan_expr.specs.Infer.{infer}
use Rattle.scan_expr.specs.Typing.{Fault, of_names, request_fault}
use Rattle.scan_multi.specs.Request.{is_forward}
use Rattle.scan_multi.specs.declared.scan.fault.RangeFault.TheVariants.{Reversed}
use Rattle.scan_multi.specs.declared.scan.fault.ScanFault.TheVariants as scan
use Rattle.scan_table.specs.declared.fault.TableFault.{TableFault}
use Rattle.scan_table.specs.declared.fault.TableFault.TheVariants as fault
use Rattle.scan_table.specs.declared.spec.Measure.{Measure}
use Rattle.scan_table.specs.declared.spec.Measure.TheVariants.{Count, Values, Sum, Least, Greatest}
use Rattle.scan_table.specs.declared.spec.TableSpec.{TableSpec}
use Rattle.scan_table.specs.Spec.{names_of, projection_of, read_by}

-- this fault, unless the test passes
abbrev pub unless : Bool → TableFault → Option TableFault
unless true f = None
unless false f = Some f

-- the first of two
abbrev pub or_else : Option TableFault → Option TableFault → Option TableFault
or_else None later = later
or_else (Some f) later = Some f

abbrev pub of_bind : Fault → Option TableFault
of_bind None = None
of_bind (Some f) = Some (fault.Scan (scan.Bind f))

-- whether a measure may be over values of this dtype: a sum over integers; a least and a greatest over truth values,
-- integers and texts
abbrev pub may_read : Measure → DataType → Bool
may_read Count t = true
may_read (Values e) t = true
may_read (Sum e) t = is_some (ptype_of t)
may_read (Least e) t = is_scalar_type t
may_read (Greatest e) t = is_scalar_type t

-- whether this holds of the dtype at a place, where there is one
abbrev pub holds_of : (DataType → Bool) → Option DataType → Bool
holds_of test None = true
holds_of test (Some t) = test t

abbrev pub is_measured : DataType → Measure → Bool
is_measured d m = holds_of (may_read m) (option_map (infer d) (read_by m))

-- the first key, from this place on, that is no truth value, integer or text
abbrev pub key_fault : DataType → ℕ → List (Name × Expr) → Option TableFault
key_fault d i [] = None
key_fault d i (k ∷ ks) = or_else (unless (is_scalar_type (infer d k.1)) (fault.KeyType i)) (key_fault d (i + 1) ks)

-- the first measure, from this place on, that is over other values than it may be
abbrev pub measure_fault : DataType → ℕ → List (Name × Measure) → Option TableFault
measure_fault d i [] = None
measure_fault d i (m ∷ ms) = or_else (unless (is_measured d m.1) (fault.MeasureType i)) (measure_fault d (i + 1) ms)

-- of keys before measures
abbrev pub type_fault : DataType → TableSpec → Option TableFault
type_fault d s = or_else (key_fault d 0 s.keys.items) (measure_fault d 0 s.measures.items)

-- the first fault that no memory is needed to see: of the workers, then of the range
abbrev pub first_plain_fault : ℕ → TableSpec → Option TableFault
first_plain_fault workers s =
    or_else (unless (nat_lt 0 workers) (fault.Scan scan.Concurrency))
    (unless (is_forward s.row_range) (fault.Scan (scan.RowRange Reversed)))

-- of names, keys' before measures'
abbrev pub name_fault : TableSpec → Option TableFault
name_fault s = of_bind (of_names (names_fault [] (names_of s)))

-- of what is read, then of the filter
abbrev pub read_fault : DataType → TableSpec → Option TableFault
read_fault d s = of_bind (request_fault d (projection_of s) s.filter)

-- the first fault of a table: one of those; of its names; of what is read and of the filter; of a key; of a measure
abbrev pub first_table_fault : ℕ → DataType → TableSpec → Option TableFault
first_table_fault workers d s =
    or_else (first_plain_fault workers s) (or_else (name_fault s) (or_else (read_fault d s) (type_fault d s)))

-- the table has this fault first, or memory is short; not before a fault for which none is needed
pub record IsTableFault (workers : ℕ) (d : DataType) (s : TableSpec) (e : TableFault) : Type 0 where
  pub early : IfSome (first_plain_fault workers s) (λ f. e ≡ f)
  pub first : e ≢ fault.NoMemory → first_table_fault workers d s ≡ Some e
