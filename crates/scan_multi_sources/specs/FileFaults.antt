-- Why a file of a scan is not given.
use Rattle.std.specs.Prelude.{◌+◌, ℕ, nat_lt, Bool, true, false, Option, Some, None}
use Rattle.std.specs.declared.ops.Range.{Range}
use Rattle.scan_values.specs.DataType.{DataType}
use Rattle.scan_values.specs.Same.{same_type}
use Rattle.scan_limit.specs.Seats.{SeatState}
use Rattle.scan_layout.specs.Check.{first_fault}
use Rattle.scan_layout.specs.Layout.{Layout, dtype_of, rows_of}
use Rattle.scan_layout.specs.declared.fault.LayoutFault.{LayoutFault}
use Rattle.scan_multi_sources.specs.declared.fault.MultiFault.{MultiFault}
use Rattle.scan_multi_sources.specs.declared.fault.MultiFault.TheVariants as fault

-- a range is reversed
abbrev pub is_reversed : Option (Range ℕ) → Bool
is_reversed None = false
is_reversed (Some r) = nat_lt r.end r.start

-- a range ends past so many rows
abbrev pub ends_past : Option (Range ℕ) → ℕ → Bool
ends_past None rows = false
ends_past (Some r) rows = nat_lt rows r.end

-- a range that ends past the rows of a file
abbrev pub past_fault : ℕ → Bool → Option MultiFault
past_fault k true = Some (fault.RowRange k)
past_fault k false = None

-- what is wrong with the form of the layout of a file, or else with the range
abbrev pub form_fault : ℕ → Option LayoutFault → Bool → Option MultiFault
form_fault k (Some f) past = Some (fault.Layout k f)
form_fault k None past = past_fault k past

-- a layout of another dtype, or else what is wrong with its form or the range
abbrev pub typed_fault : ℕ → Bool → Option LayoutFault → Bool → Option MultiFault
typed_fault k false form past = Some (fault.DTypeMismatch k)
typed_fault k true form past = form_fault k form past

-- the first of what is wrong with a file of a layout: another dtype, its form, or that the range ends past its rows
abbrev pub file_fault : DataType → Option (Range ℕ) → ℕ → Layout → Option MultiFault
file_fault d r k l = typed_fault k (same_type (dtype_of l) d) (first_fault l d) (ends_past r (rows_of l))

-- where a limit is shared: the rows of the layouts given and these pass u64 in sum
abbrev pub is_too_many : Option SeatState → ℕ → ℕ → Bool
is_too_many None given rows = false
is_too_many (Some s) given rows = nat_lt 18446744073709551615 (given + rows)

-- the rows of the layouts given, with these, where a limit is shared
abbrev pub rows_after : Option SeatState → ℕ → ℕ → ℕ
rows_after None given rows = given
rows_after (Some s) given rows = given + rows

-- too many rows
abbrev pub many_fault : ℕ → Bool → Option MultiFault
many_fault k true = Some (fault.TooManyRows k)
many_fault k false = None
