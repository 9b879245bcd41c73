-- What is wrong with a request itself.
use Rattle.std.specs.Prelude.{ℕ, Bool, true, false, ◌&&◌, nat_le, nat_lt, Option, None, Some}
use Rattle.std.specs.Option.{is_none}
use Rattle.std.specs.declared.ops.Range.{Range}
use Rattle.scan_values.specs.DataType.{DataType}
use Rattle.scan_values.specs.declared.selection.Selection.{Selection}
use Rattle.scan_values.specs.declared.selection.Selection.TheVariants.{All, IncludeByIndex, ExcludeByIndex}
use Rattle.scan_expr.specs.declared.op.BindFault.{BindFault}
use Rattle.scan_expr.specs.declared.op.BindFault.TheVariants as bind
use Rattle.scan_expr.specs.Typing.{Fault, request_fault}
use Rattle.scan_expr.specs.declared.request.ScanRequest.{ScanRequest}
use Rattle.scan_multi.specs.declared.scan.fault.RangeFault.TheVariants.{Reversed}
use Rattle.scan_multi.specs.declared.scan.fault.ScanFault.{ScanFault}
use Rattle.scan_multi.specs.declared.scan.fault.ScanFault.TheVariants as fault

-- each row is selected
abbrev pub is_all : Selection → Bool
is_all All = true
is_all (IncludeByIndex rows) = false
is_all (ExcludeByIndex rows) = false

-- partitions are not restricted
abbrev pub has_no_partitions : ScanRequest → Bool
has_no_partitions request = is_none request.partition_range && is_all request.partition_selection

-- the start is at most the end
abbrev pub is_forward : Option (Range ℕ) → Bool
is_forward None = true
is_forward (Some range) = nat_le range.start range.end

-- this fault, unless the test passes
abbrev pub unless : Bool → ScanFault → Option ScanFault
unless true f = None
unless false f = Some f

-- the first fault of two
abbrev pub or_else : Option ScanFault → Option ScanFault → Option ScanFault
or_else None later = later
or_else (Some f) later = Some f

-- a fault of binding; want of memory is want of memory
abbrev pub bound_fault : BindFault → ScanFault
bound_fault bind.NoMemory = fault.NoMemory
bound_fault f = fault.Bind f

-- a fault of typing, as one of a scan
abbrev pub of_bind : Fault → Option ScanFault
of_bind None = None
of_bind (Some f) = Some (fault.Bind f)

-- the first fault that no memory is needed to see: of the workers, the partitions, the range
abbrev pub first_plain_fault : ℕ → ScanRequest → Option ScanFault
first_plain_fault workers request =
    or_else (unless (nat_lt 0 workers) fault.Concurrency)
    (or_else (unless (has_no_partitions request) fault.Partitions) (unless (is_forward request.row_range) (fault.RowRange Reversed)))

-- the first fault of a request: one of those, or that its projection and its filter do not type
abbrev pub first_request_fault : ℕ → DataType → ScanRequest → Option ScanFault
first_request_fault workers d request = or_else (first_plain_fault workers request) (of_bind (request_fault d request.projection request.filter))
