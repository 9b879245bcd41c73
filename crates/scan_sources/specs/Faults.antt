-- Why sources are not scanned.
use Rattle.std.specs.Prelude.{◌≡◌, ◌≢◌, ◌==◌, ℕ, if◌then◌else◌, Option, Some, None, option_map, Result, Ok, Err}
use Rattle.std.specs.declared.ops.Range.{Range}
use Rattle.scan_values.specs.DataType.{DataType}
use Rattle.scan_expr.specs.Expr.{Expr}
use Rattle.scan_expr.specs.Typing.{bind_fault, filter_fault, request_fault}
use Rattle.scan_expr.specs.declared.op.BindFault.{BindFault}
use Rattle.scan_expr.specs.declared.op.BindFault.TheVariants as bind
use Rattle.scan_core.specs.RowRanges.{is_past}
use Rattle.scan_sources.specs.declared.fault.SourceFault.{SourceFault}
use Rattle.scan_sources.specs.declared.fault.SourceFault.TheVariants as fault

-- an answer is Ok only where there is no fault, and a fault other than want of memory is this one
abbrev pub Refuses : {T : Type 0} → Result T SourceFault → Option SourceFault → Type 0
Refuses (Ok x) o = o ≡ None
Refuses (Err f) o = f ≢ fault.NoMemory → o ≡ Some f

-- why an expression is not bound
abbrev pub of_bind : BindFault → SourceFault
of_bind bind.NoMemory = fault.NoMemory
of_bind bind.NoField = fault.Bind bind.NoField
of_bind bind.NotStruct = fault.Bind bind.NotStruct
of_bind bind.NotList = fault.Bind bind.NotList
of_bind bind.NotBool = fault.Bind bind.NotBool
of_bind bind.Operands = fault.Bind bind.Operands
of_bind bind.RepeatedName = fault.Bind bind.RepeatedName
of_bind bind.ReservedName = fault.Bind bind.ReservedName
of_bind bind.Literal = fault.Bind bind.Literal
of_bind bind.Deep = fault.Bind bind.Deep

-- what is wrong with an expression over a dtype
abbrev pub expr_refusal : DataType → Expr → Option SourceFault
expr_refusal d e = option_map fault.Bind (bind_fault d e)

-- what is wrong with a filter, which is Bool
abbrev pub filter_refusal : DataType → Option Expr → Option SourceFault
filter_refusal d filter = option_map fault.Bind (filter_fault d filter)

-- what is wrong with the expressions of a request: the projection, then the filter, which is Bool
abbrev pub bind_refusal : DataType → Expr → Option Expr → Option SourceFault
bind_refusal d projection filter = option_map fault.Bind (request_fault d projection filter)

-- what is wrong with a size of splits, then with a range of so many rows
abbrev pub number_refusal : ℕ → Option (Range ℕ) → ℕ → Option SourceFault
number_refusal size range rows = if size == 0 then Some fault.SplitSize else if is_past range rows then Some fault.RowRange else None

-- the first of two faults
abbrev pub first_of : Option SourceFault → Option SourceFault → Option SourceFault
first_of None g = g
first_of (Some f) g = Some f
