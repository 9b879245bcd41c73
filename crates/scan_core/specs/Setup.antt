-- Why a scan is not set up or executed.
use Rattle.std.specs.Prelude.{◌≡◌, ◌+◌, ◌^◌, ◌==◌, ℕ, nat_le, Bool, false, if◌then◌else◌, Option, Some, None, is_some, Result, Ok, Err}
use Rattle.std.specs.declared.ops.Range.{Range}
use Rattle.scan_streams.specs.declared.setup.SetupFault.{SetupFault}
use Rattle.scan_streams.specs.declared.setup.SetupFault.TheVariants.{Concurrency, SplitSize, RowOffset, LimitOnFutures, RowRange, NoMemory}
use Rattle.scan_core.specs.declared.split_by.SplitBy.{SplitBy}
use Rattle.scan_core.specs.declared.split_by.SplitBy.TheVariants.{Layout, RowCount}
use Rattle.scan_core.specs.BuilderData.{BuilderData}
use Rattle.scan_core.specs.RowRanges.{is_past}

-- an answer refuses exactly by this fault; where there is none, only for want of memory
abbrev pub Refuses : {T : Type 0} → Result T SetupFault → Option SetupFault → Type 0
Refuses (Ok x) o = o ≡ None
Refuses (Err f) None = f ≡ NoMemory
Refuses (Err f) (Some g) = f ≡ g

-- splits have no rows
abbrev pub is_empty_split : SplitBy → Bool
is_empty_split Layout = false
is_empty_split (RowCount n) = n == 0

abbrev pub size_fault : SplitBy → Option SetupFault
size_fault by = if is_empty_split by then Some SplitSize else None

-- the first thing that is wrong with the settings of a scan of so many rows
abbrev pub setup_fault : {R M : Type 0} → BuilderData R M → ℕ → Option SetupFault
setup_fault b rows =
    if b.concurrency == 0 then Some Concurrency else
    if is_empty_split b.split_by then Some SplitSize else
    if is_past b.range rows then Some RowRange else
    if nat_le (2 ^ 64) (b.offset + rows) then Some RowOffset else None

-- nothing, or a fault
abbrev pub checked : Option SetupFault → Result (Unit {0}) SetupFault
checked None = Ok tt
checked (Some f) = Err f

-- what is wrong with a further range
abbrev pub range_fault : Option (Range ℕ) → ℕ → Option SetupFault
range_fault r rows = if is_past r rows then Some RowRange else None

-- futures are not limited: why none are given where a limit is set, else a fault
abbrev pub unlimited : Option ℕ → Option SetupFault → Option SetupFault
unlimited limit f = if is_some limit then Some LimitOnFutures else f

-- a fault, or where there is none another
abbrev pub first_fault : Option SetupFault → Option SetupFault → Option SetupFault
first_fault None g = g
first_fault (Some f) g = Some f
