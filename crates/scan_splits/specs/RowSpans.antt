-- Rows of a reader, and where the reader stands in the root.
use Rattle.std.specs.Prelude.{ℕ, ◌+◌, ◌≤◌, ◌<◌, ◌^◌, nat_lt, if◌then◌else◌, Result, Ok, Err}
use Rattle.std.specs.declared.ops.Range.{Range}
use Rattle.scan_splits.specs.declared.split_range.SplitRangeFault.{SplitRangeFault}
use Rattle.scan_splits.specs.declared.split_range.SplitRangeFault.TheVariants.{Reversed, Overflow}

-- the rows from the start up to and without the end, of a reader whose row 0 is the row of this offset in the root
pub record RowSpan : Type 0 where
  pub offset : ℕ
  pub start : ℕ
  pub end : ℕ

-- they are in order, and within 64 bits in the root
pub record IsRowSpan (s : RowSpan) : Type 0 where
  pub ordered : s.start ≤ s.end
  pub within : s.offset + s.end < 2 ^ 64

-- the span of these parts, or the first thing that is wrong with them
abbrev pub span_of : ℕ → Range ℕ → Result RowSpan SplitRangeFault
span_of offset r =
    if nat_lt r.end r.start then Err Reversed
    else (if nat_lt (offset + r.end) (2 ^ 64) then Ok
    (record { offset = offset; start = r.start; end = r.end }) else Err Overflow)
