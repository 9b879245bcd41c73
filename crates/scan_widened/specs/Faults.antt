-- What is wrong with a file that is to be read under a dtype, and what one is under it.
use Rattle.std.specs.Prelude.{◌≡◌, ℕ, ◌+◌, ◌≤◌, ◌^◌, Bool, true, false, ◌&&◌, nat_lt, nat_le, length, All, Option, None, Some, IfSome}
use Rattle.std.specs.declared.ops.Range.{Range}
use Rattle.scan_values.specs.DataType.{DataType}
use Rattle.scan_segments.specs.Faults.{Rose}
use Rattle.scan_layout.specs.Layout.{Layout, dtype_of, rows_of}
use Rattle.scan_layout.specs.Form.{HasForm}
use Rattle.scan_layout.specs.Check.{first_fault}
use Rattle.scan_layout.specs.declared.fault.LayoutFault.{LayoutFault}
use Rattle.scan_opener.specs.Opener.{Given, skip, layout_of, OpenerState, OpenerFailed}
use Rattle.scan_widen.specs.declared.under.UnionLayout.{UnionLayout}
use Rattle.scan_widen.specs.Countable.{is_countable}
use Rattle.scan_widen.specs.FitsUnder.{fits_under}
use Rattle.scan_widen.specs.Parts.{IsReadable}
use Rattle.scan_widen.specs.Under.{behind, under}
use Rattle.scan_widened.specs.declared.fault.FileFault.{FileFault}
use Rattle.scan_widened.specs.declared.fault.FileFault.TheVariants as fault

-- this fault, unless the test passes
abbrev pub unless : Bool → FileFault → Option FileFault
unless true f = None
unless false f = Some f

-- the first fault of two
infixr 5 ◌then◌
abbrev pub ◌then◌ : Option FileFault → Option FileFault → Option FileFault
None then later = later
(Some f) then later = Some f

abbrev pub of_layout : Option LayoutFault → Option FileFault
of_layout None = None
of_layout (Some f) = Some (fault.Layout f)

-- a range ends within so many rows
abbrev pub is_within : Option (Range ℕ) → ℕ → Bool
is_within None rows = true
is_within (Some range) rows = nat_le range.end rows

-- with so many rows before them the rows are below 2 ^ 64 in all, and neither the file's nor those of a struct in it are
-- the greatest u64
abbrev pub has_room : ℕ → Layout → Bool
has_room before l = nat_lt (rows_of l + 1) (2 ^ 64) && (is_countable l && nat_lt (before + rows_of l) (2 ^ 64))

-- The first of: a dtype that does not fit, a form that is bad under the file's own dtype, a range that ends past its rows,
-- more rows than are counted, more segments under the dtype than have an id.
abbrev pub file_fault : DataType → Option (Range ℕ) → ℕ → Layout → Option FileFault
file_fault d range before l =
    unless (fits_under (dtype_of l) d) fault.DTypeMismatch then of_layout (first_fault l (dtype_of l)) then unless (is_within range (rows_of l)) fault.RowRangePast
    then unless (has_room before l) fault.TooManyRows then unless (nat_le (length (behind d l)) (2 ^ 32)) fault.TooManySegments

-- of what an opener gives: nothing is wrong with a file that is skipped
abbrev pub given_fault : DataType → Option (Range ℕ) → ℕ → Given → Option FileFault
given_fault d range before skip = None
given_fault d range before (layout_of l) = file_fault d range before l

-- a layout under a dtype, and what stands behind its segments
pub record IsUnder (d : DataType) (range : Option (Range ℕ)) (before : ℕ) (l : Layout) (u : UnionLayout) : Type 0 where
  pub sound : file_fault d range before l ≡ None
  pub layout : (u.root).value ≡ under 0 d l
  pub segments : (u.segments).items ≡ behind d l
  pub readable : All IsReadable (u.segments).items
  pub form : HasForm (u.root).value d

-- what an opener gives, under a dtype
abbrev pub IsGivenUnder : DataType → Option (Range ℕ) → ℕ → Given → Option UnionLayout → Type 0
IsGivenUnder d range before skip None = Unit {0}
IsGivenUnder d range before skip (Some u) = ⊥
IsGivenUnder d range before (layout_of l) None = ⊥
IsGivenUnder d range before (layout_of l) (Some u) = IsUnder d range before l u

-- what an opener gave in a call, which is what it tells: this holds of it
pub record Gave (s : OpenerState) (P : Given → Type 0) : Type 0 where
  pub given : Given
  pub told : IfSome s.gives (λ g. g ≡ given)
  pub fact : P given

-- An opener after it was polled to its end: once more, at most, than it put off an answer, and once at least. It tells what
-- it told.
pub record PolledToEnd (old new : OpenerState) : Type 0 where
  pub gives : new.gives ≡ old.gives
  pub faults : old.faults ≤ new.faults
  pub turns : new.turns ≤ old.turns
  pub can_fail : new.can_fail ≡ old.can_fail
  pub grows : old.polled ≤ new.polled
  pub polls : new.polled + new.turns ≤ old.polled + old.turns + 1
  pub some : Rose old.polled new.polled

-- why a file is not read under a dtype
abbrev pub IsFileFault : DataType → Option (Range ℕ) → ℕ → OpenerState → OpenerState → FileFault → Type 0
IsFileFault d range before old new fault.NoMemory = Unit {0}
IsFileFault d range before old new fault.Opener = OpenerFailed old new
IsFileFault d range before old new e = Gave old (λ g. given_fault d range before g ≡ Some e)
