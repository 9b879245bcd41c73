-- The opening of one file.
use Rattle.std.specs.Prelude.{◌≡◌, ◌⊎◌, ℕ, ◌+◌, Option, None, Some}
use Rattle.std.specs.declared.ops.Range.{Range}
use Rattle.scan_values.specs.DataType.{DataType}
use Rattle.scan_layout.specs.Layout.{rows_of}
use Rattle.scan_opener.specs.Opener.{Given, OpenerState}
use Rattle.scan_multi.specs.Checks.{rows_given}
use Rattle.scan_widen.specs.declared.under.UnionLayout.{UnionLayout}
use Rattle.scan_widened.specs.Faults.{Gave, given_fault, IsFileFault}
use Rattle.scan_widened.specs.declared.fault.FileFault.{FileFault}
use Rattle.scan_union.specs.Seats.{IsSeat}
use Rattle.scan_union.specs.Under.{of_file}
use Rattle.scan_union.specs.declared.fault.UnionFault.{UnionFault}
use Rattle.scan_union.specs.declared.fault.UnionFault.TheVariants as fault
use Rattle.scan_union.specs.declared.seat.Seat.{Seat}

-- the rows of a layout, none where there is none
abbrev pub rows_under : Option UnionLayout → ℕ
rows_under None = 0
rows_under (Some u) = rows_of (u.root).value

-- what an opener gave has no fault; this is its seat, and so many rows there are with its own
pub record IsSeatedWith (d : DataType) (range : Option (Range ℕ)) (place before : ℕ) (g : Given) (s : Seat) (rows : ℕ) : Type 0 where
  pub sound : given_fault d range before g ≡ None
  pub seat : IsSeat d place g s
  pub sum : rows ≡ before + rows_given g

abbrev pub OpensFile : DataType → Option (Range ℕ) → ℕ → ℕ → OpenerState → Seat → ℕ → Type 0
OpensFile d range place before s seat rows = Gave s (λ g. IsSeatedWith d range place before g seat rows)

-- why a file is not read, at its place
abbrev pub IsFileStop : DataType → Option (Range ℕ) → ℕ → ℕ → OpenerState → OpenerState → UnionFault → Type 0
IsFileStop d range place before old new e = (e ≡ fault.NoMemory) ⊎ ((x : FileFault) × (e ≡ of_file place x) × IsFileFault d range before old new x)
