-- When what is kept of a file is what its opener gives, and what the file then has at a row.
use Rattle.std.specs.Prelude.{◌≡◌, ◌≢◌, ℕ, ◌<◌, ◌≤◌, Bool, true, false, None, Some, IfSome}
use Rattle.scan_values.specs.DataType.{DataType}
use Rattle.scan_expr.specs.Bound.{Bound}
use Rattle.scan_layout.specs.Check.{first_fault}
use Rattle.scan_layout.specs.Layout.{Layout, dtype_of, rows_of}
use Rattle.scan_opener.specs.Opener.{OpenerState, skip, layout_of}
use Rattle.scan_seek.specs.KeptData.{KeptData, unopened, skipped, flawed, ready}
use Rattle.scan_seek.specs.declared.keeping.RowStanding.{RowStanding}
use Rattle.scan_seek.specs.declared.keeping.RowStanding.TheVariants as standing

-- whether the file is open
abbrev pub is_open : KeptData → Bool
is_open unopened = false
is_open skipped = true
is_open (flawed l) = true
is_open (ready l e) = true

-- this is kept of a layout: the expression that is read of it, unless it has a fault
abbrev pub KeepsLayout : Bound → Layout → KeptData → Type 0
KeepsLayout e l unopened = ⊥
KeepsLayout e l skipped = ⊥
KeepsLayout e l (flawed m) = (m ≡ l) × (first_fault l e.scope ≢ None)
KeepsLayout e l (ready m f) = (m ≡ l) × (f ≡ e) × (first_fault l e.scope ≡ None)

-- what is kept is what the opener gives, as far as it tells, and what is read of it is this expression
abbrev pub IsKept : Bound → OpenerState → KeptData → Type 0
IsKept e o unopened = Unit {0}
IsKept e o skipped = IfSome o.gives (λ g. g ≡ skip)
IsKept e o (flawed l) = IfSome o.gives (λ g. g ≡ layout_of l) × KeepsLayout e l (flawed l)
IsKept e o (ready l f) = IfSome o.gives (λ g. g ≡ layout_of l) × KeepsLayout e l (ready l f)

-- a layout that is not read has a fault under this dtype
abbrev pub IsFlawed : DataType → KeptData → Type 0
IsFlawed d unopened = Unit {0}
IsFlawed d skipped = Unit {0}
IsFlawed d (flawed l) = first_fault l d ≢ None
IsFlawed d (ready l e) = Unit {0}

-- what a file has at a row, where its rows are to be of this dtype
abbrev pub RowIs : DataType → ℕ → KeptData → RowStanding → Type 0
RowIs d row (ready l e) standing.There = row < rows_of l
RowIs d row skipped standing.Missing = Unit {0}
RowIs d row (ready l e) standing.Missing = rows_of l ≤ row
RowIs d row (flawed l) standing.OtherDType = dtype_of l ≢ d
RowIs d row (flawed l) (standing.IllFormed f) = (dtype_of l ≡ d) × (first_fault l d ≡ Some f)
RowIs d row _ _ = ⊥

-- rows are read of it
abbrev pub IsRead : KeptData → Type 0
IsRead unopened = ⊥
IsRead skipped = ⊥
IsRead (flawed l) = ⊥
IsRead (ready l e) = Unit {0}

-- there is a row
abbrev pub HasRow : KeptData → ℕ → Type 0
HasRow unopened row = ⊥
HasRow skipped row = ⊥
HasRow (flawed l) row = ⊥
HasRow (ready l e) row = row < rows_of l
