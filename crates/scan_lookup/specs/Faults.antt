-- Faults of binding, of places and of reading rows, as faults of a look-up.
use Rattle.std.specs.Prelude.{◌≡◌, ℕ, None, Some, Result, Err, IsOk}
use Rattle.scan_expr.specs.Typing.{Fault}
use Rattle.scan_expr.specs.declared.op.BindFault.{BindFault}
use Rattle.scan_expr.specs.declared.op.BindFault.TheVariants as bind
use Rattle.scan_places.specs.declared.fault.PlaceFault.{PlaceFault}
use Rattle.scan_places.specs.declared.fault.PlaceFault.TheVariants as place
use Rattle.scan_seek.specs.declared.reading.SeekFault.{SeekFault}
use Rattle.scan_seek.specs.declared.reading.SeekFault.TheVariants as seek
use Rattle.scan_lookup.specs.declared.fault.LookupFault.{LookupFault}
use Rattle.scan_lookup.specs.declared.fault.LookupFault.TheVariants as fault

-- want of memory is want of memory
abbrev pub of_bind : BindFault → LookupFault
of_bind bind.NoMemory = fault.NoMemory
of_bind f = fault.Bind f

-- something comes exactly where there is no fault, else the fault
abbrev pub IsBound : {T : Type 0} → Fault → Result T LookupFault → Type 0
IsBound None r = IsOk r
IsBound (Some f) r = r ≡ Err (fault.Bind f)

-- there is no row at a place
abbrev pub of_place : PlaceFault → LookupFault
of_place place.NoMemory = fault.NoMemory
of_place (place.NoPlace n) = fault.NoPlace n
of_place (place.Opener file) = fault.Opener file
of_place (place.DTypeMismatch file) = fault.DTypeMismatch file
of_place (place.Layout file l) = fault.Layout file l

-- rows of the file at a place in the list are not read
abbrev pub of_seek : ℕ → SeekFault → LookupFault
of_seek file (seek.Source id) = fault.Source file id
of_seek file (seek.Corrupt id) = fault.Corrupt file id
of_seek file (seek.Overflow row) = fault.Overflow file row
of_seek file seek.NoMemory = fault.NoMemory
