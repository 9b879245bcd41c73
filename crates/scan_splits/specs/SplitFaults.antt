-- Why splits are not registered.
use Rattle.std.specs.Prelude.{◌≡◌, Option, Some, None, Result, Ok, Err}
use Rattle.scan_splits.specs.declared.fault.SplitFault.{SplitFault}
use Rattle.scan_splits.specs.declared.fault.SplitFault.TheVariants.{NoMemory}

-- an answer that tells this fault, or that there is none, unless memory ran out
abbrev pub Tells : {T : Type 0} → Result T SplitFault → Option SplitFault → Type 0
Tells (Ok x) o = o ≡ None
Tells (Err NoMemory) o = Unit {0}
Tells (Err f) o = o ≡ Some f
