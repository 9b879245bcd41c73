-- What reading a segment answers.
use Rattle.std.specs.Prelude.{◌≡◌, Option, Some, None, Result, Ok, Err}
use Rattle.scan_spelling.specs.declared.spelling.DecodeFault.{DecodeFault}
use Rattle.scan_spelling.specs.declared.spelling.DecodeFault.TheVariants.{Spelling, NoMemory}

-- a fault says that reading gives nothing, unless memory ran out
abbrev pub Fails : {Y : Type 0} → DecodeFault → Option Y → Type 0
Fails Spelling read = read ≡ None
Fails NoMemory read = Unit {0}

-- an answer, of which view is what was asked for, is what reading gives, unless memory ran out
abbrev pub Gives : {X Y : Type 0} → (X → Y) → Result X DecodeFault → Option Y → Type 0
Gives view (Ok x) read = read ≡ Some (view x)
Gives view (Err e) read = Fails e read
