-- What a reader of JSON may answer.
use Rattle.std.specs.Prelude.{◌≡◌, Option, None, Some, Result, Ok, Err}
use Rattle.scan_manifest.specs.declared.json.ParseFault.{ParseFault}
use Rattle.scan_manifest.specs.declared.json.ParseFault.TheVariants.{Bad, NoMemory}

-- the value, or a refusal exactly where there is none; want of memory may come in its place
abbrev pub IsParse : {T : Type 0} → Option T → Result T ParseFault → Type 0
IsParse o (Ok x) = o ≡ Some x
IsParse o (Err Bad) = o ≡ None
IsParse o (Err NoMemory) = Unit {0}

-- the same, of a value that stands for another
abbrev pub IsParseBy : {T U : Type 0} → (U → T) → Option T → Result U ParseFault → Type 0
IsParseBy f o (Ok x) = o ≡ Some (f x)
IsParseBy f o (Err Bad) = o ≡ None
IsParseBy f o (Err NoMemory) = Unit {0}
