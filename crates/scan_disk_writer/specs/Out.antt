-- What takes the bytes of a file.
use Rattle.std.specs.Prelude.{◌≡◌, ℕ, ◌++◌, List, Bool, true, Option, option_map}
use Rattle.scan_disk_writer.specs.declared.fault.OutFault.{OutFault}
use Rattle.scan_disk_writer.specs.declared.fault.OutFault.TheVariants.{Failed, NoMemory}

-- these bytes behind those that were taken, where that is told
abbrev pub behind : List ℕ → Option (List ℕ) → Option (List ℕ)
behind bytes taken = option_map (λ before. before ++ bytes) taken

-- why bytes are not taken: a write fails only where one can
abbrev pub IsOut : Bool → OutFault → Type 0
IsOut can_fail Failed = can_fail ≡ true
IsOut can_fail NoMemory = Unit {0}
