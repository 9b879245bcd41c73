-- What a read of a reader of std, or a write of a writer, gives, by what these tell of their bytes.
use Rattle.std.specs.Prelude.{ℕ, List, take, true, Option, None}
use Rattle.std.specs.Io.KnownBytes.{Consumes, Appends, Keeps, IsAtEnd}
use Rattle.scan_run.specs.Io.{InputState, OutputState}
use Rattle.scan_run.specs.declared.input.InputRead.{InputRead}
use Rattle.scan_run.specs.declared.input.InputRead.TheVariants as input
use Rattle.scan_run.specs.declared.output.OutputWrite.{OutputWrite}
use Rattle.scan_run.specs.declared.output.OutputWrite.TheVariants as output

-- Bytes that came are the next ones of the reader, an end comes where it has none left, and a fault loses none.
abbrev pub ReadsOf : Option (List ℕ) → Option (List ℕ) → List ℕ → InputRead → Type 0
ReadsOf old new buf (input.Bytes n) = Consumes old new (take n buf)
ReadsOf old new buf input.End = Keeps old new × IsAtEnd new
ReadsOf old new buf input.Failed = Keeps old new

-- What was taken stands in the writer, and a fault leaves it as it was. No write ends for want of memory.
abbrev pub WritesTo : Option (List ℕ) → Option (List ℕ) → List ℕ → OutputWrite → Type 0
WritesTo old new bytes (output.Took n) = Appends old new (take n bytes)
WritesTo old new bytes output.Failed = Keeps old new
WritesTo old new bytes output.NoMemory = ⊥

-- an input that tells no bytes
abbrev pub std_input : ℕ → ℕ → ℕ → InputState
std_input taken ends faults = record { left = None; taken = taken; ends = ends; faults = faults; can_fail = true }

-- an output that tells no bytes, and takes no memory
abbrev pub std_output : ℕ → OutputState
std_output faults = record { written = None; faults = faults; short = 0; can_fail = true }
