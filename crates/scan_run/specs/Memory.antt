-- What an input and an output in memory answer by their scripts, and what each answer leaves.
use Rattle.std.specs.Prelude.{◌≡◌, ◌⊎◌, ℕ, ◌+◌, List, ◌++◌, length, take, drop, min, Option, Some, option_map, nat_lt, if◌then◌else◌}
use Rattle.scan_segments.specs.Faults.{capped, one_more}
use Rattle.scan_segments.specs.Script.{ScriptState, has_number}
use Rattle.scan_segments.specs.declared.script.Outcome.{Outcome}
use Rattle.scan_segments.specs.declared.script.Outcome.TheVariants.{Goes, Waits, Fails}
use Rattle.scan_run.specs.Io.{InputState, OutputState}
use Rattle.scan_run.specs.declared.input.InputRead.{InputRead}
use Rattle.scan_run.specs.declared.input.InputRead.TheVariants as input
use Rattle.scan_run.specs.declared.output.OutputWrite.{OutputWrite}
use Rattle.scan_run.specs.declared.output.OutputWrite.TheVariants as output

-- what a read into so much room gives, of these bytes
abbrev pub given_into : ℕ → List ℕ → InputRead
given_into room left = if nat_lt 0 (length left) then input.Bytes (min (length left) room) else input.End

-- what a read with this outcome gives; none is pending
abbrev pub read_by : Outcome → ℕ → List ℕ → InputRead
read_by Fails room left = input.Failed
read_by Waits room left = given_into room left
read_by Goes room left = given_into room left

-- the buffer after a read of these bytes gave this
abbrev pub buffer_after : InputRead → List ℕ → List ℕ → List ℕ
buffer_after (input.Bytes n) left buf = take n left ++ drop n buf
buffer_after input.End left buf = buf
buffer_after input.Failed left buf = buf

-- the input after it gave this: its counts are exact, up to the greatest number that is kept
abbrev pub state_after_read : InputRead → InputState → InputState
state_after_read (input.Bytes n) s = record s { left = option_map (λ bytes. drop n bytes) s.left; taken = capped (s.taken + n) }
state_after_read input.End s = record s { ends = one_more s.ends }
state_after_read input.Failed s = record s { faults = one_more s.faults }

-- what a write with this outcome gives of so many bytes: all are taken, or there is no memory
abbrev pub IsWriteBy : Outcome → ℕ → OutputWrite → Type 0
IsWriteBy Fails n r = r ≡ output.Failed
IsWriteBy Waits n r = (r ≡ output.Took n) ⊎ (r ≡ output.NoMemory)
IsWriteBy Goes n r = (r ≡ output.Took n) ⊎ (r ≡ output.NoMemory)

-- the output after it gave this
abbrev pub state_after_write : List ℕ → OutputWrite → OutputState → OutputState
state_after_write bytes (output.Took n) s = record s { written = option_map (λ before. before ++ take n bytes) s.written }
state_after_write bytes output.Failed s = record s { faults = one_more s.faults }
state_after_write bytes output.NoMemory s = record s { short = one_more s.short }

-- the bytes from a place on, as an input: it can fail where a call of its script does
abbrev pub memory_input : List ℕ → ScriptState → ℕ → ℕ → ℕ → ℕ → InputState
memory_input bytes script at taken ends faults =
    record { left = Some (drop at bytes); taken = taken; ends = ends; faults = faults; can_fail = has_number script.failing }

-- what was taken, as an output, likewise
abbrev pub memory_output : List ℕ → ScriptState → ℕ → ℕ → OutputState
memory_output bytes script faults short = record { written = Some bytes; faults = faults; short = short; can_fail = has_number script.failing }
