-- What a run of the program has done, by its words and its status.
use Rattle.std.specs.Prelude.{ℕ, ◌≡◌, ◌⊎◌, ◌<◌, List}
use Rattle.scan_run.specs.Io.{InputState, OutputState, InputFailed, OutputFailed}
use Rattle.scan_run.specs.ReadAll.{IsLonger}
use Rattle.scan_run.specs.Run.{IsDone, IsRefused, IsFound, IsUnbound, IsUnreadable, IsFailing, WroteNone}
use Rattle.scan_run.specs.Stops.{WroteFrontOfLines}
use Rattle.scan_run.specs.GeneratedLine.{IsGenerated, WroteFrontOfLine}
use Rattle.scan_run.specs.Sure.{RunsOn, Answers}

-- with the words `scan`
pub record RanScan (status : ℕ) (input input' : InputState) (output output' : OutputState) : Type 0 where
  -- with 0 the lines were written
  pub done : status ≡ 0 → IsDone input input' output output'
  -- over an input that tells its bytes, no more than are read, where neither it nor the output can fail: one status or 7
  pub answers : (bytes : List ℕ) → RunsOn bytes input output → Answers bytes status
  -- whatever the status, what was written is a front of such lines
  pub front : WroteFrontOfLines input input' output output'

-- with other words
pub record RanOther (words : List (List ℕ)) (status : ℕ) (input input' : InputState) (output output' : OutputState) : Type 0 where
  -- with 0 the line was written that the words ask for
  pub generated : status ≡ 0 → IsGenerated words output output'
  -- the input was not read
  pub untouched : input' ≡ input
  -- no other status comes
  pub ends : (status ≡ 0) ⊎ (status ≡ 1) ⊎ (status ≡ 6) ⊎ (status ≡ 7)
  -- whatever the status, what was written is a front of such a line
  pub front_of_line : WroteFrontOfLine words output output'

-- what a status tells, whatever the words
pub record StatusTells (status : ℕ) (input input' : InputState) (output output' : OutputState) : Type 0 where
  -- 1: the input was not read
  pub unread : status ≡ 1 → input' ≡ input
  -- 2: it is no manifest
  pub refused : status ≡ 2 → IsRefused input input'
  -- 3: the request has a fault
  pub unbound : status ≡ 3 → IsFound input input' IsUnbound
  -- 4: a file can't be read
  pub unreadable : status ≡ 4 → IsFound input input' IsUnreadable
  -- 5: an opener or a source failed
  pub failing : status ≡ 5 → IsFound input input' IsFailing
  -- 6: the input or the output failed, which can, or the input is too long, as far as it tells its bytes
  pub io : status ≡ 6 → (InputFailed input input' ⊎ OutputFailed output output') ⊎ IsLonger 67108864 input input'
  -- from 1 to 5: nothing was written
  pub nothing : 0 < status → status < 6 → WroteNone output output'
  -- 6: nothing was written where the output did not fail
  pub unwritten : status ≡ 6 → OutputFailed output output' ⊎ WroteNone output output'
