-- What an input and an output are.
use Rattle.std.specs.Prelude.{◌≡◌, ℕ, Bool, true, List, Option}
use Rattle.scan_segments.specs.Faults.{Rose}

-- what an input is, as far as contracts see it
pub record InputState : Type 0 where
  -- the bytes still to come, where it tells
  pub left : Option (List ℕ)
  -- how many bytes it gave, how often it was at its end, how often it failed: each up to the greatest number that is kept
  pub taken : ℕ
  pub ends : ℕ
  pub faults : ℕ
  -- whether a read of it may fail
  pub can_fail : Bool

-- what an output is, as far as contracts see it
pub record OutputState : Type 0 where
  -- the bytes that it took, where it tells
  pub written : Option (List ℕ)
  -- how often it failed, and how often it found no memory: each up to the greatest number that is kept
  pub faults : ℕ
  pub short : ℕ
  -- whether a write to it may fail
  pub can_fail : Bool

-- it failed, as it may
abbrev pub InputFailed : InputState → InputState → Type 0
InputFailed old new = Rose old.faults new.faults × (old.can_fail ≡ true)

abbrev pub OutputFailed : OutputState → OutputState → Type 0
OutputFailed old new = Rose old.faults new.faults × (old.can_fail ≡ true)

-- the input was read to its end
abbrev pub WasRead : InputState → InputState → Type 0
WasRead old new = Rose old.ends new.ends
