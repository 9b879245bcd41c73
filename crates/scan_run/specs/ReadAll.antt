-- What reading an input to its end does.
use Rattle.std.specs.Prelude.{◌≡◌, ℕ, ◌+◌, ◌-◌, ◌^◌, ◌<◌, ◌≤◌, List, ◌++◌, length, Option, None, Some, IfSome}
use Rattle.scan_segments.specs.Faults.{RaisedBy}
use Rattle.scan_run.specs.Io.{InputState, WasRead}

-- after these bytes came, where the bytes to come are told
abbrev pub LeftAfter : Option (List ℕ) → List ℕ → Option (List ℕ) → Type 0
LeftAfter None bytes now = now ≡ None
LeftAfter (Some all) bytes now = (rest : List ℕ) × (now ≡ Some rest) × (all ≡ bytes ++ rest)

-- these bytes came
pub record CameIn (bytes : List ℕ) (old new : InputState) : Type 0 where
  pub left : LeftAfter old.left bytes new.left
  pub taken : RaisedBy (length bytes) old.taken new.taken
  pub ends : new.ends ≡ old.ends
  pub faults : old.faults ≤ new.faults
  pub can_fail : new.can_fail ≡ old.can_fail

-- these are all bytes of an input, which was read to its end
pub record GaveAll (bytes : List ℕ) (old new : InputState) : Type 0 where
  pub read : WasRead old new
  pub all : IfSome old.left (λ told. bytes ≡ told)
  pub taken : RaisedBy (length bytes) old.taken new.taken

-- more than so many bytes were read, unless the count stands at its greatest value
abbrev pub TookMore : ℕ → InputState → InputState → Type 0
TookMore n old new = new.taken < 2 ^ 64 - 1 → old.taken + n < new.taken

-- so many bytes were read at most, unless the count stands at its greatest value
abbrev pub TookAtMost : ℕ → InputState → InputState → Type 0
TookAtMost n old new = new.taken < 2 ^ 64 - 1 → new.taken ≤ old.taken + n

-- more bytes were read than so many, which the input has, where it tells them
pub record IsLonger (n : ℕ) (old new : InputState) : Type 0 where
  pub took : TookMore n old new
  pub told : IfSome old.left (λ bytes. n < length bytes)
