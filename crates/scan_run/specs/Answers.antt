-- What one read and one write may answer.
use Rattle.std.specs.Prelude.{◌≡◌, ℕ, ◌<◌, ◌≤◌, true, List, [], ◌++◌, length, take, drop, option_map, IfSome}
use Rattle.scan_segments.specs.Faults.{Rose, RaisedBy}
use Rattle.scan_run.specs.Io.{InputState, OutputState, OutputFailed}
use Rattle.scan_run.specs.declared.input.InputRead.{InputRead}
use Rattle.scan_run.specs.declared.input.InputRead.TheVariants as input
use Rattle.scan_run.specs.declared.output.OutputWrite.{OutputWrite}
use Rattle.scan_run.specs.declared.output.OutputWrite.TheVariants as output

-- so many bytes came, and stand at the front of the buffer
pub record TookBytes (n : ℕ) (old new : InputState) (buf : List ℕ) : Type 0 where
  pub some : 0 < n
  pub fits : n ≤ length buf
  pub left : new.left ≡ option_map (λ bytes. drop n bytes) old.left
  pub bytes : IfSome old.left (λ bytes. (n ≤ length bytes) × (take n buf ≡ take n bytes))
  pub taken : RaisedBy n old.taken new.taken
  pub ends : new.ends ≡ old.ends
  pub faults : old.faults ≤ new.faults
  pub can_fail : new.can_fail ≡ old.can_fail

-- the input was at its end
pub record AtEnd (old new : InputState) : Type 0 where
  pub left : new.left ≡ old.left
  pub empty : IfSome old.left (λ bytes. bytes ≡ [])
  pub taken : new.taken ≡ old.taken
  pub ends : RaisedBy 1 old.ends new.ends
  pub faults : old.faults ≤ new.faults
  pub can_fail : new.can_fail ≡ old.can_fail

-- the read failed, as it may, and took nothing
pub record ReadFailed (old new : InputState) : Type 0 where
  pub left : new.left ≡ old.left
  pub taken : new.taken ≡ old.taken
  pub ends : new.ends ≡ old.ends
  pub faults : old.faults ≤ new.faults
  pub rose : Rose old.faults new.faults
  pub can_fail : new.can_fail ≡ old.can_fail
  pub able : old.can_fail ≡ true

-- what an answer of a read says
abbrev pub IsRead : InputState → InputState → List ℕ → InputRead → Type 0
IsRead old new buf (input.Bytes n) = TookBytes n old new buf
IsRead old new buf input.End = AtEnd old new
IsRead old new buf input.Failed = ReadFailed old new

-- so many bytes from the front were written
pub record Wrote (n : ℕ) (bytes : List ℕ) (old new : OutputState) : Type 0 where
  pub some : 0 < n
  pub fits : n ≤ length bytes
  pub written : new.written ≡ option_map (λ before. before ++ take n bytes) old.written
  pub faults : old.faults ≤ new.faults
  pub short : old.short ≤ new.short
  pub can_fail : new.can_fail ≡ old.can_fail

-- nothing was written
pub record WroteNothing (old new : OutputState) : Type 0 where
  pub written : new.written ≡ old.written
  pub faults : old.faults ≤ new.faults
  pub short : old.short ≤ new.short
  pub can_fail : new.can_fail ≡ old.can_fail

-- what an answer of a write says
abbrev pub IsWritten : List ℕ → OutputState → OutputState → OutputWrite → Type 0
IsWritten bytes old new (output.Took n) = Wrote n bytes old new
IsWritten bytes old new output.Failed = WroteNothing old new × OutputFailed old new
IsWritten bytes old new output.NoMemory = WroteNothing old new × Rose old.short new.short
