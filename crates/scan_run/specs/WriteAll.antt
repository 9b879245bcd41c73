-- What writing bytes does.
use Rattle.std.specs.Prelude.{◌≡◌, ℕ, ◌≤◌, List, ◌++◌, option_map}
use Rattle.scan_run.specs.Io.{OutputState}

-- some front of these bytes was written
pub record WroteFront (bytes : List ℕ) (old new : OutputState) : Type 0 where
  pub front : List ℕ
  pub rest : List ℕ
  pub parts : bytes ≡ front ++ rest
  pub written : new.written ≡ option_map (λ before. before ++ front) old.written
  pub faults : old.faults ≤ new.faults
  pub short : old.short ≤ new.short
  pub can_fail : new.can_fail ≡ old.can_fail

-- Behind what was kept so far a text was made. A front of both was written, and the rest is kept now.
pub record Sends (text kept left : List ℕ) (old new : OutputState) : Type 0 where
  pub sent : List ℕ
  pub parts : kept ++ text ≡ sent ++ left
  pub written : new.written ≡ option_map (λ before. before ++ sent) old.written
  pub faults : old.faults ≤ new.faults
  pub short : old.short ≤ new.short
  pub can_fail : new.can_fail ≡ old.can_fail
