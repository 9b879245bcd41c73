-- An opener that is polled to its end.
use Rattle.std.specs.Prelude.{◌≡◌, ℕ, ◌≤◌, ◌+◌}
use Rattle.scan_opener.specs.Opener.{OpenerState}

-- it gives what it gave, no count of it fell, and it was polled no more than it put off an answer, and once
pub record IsPolledThrough (old new : OpenerState) : Type 0 where
  pub gives : new.gives ≡ old.gives
  pub faults : old.faults ≤ new.faults
  pub turns : new.turns ≤ old.turns
  pub can_fail : new.can_fail ≡ old.can_fail
  pub grows : old.polled ≤ new.polled
  pub most : new.polled + new.turns ≤ old.polled + old.turns + 1
