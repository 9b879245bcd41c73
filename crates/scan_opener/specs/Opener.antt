-- What an opener of a file is, and what a poll of it may answer.
use Rattle.std.specs.Prelude.{◌≡◌, ℕ, ◌<◌, ◌≤◌, Bool, true, Option, IfSome}
use Rattle.scan_segments.specs.Faults.{Rose, RaisedBy}
use Rattle.scan_layout.specs.Layout.{Layout}
use Rattle.scan_opener.specs.declared.opener.Opening.{Opening}
use Rattle.scan_opener.specs.declared.opener.Opening.TheVariants.{Pending, Opened, Skipped, Failed, NoMemory}

-- what a file is to its opener
pub data Given : Type 0 where
  skip : Given
  layout_of : Layout → Given

-- what an opener is, as far as contracts see it
pub record OpenerState : Type 0 where
  -- what it gives, where it tells
  pub gives : Option Given
  -- how often it failed, and how often it was polled, each up to the greatest number that is kept
  pub faults : ℕ
  pub polled : ℕ
  -- at most so often it can still put off an answer
  pub turns : ℕ
  -- whether it can fail at all
  pub can_fail : Bool

-- one poll was made
pub record PolledOnce (old new : OpenerState) : Type 0 where
  pub gives : new.gives ≡ old.gives
  pub faults : old.faults ≤ new.faults
  pub turns : new.turns ≤ old.turns
  pub polled : RaisedBy 1 old.polled new.polled
  pub polled_grows : old.polled ≤ new.polled
  pub can_fail : new.can_fail ≡ old.can_fail

-- the count of an opener's faults rose, and it can fail
abbrev pub OpenerFailed : OpenerState → OpenerState → Type 0
OpenerFailed old new = Rose old.faults new.faults × (old.can_fail ≡ true)

abbrev pub IsPolledOpen : OpenerState → OpenerState → Opening → Type 0
IsPolledOpen old new Pending = PolledOnce old new × (new.turns < old.turns)
IsPolledOpen old new (Opened layout) = PolledOnce old new × IfSome old.gives (λ g. g ≡ layout_of layout.value)
IsPolledOpen old new Skipped = PolledOnce old new × IfSome old.gives (λ g. g ≡ skip)
IsPolledOpen old new Failed = PolledOnce old new × OpenerFailed old new
IsPolledOpen old new NoMemory = PolledOnce old new
