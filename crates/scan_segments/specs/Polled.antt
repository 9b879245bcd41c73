-- What one poll of a segment may answer.
use Rattle.std.specs.Prelude.{◌≡◌, ℕ, ◌<◌, List, true, ◌⊎◌}
use Rattle.scan_segments.specs.declared.source.Polled.{Polled}
use Rattle.scan_segments.specs.declared.source.Polled.TheVariants.{Pending, Bytes, Missing, Failed, NoMemory}
use Rattle.scan_segments.specs.Faults.{Rose}
use Rattle.scan_segments.specs.Source.{SourceState, Stays, Ends, TellsBytes, TellsNone}

-- the answer of a poll, by what the source was and is
abbrev pub IsPolled : (ℕ → List ℕ → Type 0) → ℕ → SourceState → SourceState → Polled → Type 0
IsPolled fits id old new Pending = Stays old new × (new.turns < old.turns)
IsPolled fits id old new (Bytes bytes) = Ends id old new × TellsBytes old id bytes × fits id bytes
IsPolled fits id old new Missing = Ends id old new × TellsNone old id
IsPolled fits id old new Failed = Ends id old new × Rose old.faults new.faults × (old.can_fail ≡ true)
IsPolled fits id old new NoMemory = Stays old new

-- the source was polled once, or not at all
abbrev pub PolledOnce : {S : Type 0} → (S → ℕ → S → Polled → Type 0) → ℕ → S → S → Type 0
PolledOnce polls id old new = (new ≡ old) ⊎ ((answer : Polled) × polls old id new answer)
