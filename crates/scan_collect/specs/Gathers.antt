-- What one poll adds to the arrays that were read.
use Rattle.std.specs.Prelude.{◌≡◌, ◌⊎◌, List, [], ◌∷◌, ◌++◌}
use Rattle.scan_values.specs.Arrays.{ArrayData}
use Rattle.scan_segments.specs.Source.{SourceState}
use Rattle.scan_streams.specs.Feeds.{FeedData}
use Rattle.scan_streams.specs.Looks.{Halts}
use Rattle.scan_streams.specs.Streams.{PutsOff, GoesOn, GivesRows, HasEnded, Ends}
use Rattle.scan_streams.specs.declared.fault.Halt.TheVariants as halt
use Rattle.scan_streams.specs.declared.fault.StreamFault.{StreamFault}
use Rattle.scan_streams.specs.declared.fault.StreamFault.TheVariants as fault
use Rattle.scan_collect.specs.declared.turn.Turn.{Turn}
use Rattle.scan_collect.specs.declared.turn.Turn.TheVariants as turn

-- an array is added
pub record AddsArray (s : SourceState) (f g : FeedData) (old new : List ArrayData) : Type 0 where
  pub goes_on : GoesOn f g
  pub array : ArrayData
  pub gives : GivesRows s.holds f g array
  pub added : new ≡ old ++ array ∷ []

-- none is, since the source put off an answer
pub record AddsNone (s t : SourceState) (f g : FeedData) (old new : List ArrayData) : Type 0 where
  pub waits : PutsOff s t f g
  pub same : new ≡ old

-- none is left
pub record AddsLast (s : SourceState) (f g : FeedData) (old new : List ArrayData) : Type 0 where
  pub ended : HasEnded g
  pub ends : Ends s.holds f g
  pub same : new ≡ old

-- why reading stops
abbrev pub Breaks : {F : Type 0} → SourceState → SourceState → FeedData → StreamFault F → Type 0
Breaks s t f (fault.Source id) = Halts s t f.splits (halt.Source id)
Breaks s t f (fault.Corrupt id) = Halts s t f.splits (halt.Corrupt id)
Breaks s t f (fault.Map m) = ⊥
Breaks s t f (fault.Setup m) = ⊥
Breaks s t f fault.NoMemory = Unit {0}
Breaks s t f fault.Overflow = Halts s t f.splits halt.Overflow

-- a poll goes on, comes to the end, or stops
abbrev pub Gathers : {F : Type 0} → SourceState → SourceState → FeedData → FeedData → List ArrayData → List ArrayData → Turn F → Type 0
Gathers s t f g old new turn.More = AddsNone s t f g old new ⊎ AddsArray s f g old new
Gathers s t f g old new turn.Last = AddsLast s f g old new
Gathers s t f g old new (turn.Stop x) = Breaks s t f x

-- an array is pushed, or memory lacks
abbrev pub Pushes : {F : Type 0} → ArrayData → List ArrayData → List ArrayData → Turn F → Type 0
Pushes a old new turn.More = new ≡ old ++ a ∷ []
Pushes a old new turn.Last = ⊥
Pushes a old new (turn.Stop x) = x ≡ fault.NoMemory
