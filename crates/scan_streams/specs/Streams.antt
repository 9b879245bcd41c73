-- A stream of what a map makes of the arrays of splits.
use Rattle.std.specs.Prelude.{◌≡◌, ◌<◌, ◌⊎◌, ℕ, Bool, true, false, List, [], length, map, take, Option, Result, Ok, Err, refl}
use Rattle.std.specs.Coded.{Coded, code_by, coded×}
use Rattle.scan_values.specs.Arrays.{ArrayData, of_parts}
use Rattle.scan_values.specs.Selections.{is_among}
use Rattle.scan_values.specs.Val.{marked}
use Rattle.scan_segments.specs.Source.{SourceState, Store}
use Rattle.scan_streams.specs.Feeds.{FeedData, feed_code, ended_feed}
use Rattle.scan_streams.specs.Grants.{Grants, is_spent}
use Rattle.scan_streams.specs.Looks.{Halts, MayAsk}
use Rattle.scan_streams.specs.Splits.{Goes}
use Rattle.scan_streams.specs.declared.fault.Halt.{Halt}
use Rattle.scan_streams.specs.declared.fault.Halt.TheVariants as halt
use Rattle.scan_streams.specs.declared.fault.StreamFault.{StreamFault}
use Rattle.scan_streams.specs.declared.fault.StreamFault.TheVariants as fault
use Rattle.scan_streams.specs.declared.fault.StreamPoll.{StreamPoll}
use Rattle.scan_streams.specs.declared.fault.StreamPoll.TheVariants as poll
use Rattle.scan_streams.specs.declared.feed.FeedPoll.{FeedPoll}
use Rattle.scan_streams.specs.declared.feed.FeedPoll.TheVariants as feed

-- what it reads, and the map
pub record StreamData (M : Type 0) : Type 0 where
  pub feed : FeedData
  pub step : M

abbrev pub stream_data : {M : Type 0} → FeedData → M → StreamData M
stream_data f m = record { feed = f; step = m }

abbrev pub stream_code : {M : Type 0} → Coded M → Coded (StreamData M)
stream_code {M} m = code_by (FeedData × M) (coded× feed_code m) (λ a. (a.feed, a.step)) (λ p. record { feed = p.0; step = p.1 }) (λ _. refl)

-- the live requests of a source are these
abbrev pub LiveAs : (ℕ → Bool) → List ℕ → Type 0
LiveAs live ids = (id : ℕ) → live id ≡ is_among ids id

-- an id that may be asked: it has not ended, something may be granted, and a split that is left may want it
abbrev pub MayFeed : Option Store → FeedData → ℕ → Type 0
MayFeed holds f id = (f.ended ≡ false) × (is_spent f.seat ≡ false) × MayAsk holds f.splits id

-- the first rows of an array
abbrev pub first_rows : ℕ → ArrayData → ArrayData
first_rows n a = of_parts a.dtype (take n a.items)

-- what is the same after every call
pub record SameFeed (old new : FeedData) : Type 0 where
  pub dtype : new.dtype ≡ old.dtype
  pub ordered : new.ordered ≡ old.ordered

pub record SameStream {M : Type 0} (old new : StreamData M) : Type 0 where
  pub feed : SameFeed old.feed new.feed
  pub step : new.step ≡ old.step

-- it has not ended, neither before nor after, and reads as many splits at once
pub record GoesOn (old new : FeedData) : Type 0 where
  pub before : old.ended ≡ false
  pub after : new.ended ≡ false
  pub width : new.width ≡ old.width

-- nothing is live, and each later poll gives the end
pub record HasEnded (new : FeedData) : Type 0 where
  pub ended : new.ended ≡ true
  pub idle : new.live ≡ []

-- the source put off an answer, and nothing is given
pub record PutsOff (s t : SourceState) (old new : FeedData) : Type 0 where
  pub goes_on : GoesOn old new
  pub turns : t.turns < s.turns
  pub goes : Goes old.ordered s.holds [] old.splits new.splits
  pub seat : new.seat ≡ old.seat

-- the array of a split was there, and its rows, at least one, were claimed: so many of them are granted
pub record ClaimsRows (holds : Option Store) (old new : FeedData) (array : ArrayData) (rows : ℕ) : Type 0 where
  pub goes : Goes old.ordered holds (map marked array.items) old.splits new.splits
  pub dtype : array.dtype ≡ old.dtype
  pub some : 0 < length array.items
  pub granted : Grants old.seat (length array.items) rows new.seat

-- the array of a split was given: as many of its first rows as are granted, at least one
pub record GivesRows (holds : Option Store) (old new : FeedData) (given : ArrayData) : Type 0 where
  pub array : ArrayData
  pub rows : ℕ
  pub claims : ClaimsRows holds old new array rows
  pub some : 0 < rows
  pub is : given ≡ first_rows rows array

-- none of the rows of the next array was granted
abbrev pub GrantsNone : Option Store → FeedData → FeedData → Type 0
GrantsNone holds old new = (array : ArrayData) × ClaimsRows holds old new array 0 × (is_spent new.seat ≡ true)

-- nothing was claimed, since it had ended, nothing is granted any more, or no split is left
abbrev pub NothingLeft : Option Store → FeedData → Type 0
NothingLeft holds old = (old.ended ≡ true) ⊎ (is_spent old.seat ≡ true) ⊎ Goes old.ordered holds [] old.splits []

-- why it ends: nothing is left, or none of the rows of the next array was granted
abbrev pub Ends : Option Store → FeedData → FeedData → Type 0
Ends holds old new = ((new.seat ≡ old.seat) × NothingLeft holds old) ⊎ GrantsNone holds old new

-- the seat after a halt: as before, or, where memory lacks, with the rows of the next array claimed
abbrev pub SeatAfter : Option Store → FeedData → FeedData → Halt → Type 0
SeatAfter holds old new (halt.Source id) = new.seat ≡ old.seat
SeatAfter holds old new (halt.Corrupt id) = new.seat ≡ old.seat
SeatAfter holds old new halt.Overflow = new.seat ≡ old.seat
SeatAfter holds old new halt.NoMemory = (new.seat ≡ old.seat) ⊎ ((array : ArrayData) × (rows : ℕ) × ClaimsRows holds old new array rows)

-- its splits are not read any further
pub record HaltsAll (s t : SourceState) (old new : FeedData) (h : Halt) : Type 0 where
  pub before : old.ended ≡ false
  pub ended : HasEnded new
  pub halts : Halts s t old.splits h
  pub seat : SeatAfter s.holds old new h

-- what comes next of what is read
abbrev pub Feeds : SourceState → SourceState → FeedData → FeedData → FeedPoll → Type 0
Feeds s t old new feed.Pending = PutsOff s t old new
Feeds s t old new (feed.Array a) = GoesOn old new × GivesRows s.holds old new a
Feeds s t old new feed.End = HasEnded new × Ends s.holds old new
Feeds s t old new (feed.Halt h) = HaltsAll s t old new h

-- what is given of an array that is there: all that is granted of it, the end where that is nothing, or want of memory
pub record Granted (array : ArrayData) (rows : ℕ) (old new : FeedData) : Type 0 where
  pub splits : new.splits ≡ old.splits
  pub width : new.width ≡ old.width
  pub granted : Grants old.seat (length array.items) rows new.seat

abbrev pub FeedsOf : ArrayData → FeedData → FeedData → FeedPoll → Type 0
FeedsOf array old new feed.Pending = ⊥
FeedsOf array old new (feed.Array a) = (rows : ℕ) × Granted array rows old new × (new.ended ≡ false) × (0 < rows) × (a ≡ first_rows rows array)
FeedsOf array old new feed.End = Granted array 0 old new × HasEnded new × (is_spent new.seat ≡ true)
FeedsOf array old new (feed.Halt h) = (rows : ℕ) × Granted array rows old new × HasEnded new × (h ≡ halt.NoMemory)

-- the rows that are given of an array were mapped, which gave this
pub record MapsRows {M R : Type 0} (answers : ArrayData → R → Type 0) (holds : Option Store) (old new : StreamData M) (r : R) : Type 0 where
  pub rows : ArrayData
  pub gives : GivesRows holds old.feed new.feed rows
  pub answer : answers rows r

-- the answer of a poll
abbrev pub Answers : {M A F : Type 0} → (M → ArrayData → Result A F → Type 0) → SourceState → SourceState
    → StreamData M → StreamData M → StreamPoll A F → Type 0
Answers answers s t old new poll.Pending = PutsOff s t old.feed new.feed
Answers answers s t old new (poll.Item x) = GoesOn old.feed new.feed × MapsRows (answers old.step) s.holds old new (Ok x)
Answers answers s t old new poll.End = HasEnded new.feed × Ends s.holds old.feed new.feed
Answers answers s t old new (poll.Fault (fault.Map f)) = (old.feed.ended ≡ false) × HasEnded new.feed × MapsRows (answers old.step) s.holds old new (Err f)
Answers answers s t old new (poll.Fault (fault.Setup f)) = ⊥
Answers answers s t old new (poll.Fault (fault.Source id)) = HaltsAll s t old.feed new.feed (halt.Source id)
Answers answers s t old new (poll.Fault (fault.Corrupt id)) = HaltsAll s t old.feed new.feed (halt.Corrupt id)
Answers answers s t old new (poll.Fault fault.Overflow) = HaltsAll s t old.feed new.feed halt.Overflow
Answers answers s t old new (poll.Fault fault.NoMemory) = HaltsAll s t old.feed new.feed halt.NoMemory

-- what a step answers that changes nothing
abbrev pub gives_itself : {M F : Type 0} → M → ArrayData → Result ArrayData F → Type 0
gives_itself _ a r = r ≡ Ok a

-- what is given of an array that was mapped: a fault of the map ends the stream, and so does want of memory
abbrev pub Maps : {A F : Type 0} → (Result A F → Type 0) → FeedData → FeedData → StreamPoll A F → Type 0
Maps answered old new poll.Pending = ⊥
Maps answered old new (poll.Item x) = (new ≡ old) × answered (Ok x)
Maps answered old new poll.End = ⊥
Maps answered old new (poll.Fault (fault.Map f)) = (new ≡ ended_feed old) × answered (Err f)
Maps answered old new (poll.Fault (fault.Setup f)) = ⊥
Maps answered old new (poll.Fault (fault.Source id)) = ⊥
Maps answered old new (poll.Fault (fault.Corrupt id)) = ⊥
Maps answered old new (poll.Fault fault.Overflow) = ⊥
Maps answered old new (poll.Fault fault.NoMemory) = new ≡ ended_feed old

-- the fault of a stream whose splits are not read any further
abbrev pub halt_fault : {F : Type 0} → Halt → StreamFault F
halt_fault (halt.Source id) = fault.Source id
halt_fault (halt.Corrupt id) = fault.Corrupt id
halt_fault halt.Overflow = fault.Overflow
halt_fault halt.NoMemory = fault.NoMemory
