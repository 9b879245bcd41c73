-- Steps of splits that are being read.
use Rattle.std.specs.Prelude.{◌≡◌, ◌<◌, ◌+◌, ◌||◌, ◌&&◌, ◌++◌, ℕ, Bool, true, false, List, [], length, map, set, Option, Some, nat_eq}
use Rattle.scan_values.specs.Arrays.{ArrayData}
use Rattle.scan_values.specs.DataType.{DataType}
use Rattle.scan_values.specs.Selections.{is_among}
use Rattle.scan_values.specs.Marked.{Marked}
use Rattle.scan_values.specs.Val.{marked}
use Rattle.scan_segments.specs.Faults.{Rose}
use Rattle.scan_segments.specs.Source.{SourceState, Store}
use Rattle.scan_plans.specs.Came.{came, Holds}
use Rattle.scan_plans.specs.Futures.{future_wanted, future_spoiled, future_overflow, GivesItems, SameFuture}
use Rattle.scan_plans.specs.Given.{AreLacking}
use Rattle.scan_streams.specs.Desks.{Waiters, waits, AllAwaited}
use Rattle.scan_streams.specs.Measures.{slots_steps, steps_left}
use Rattle.scan_streams.specs.Readings.{splits_of, next_slot, later, news_of, turn_after, Keeps}
use Rattle.scan_streams.specs.Runs.{RunData, is_ready}
use Rattle.scan_streams.specs.Slots.{slot_at, slot_split, is_empty, is_done, is_fresh}
use Rattle.scan_streams.specs.Sources.{WasAsked}
use Rattle.scan_streams.specs.Splits.{SplitData, Goes, AllHold, SomeComesTo, spoils_id, wants_id, overflow_left, may_want}
use Rattle.scan_streams.specs.declared.fault.Halt.{Halt}
use Rattle.scan_streams.specs.declared.fault.Halt.TheVariants as halt
use Rattle.scan_streams.specs.declared.reading.Next.{Next}
use Rattle.scan_streams.specs.declared.reading.Next.TheVariants as next
use Rattle.scan_streams.specs.declared.reading.Step.{Step}
use Rattle.scan_streams.specs.declared.reading.Step.TheVariants as step
use Rattle.scan_streams.specs.declared.look.Found.{Found}
use Rattle.scan_streams.specs.declared.look.Found.TheVariants as found
use Rattle.scan_streams.specs.declared.reading.Reading.{Reading}
use Rattle.scan_streams.specs.declared.slot.Slot.{Slot}
use Rattle.scan_streams.specs.declared.slot.Slot.TheVariants as slot

-- why splits are not read any further: the source failed at an id that was asked, its segment spoils a split that is left, or one overflows
abbrev pub Halts : SourceState → SourceState → List SplitData → Halt → Type 0
Halts s t splits (halt.Source id) = Rose s.faults t.faults × (s.can_fail ≡ true) × WasAsked s t id
Halts s t splits (halt.Corrupt id) = (store : Store) → s.holds ≡ Some store → AllHold store splits → SomeComesTo (spoils_id id) store splits
Halts s t splits halt.Overflow = (store : Store) → s.holds ≡ Some store → AllHold store splits → overflow_left store splits ≡ true
Halts s t splits halt.NoMemory = Unit {0}

-- an id that may be asked: a split that is left may want it, and under a told store one comes to want it
abbrev pub MayAsk : Option Store → List SplitData → ℕ → Type 0
MayAsk holds splits id = (may_want splits id ≡ true) × ((store : Store) → holds ≡ Some store → AllHold store splits → SomeComesTo (wants_id id) store splits)

-- the values that an answer gives
abbrev pub next_items : Next → List Marked
next_items next.Pending = []
next_items (next.Array a) = map marked a.items
next_items next.End = []

abbrev pub step_items : Step → List Marked
step_items step.More = []
step_items (step.Array a) = map marked a.items
step_items step.Pending = []
step_items step.End = []

-- nothing was there to be polled
pub record FoundNothing (old new : Slot) : Type 0 where
  pub same : new ≡ old
  pub none : is_fresh old ≡ false

-- the split that was there is read now
pub record FoundDone (old new : Slot) : Type 0 where
  pub run : RunData
  pub array : ArrayData
  pub was : old ≡ slot.Run run
  pub ready : is_ready run ≡ true
  pub gives : GivesItems (came run.inbox) run.future array
  pub now : new ≡ slot.Done array

-- the split that was there waits for what lacks
pub record FoundWaits (old new : Slot) : Type 0 where
  pub run : RunData
  pub next : RunData
  pub was : old ≡ slot.Run run
  pub now : new ≡ slot.Run next
  pub ready : is_ready run ≡ true
  pub same : SameFuture (came run.inbox) next.future run.future
  pub inbox : next.inbox ≡ run.inbox
  pub lacking : AreLacking (future_wanted run.future (came run.inbox)) (came run.inbox) next.wanted

-- a look at a slot
abbrev pub LooksAt : Slot → Slot → Found → Type 0
LooksAt old new found.Nothing = FoundNothing old new
LooksAt old new found.Done = FoundDone old new
LooksAt old new found.Waits = FoundWaits old new

-- why the split in a slot is not read any further
abbrev pub HaltsAt : Slot → Halt → Type 0
HaltsAt old (halt.Source id) = ⊥
HaltsAt old (halt.Corrupt id) = (r : RunData) × (old ≡ slot.Run r) × (future_spoiled r.future (came r.inbox) id ≡ true)
HaltsAt old halt.Overflow = (r : RunData) × (old ≡ slot.Run r) × ((store : Store) → Holds store (came r.inbox) → future_overflow r.future store ≡ true)
HaltsAt old halt.NoMemory = Unit {0}

abbrev pub Among : List ℕ → ℕ → Type 0
Among ids id = is_among ids id ≡ true

-- a place waits for each of these ids too, and some place for each that is live
abbrev pub Asked : List ℕ → ℕ → Waiters → Waiters → Type 0
Asked ids place old new = ((id p : ℕ) → waits new id p ≡ (waits old id p || (is_among ids id && nat_eq place p))) × (AllAwaited old → AllAwaited new)

-- the slots after a look at one: its split goes on and does not wait for nothing, and the others are as before
pub record Looked (holds : Option Store) (place : ℕ) (old new : List Slot) : Type 0 where
  pub slot : Slot
  pub now : new ≡ set old place slot
  pub goes : Goes true holds [] (slot_split (slot_at old place)) (slot_split slot)
  pub settled : is_fresh slot ≡ false
  pub empty : is_empty slot ≡ is_empty (slot_at old place)

-- a slot after arrivals: its split goes on
pub record SlotGoes (holds : Option Store) (old new : Slot) : Type 0 where
  pub goes : Goes true holds [] (slot_split old) (slot_split new)
  pub empty : is_empty new ≡ is_empty old
  pub done : is_done new ≡ is_done old

-- each slot after arrivals
pub record EachGoes (holds : Option Store) (old new : List Slot) : Type 0 where
  pub len : length new ≡ length old
  pub at : (place : ℕ) → SlotGoes holds (slot_at old place) (slot_at new place)

-- what a poll of a live id did: something came for those that waited, and less is left to be done; or all is as before, and the source put it off
abbrev pub PolledOne : Bool → ℕ → List Slot → List Slot → List ℕ → List ℕ → Waiters → Waiters → SourceState → SourceState → Type 0
PolledOne true id old new news later d e s t = slots_steps new + length later < slots_steps old + length news
PolledOne false id old new news later d e s t = (new ≡ old) × (later ≡ news) × (e ≡ d) × (t.turns < s.turns)

-- what a round of polls did: something came, and less is left to be done; or all is as before, and the source put off what is live
abbrev pub Fetched : Bool → List Slot → List Slot → List ℕ → List ℕ → Waiters → SourceState → SourceState → Type 0
Fetched true old new news later d s t = slots_steps new + length later < slots_steps old + length news
Fetched false old new news later d s t = (new ≡ old) × (later ≡ news) × ((d ≡ [] → ⊥) → t.turns < s.turns)

-- a step brings the end nearer, or the source has put off an answer, or nothing is left
abbrev pub Steps : Step → Reading → Reading → SourceState → SourceState → Type 0
Steps step.More old new s t = steps_left new < steps_left old
Steps (step.Array a) old new s t = steps_left new < steps_left old
Steps step.Pending old new s t = t.turns < s.turns
Steps step.End old new s t = splits_of new ≡ []

-- the source has put off an answer, or an array with rows is there, or nothing is left
abbrev pub Comes : Next → Reading → SourceState → SourceState → Type 0
Comes next.Pending new s t = t.turns < s.turns
Comes (next.Array a) new s t = 0 < length a.items
Comes next.End new s t = splits_of new ≡ []

-- the dtype of the array that is given
abbrev pub step_dtype : DataType → Step → Type 0
step_dtype d step.More = Unit {0}
step_dtype d (step.Array a) = a.dtype ≡ d
step_dtype d step.Pending = Unit {0}
step_dtype d step.End = Unit {0}

abbrev pub next_dtype : DataType → Next → Type 0
next_dtype d next.Pending = Unit {0}
next_dtype d (next.Array a) = a.dtype ≡ d
next_dtype d next.End = Unit {0}

-- the array in a slot is given, and its slot goes to the next split
pub record GivesSlot (place : ℕ) (a : ArrayData) (old new : Reading) : Type 0 where
  pub was : slot_at old.slots.items place ≡ slot.Done a
  pub slots : new.slots.items ≡ set old.slots.items place (next_slot old.queue)
  pub queue : new.queue ≡ later old.queue
  pub news : new.news.items ≡ old.news.items ++ news_of old.queue place
  pub head : new.head ≡ turn_after old.ordered old.head (length old.slots.items)
  pub done : new.done.items ≡ old.done.items
  pub desk : new.desk ≡ old.desk
  pub ordered : new.ordered ≡ old.ordered

-- the array in a slot is given, or there is none, and all is as before
abbrev pub Gives : ℕ → Reading → Reading → Step → Type 0
Gives place old new step.More = Keeps old new × (is_done (slot_at old.slots.items place) ≡ false)
Gives place old new (step.Array a) = GivesSlot place a old new
Gives place old new step.Pending = ⊥
Gives place old new step.End = ⊥
