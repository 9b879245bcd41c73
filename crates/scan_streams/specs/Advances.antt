-- What a step does to splits that are being read.
use Rattle.std.specs.Prelude.{◌≡◌, ◌≤◌, ◌+◌, ℕ, Bool, true, false, length, Option}
use Rattle.scan_values.specs.DataType.{DataType}
use Rattle.scan_segments.specs.Source.{SourceState, Store}
use Rattle.scan_streams.specs.Looks.{Looked, EachGoes, Fetched, Steps, step_items, step_dtype}
use Rattle.scan_streams.specs.Measures.{slots_steps}
use Rattle.scan_streams.specs.Readings.{Standing, Linked, ListsDone, slot_count, splits_of}
use Rattle.scan_streams.specs.Slots.{HasNews}
use Rattle.scan_streams.specs.Splits.{Goes, AllOf}
use Rattle.scan_streams.specs.declared.reading.Reading.{Reading}
use Rattle.scan_streams.specs.declared.reading.Step.{Step}
use Rattle.scan_streams.specs.declared.reading.Step.TheVariants as step

-- one slot was looked at, and all but the slots, the desk and the list of arrays is as before
pub record LooksAtSlot (holds : Option Store) (place : ℕ) (old new : Reading) : Type 0 where
  pub looked : Looked holds place old.slots.items new.slots.items
  pub links : Linked new.desk new.slots.items
  pub lists : ListsDone old.ordered new.slots.items new.done.items
  pub steps : slots_steps new.slots.items + length new.done.items ≤ slots_steps old.slots.items + length old.done.items
  pub queue : new.queue ≡ old.queue
  pub head : new.head ≡ old.head
  pub news : new.news.items ≡ old.news.items
  pub ordered : new.ordered ≡ old.ordered

-- a look at a slot answers that there is more to do
abbrev pub LooksOn : Option Store → ℕ → Reading → Reading → Step → Type 0
LooksOn holds place old new step.More = LooksAtSlot holds place old new
LooksOn holds place old new (step.Array a) = ⊥
LooksOn holds place old new step.Pending = ⊥
LooksOn holds place old new step.End = ⊥

-- what is live was polled, and all but the slots, the desk and the list of news is as before
pub record FetchesLive (came : Bool) (old new : Reading) (s t : SourceState) : Type 0 where
  pub goes : EachGoes s.holds old.slots.items new.slots.items
  pub links : Linked new.desk new.slots.items
  pub has : HasNews old.slots.items old.news.items → HasNews new.slots.items new.news.items
  pub fetched : Fetched came old.slots.items new.slots.items old.news.items new.news.items old.desk s t
  pub queue : new.queue ≡ old.queue
  pub head : new.head ≡ old.head
  pub done : new.done.items ≡ old.done.items
  pub ordered : new.ordered ≡ old.ordered

-- a round of polls answers whether something has come
abbrev pub FetchesOn : Reading → Reading → SourceState → SourceState → Step → Type 0
FetchesOn old new s t step.More = FetchesLive true old new s t
FetchesOn old new s t step.Pending = FetchesLive false old new s t
FetchesOn old new s t (step.Array a) = ⊥
FetchesOn old new s t step.End = ⊥

-- a step: what is true between two steps stays, the splits go on, the end is nearer, an array has their dtype, and as
-- many are read at once
pub record Advances (step : Step) (old new : Reading) (s t : SourceState) : Type 0 where
  pub stands : Standing new
  pub goes : Goes old.ordered s.holds (step_items step) (splits_of old) (splits_of new)
  pub nearer : Steps step old new s t
  pub dtype : (d : DataType) → AllOf d (splits_of old) → step_dtype d step
  pub begun : slot_count new ≡ slot_count old
