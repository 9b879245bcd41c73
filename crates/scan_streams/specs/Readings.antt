-- Splits that are being read, a number of them at once: what is true between two steps.
use Rattle.std.specs.Prelude.{◌≡◌, ◌<◌, ◌+◌, ◌⊎◌, ◌++◌, ◌∷◌, [], ℕ, Bool, true, false, List, length, map, take, drop, set, nat_lt, Option, None, Some, if◌then◌else◌}
use Rattle.scan_values.specs.Arrays.{ArrayData}
use Rattle.std.specs.List.{flat_map, list_all}
use Rattle.scan_values.specs.Selections.{is_among}
use Rattle.scan_plans.specs.Futures.{FutureData}
use Rattle.scan_streams.specs.Desks.{Waiters, waits, AllAwaited}
use Rattle.scan_streams.specs.Slots.{slot_at, slot_split, slot_waits, is_empty, is_done, HasNews}
use Rattle.scan_streams.specs.Runs.{new_run}
use Rattle.scan_streams.specs.Splits.{SplitData, new_split}
use Rattle.scan_streams.specs.declared.reading.Reading.{Reading}
use Rattle.scan_streams.specs.declared.slot.Slot.{Slot}
use Rattle.scan_streams.specs.declared.slot.Slot.TheVariants as slot

-- the slots, from that whose turn it is
abbrev pub ring : {T : Type 0} → ℕ → List T → List T
ring head slots = drop head slots ++ take head slots

-- the splits that are still to be given, in split order where the order is kept
abbrev pub splits_in : ℕ → List Slot → List FutureData → List SplitData
splits_in head slots queue = flat_map slot_split (ring head slots) ++ map new_split queue

-- how many splits are read at once: one in each slot. Of those that are queued nothing has been read.
abbrev pub slot_count : Reading → ℕ
slot_count r = length r.slots.items

abbrev pub splits_of : Reading → List SplitData
splits_of r = splits_in r.head r.slots.items r.queue

-- what is live belongs to the slots
pub record Linked (d : Waiters) (slots : List Slot) : Type 0 where
  -- the desk knows exactly which slots wait for what
  pub same : (id place : ℕ) → waits d id place ≡ slot_waits (slot_at slots place) id
  -- some slot waits for each id that is live
  pub live : AllAwaited d

-- without an order the slots of arrays are listed
abbrev pub ListsDone : Bool → List Slot → List ℕ → Type 0
ListsDone ordered slots done = ordered ≡ false → (place : ℕ) → is_done (slot_at slots place) ≡ true → is_among done place ≡ true

-- behind an empty slot stand only empty ones
abbrev pub Packed : List Bool → Type 0
Packed [] = Unit {0}
Packed (b ∷ bs) = (b ≡ true → list_all (λ x. x) bs ≡ true) × Packed bs

-- where a slot is empty, or there is none, no split is queued
abbrev pub IsFull : List Slot → List FutureData → Type 0
IsFull slots queue = ((place : ℕ) → place < length slots → is_empty (slot_at slots place) ≡ true → queue ≡ []) × (slots ≡ [] → queue ≡ [])

-- what is true between two steps
pub record Standing (r : Reading) : Type 0 where
  pub links : Linked r.desk r.slots.items
  pub news : HasNews r.slots.items r.news.items
  pub done : ListsDone r.ordered r.slots.items r.done.items
  pub turn : 0 < length r.slots.items → r.head < length r.slots.items
  pub full : IsFull r.slots.items r.queue
  pub packed : r.ordered ≡ true → Packed (ring r.head (map is_empty r.slots.items))
  pub still : r.ordered ≡ false → r.head ≡ 0

-- the next split, started, and those behind it
abbrev pub next_slot : List FutureData → Slot
next_slot [] = slot.Empty
next_slot (f ∷ fs) = slot.Run (new_run f)

abbrev pub later : List FutureData → List FutureData
later [] = []
later (f ∷ fs) = fs

-- the place of the next split, where there is one
abbrev pub news_of : List FutureData → ℕ → List ℕ
news_of [] place = []
news_of (f ∷ fs) place = place ∷ []

-- each slot has a split of which nothing has been read
abbrev pub AllStarted : List Slot → Type 0
AllStarted [] = Unit {0}
AllStarted (s ∷ ss) = ((f : FutureData) × (s ≡ slot.Run (new_run f))) × AllStarted ss

-- so many splits were started, in order
pub record Starts (count : ℕ) (splits : List FutureData) (slots : List Slot) (queue : List FutureData) (news : List ℕ) : Type 0 where
  pub started : AllStarted slots
  pub splits_are : flat_map slot_split slots ++ map new_split queue ≡ map new_split splits
  pub len : length slots ≡ count
  pub rest : length queue + count ≡ length splits
  pub has : HasNews slots news

-- the array in a slot is taken, and its slot goes to the next split; or there is none, and all is as before
abbrev pub Takes : ℕ → List Slot → List Slot → List FutureData → List FutureData → List ℕ → List ℕ → Option ArrayData → Type 0
Takes place old new queue rest news more None = (new ≡ old) × (rest ≡ queue) × (more ≡ news) × (is_done (slot_at old place) ≡ false)
Takes place old new queue rest news more (Some a) = (slot_at old place ≡ slot.Done a)
    × (new ≡ set old place (next_slot queue)) × (rest ≡ later queue) × (more ≡ news ++ news_of queue place)

-- the place whose turn it is after one of so many: the next in the ring, where the order is kept
abbrev pub turn_after : Bool → ℕ → ℕ → ℕ
turn_after true place count = if nat_lt (place + 1) count then place + 1 else 0
turn_after false place count = place

-- all is as before
pub record Keeps (old new : Reading) : Type 0 where
  pub slots : new.slots.items ≡ old.slots.items
  pub queue : new.queue ≡ old.queue
  pub head : new.head ≡ old.head
  pub news : new.news.items ≡ old.news.items
  pub done : new.done.items ≡ old.done.items
  pub desk : new.desk ≡ old.desk
  pub ordered : new.ordered ≡ old.ordered

-- the first listed slot is taken off the list
pub record TakesDone (old new : Reading) (place : ℕ) : Type 0 where
  pub done : old.done.items ≡ place ∷ new.done.items
  pub slots : new.slots.items ≡ old.slots.items
  pub queue : new.queue ≡ old.queue
  pub head : new.head ≡ old.head
  pub news : new.news.items ≡ old.news.items
  pub desk : new.desk ≡ old.desk
  pub ordered : new.ordered ≡ old.ordered

-- the first slot with news is taken off their list
pub record TakesNews (old new : Reading) (place : ℕ) : Type 0 where
  pub news : old.news.items ≡ place ∷ new.news.items
  pub slots : new.slots.items ≡ old.slots.items
  pub queue : new.queue ≡ old.queue
  pub head : new.head ≡ old.head
  pub done : new.done.items ≡ old.done.items
  pub desk : new.desk ≡ old.desk
  pub ordered : new.ordered ≡ old.ordered

-- the first slot with news, where there is one
abbrev pub IsNews : Reading → Reading → Option ℕ → Type 0
IsNews old new None = Keeps old new × (old.news.items ≡ [])
IsNews old new (Some place) = TakesNews old new place

-- where the order is kept, the first slot in the ring has its turn, once it is an array
pub record HasTurn (old new : Reading) (place : ℕ) : Type 0 where
  pub ordered : old.ordered ≡ true
  pub same : new ≡ old
  pub at : place ≡ old.head
  pub done : is_done (slot_at old.slots.items old.head) ≡ true

-- whose turn it is: where the order is kept the first in the ring, else the first that is listed
abbrev pub IsTurn : Reading → Reading → Option ℕ → Type 0
IsTurn old new None = Keeps old new × (old.ordered ≡ true → is_done (slot_at old.slots.items old.head) ≡ false) × (old.ordered ≡ false → old.done.items ≡ [])
IsTurn old new (Some place) = HasTurn old new place ⊎ ((old.ordered ≡ false) × TakesDone old new place)
