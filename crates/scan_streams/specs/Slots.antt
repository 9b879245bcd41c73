-- The slots of the splits in progress.
use Rattle.std.specs.Prelude.{◌≡◌, ℕ, Bool, true, false, List, [], ◌∷◌, ◌++◌, set, slice_index_or}
use Rattle.scan_values.specs.Selections.{is_among}
use Rattle.scan_splits.specs.declared.inbox.Arrival.{Arrival}
use Rattle.scan_streams.specs.Runs.{with_arrival, run_waits, is_ready}
use Rattle.scan_streams.specs.Splits.{SplitData, unread, read}
use Rattle.scan_streams.specs.declared.slot.Slot.{Slot}
use Rattle.scan_streams.specs.declared.slot.Slot.TheVariants as slot

-- the slot at a place
abbrev pub slot_at : List Slot → ℕ → Slot
slot_at slots place = slice_index_or slots place slot.Empty

-- the split in a slot; one that is done is its array
abbrev pub slot_split : Slot → List SplitData
slot_split slot.Empty = []
slot_split (slot.Run r) = unread r.future r.inbox ∷ []
slot_split (slot.Done a) = read a ∷ []

-- it waits for an id
abbrev pub slot_waits : Slot → ℕ → Bool
slot_waits slot.Empty id = false
slot_waits (slot.Run r) id = run_waits r id
slot_waits (slot.Done a) id = false

-- the ids that a poll of its split wanted
abbrev pub wanted_in : Slot → List ℕ
wanted_in slot.Empty = []
wanted_in (slot.Run r) = r.wanted
wanted_in (slot.Done a) = []

-- it has a split that waits for nothing
abbrev pub is_fresh : Slot → Bool
is_fresh slot.Empty = false
is_fresh (slot.Run r) = is_ready r
is_fresh (slot.Done a) = false

abbrev pub is_done : Slot → Bool
is_done slot.Empty = false
is_done (slot.Run r) = false
is_done (slot.Done a) = true

abbrev pub is_empty : Slot → Bool
is_empty slot.Empty = true
is_empty (slot.Run r) = false
is_empty (slot.Done a) = false

-- what arrived of an id is handed to the split
abbrev pub handed : ℕ → Arrival → Slot → Slot
handed id a slot.Empty = slot.Empty
handed id a (slot.Run r) = slot.Run (with_arrival id a r)
handed id a (slot.Done b) = slot.Done b

-- it is handed to those at these places, one after the other
abbrev pub handed_all : ℕ → Arrival → List ℕ → List Slot → List Slot
handed_all id a [] slots = slots
handed_all id a (p ∷ ps) slots = handed_all id a ps (set slots p (handed id a (slot_at slots p)))

-- each of these places waits for the id
abbrev pub AllWait : ℕ → List ℕ → List Slot → Type 0
AllWait id places slots = (p : ℕ) → is_among places p ≡ true → slot_waits (slot_at slots p) id ≡ true

-- each split that waits for nothing is among those with news
abbrev pub HasNews : List Slot → List ℕ → Type 0
HasNews slots news = (p : ℕ) → is_fresh (slot_at slots p) ≡ true → is_among news p ≡ true

-- one more place in a list, where it is to be
abbrev pub also_if : Bool → ℕ → List ℕ → List ℕ
also_if true place list = list ++ place ∷ []
also_if false place list = list
