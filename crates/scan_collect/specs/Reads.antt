-- What is given of all that a stream reads, up to its end.
use Rattle.std.specs.Prelude.{◌≡◌, ◌≤◌, ◌⊎◌, ℕ, Bool, true, false, List, length, map, Option, None, Some, option_map}
use Rattle.std.specs.List.{flat_map}
use Rattle.scan_values.specs.Arrays.{ArrayData}
use Rattle.scan_values.specs.Marked.{Marked}
use Rattle.scan_values.specs.Val.{marked}
use Rattle.scan_segments.specs.Faults.{Rose}
use Rattle.scan_segments.specs.Source.{SourceState, Store}
use Rattle.scan_limit.specs.Budget.{most}
use Rattle.scan_limit.specs.Seats.{SeatState, seat_with}
use Rattle.scan_streams.specs.Feeds.{FeedData}
use Rattle.scan_streams.specs.Splits.{SplitData, AllHold, Alike, SomeComesTo, parts_left, clean_left, damage_left, overflow_left, reach, spoils_id}
use Rattle.scan_streams.specs.declared.fault.StreamFault.{StreamFault}
use Rattle.scan_streams.specs.declared.fault.StreamFault.TheVariants as fault
use Rattle.scan_core.specs.Streaming.{first_of}

-- the values of arrays, one after the other
abbrev pub values_given : List ArrayData → List Marked
values_given ls = flat_map (λ (a : ArrayData). map marked a.items) ls

-- lists of values, one after the other
abbrev pub joined : List (List Marked) → List Marked
joined xss = flat_map (λ (xs : List Marked). xs) xss

-- so many rows are all that a limit allows
abbrev pub IsFull : Option ℕ → ℕ → Type 0
IsFull None n = ⊥
IsFull (Some limit) n = n ≡ limit

-- how many rows a seat's limit allows
abbrev pub limit_in : Option SeatState → Option ℕ
limit_in = option_map (λ (s : SeatState). (s.budget).limit)

-- nothing was claimed of a limit, and all of its room is this seat's, which is enough for so many rows
abbrev pub IsAlone : Option SeatState → ℕ → Type 0
IsAlone None rows = Unit {0}
IsAlone (Some s) rows = (s ≡ seat_with s.budget most) × (rows ≤ most)

-- nothing was read of a feed over a store, and nobody else claims of its limit
pub record IsFresh (store : Store) (f : FeedData) : Type 0 where
  -- it has not ended
  pub begun : f.ended ≡ false
  -- what has arrived is what the store has
  pub holds : AllHold store f.splits
  pub alone : IsAlone f.seat (reach f.splits)

-- These are the values of splits over a store, the first as many as a limit, read to their end.
pub record AreRead (ordered : Bool) (limit : Option ℕ) (store : Store) (splits : List SplitData) (values : List Marked) : Type 0 where
  -- the values of each split, in the order of the splits or in some order of them
  pub parts : List (List Marked)
  pub all : Alike ordered (parts_left store splits) parts
  pub first : values ≡ first_of limit (joined parts)
  -- the same of those splits alone of which no filter is damaged
  pub sound : List (List Marked)
  pub clean : Alike ordered (clean_left store splits) sound
  pub sound_first : values ≡ first_of limit (joined sound)
  -- where they are fewer than the limit, no split is damaged, and nothing overflows
  pub whole : IsFull limit (length values) ⊎ ((damage_left store splits ≡ false) × (overflow_left store splits ≡ false))

-- the same of a feed, by its order and its limit
abbrev pub IsReadOf : Store → FeedData → List Marked → Type 0
IsReadOf store f values = AreRead f.ordered (limit_in f.seat) store f.splits values

-- why reading stops before the end: the source failed, what it holds spoils a split, or something overflows; or memory lacks
abbrev pub StopsBy : {F : Type 0} → SourceState → SourceState → List SplitData → StreamFault F → Type 0
StopsBy s t splits (fault.Source id) = Rose s.faults t.faults × (s.can_fail ≡ true)
StopsBy s t splits (fault.Corrupt id) = (store : Store) → s.holds ≡ Some store → AllHold store splits → SomeComesTo (spoils_id id) store splits
StopsBy s t splits (fault.Map f) = ⊥
StopsBy s t splits (fault.Setup f) = ⊥
StopsBy s t splits fault.NoMemory = Unit {0}
StopsBy s t splits fault.Overflow = (store : Store) → s.holds ≡ Some store → AllHold store splits → overflow_left store splits ≡ true

-- the same of a source that is not seen any more
abbrev pub MayStop : {F : Type 0} → SourceState → List SplitData → StreamFault F → Type 0
MayStop s splits x = (after : SourceState) × StopsBy s after splits x
