-- What a split is to a drive over many files, and what a poll of it answers.
use Rattle.std.specs.Prelude.{◌≡◌, ℕ, Bool, true, false, List, Some, is_none}
use Rattle.std.specs.FinMap as map
use Rattle.scan_segments.specs.Source.{Store}
use Rattle.scan_values.specs.Selections.{is_among}
use Rattle.scan_splits.specs.Arrivals.{Arrivals, Agrees}
use Rattle.scan_splits.specs.Wanted.{is_any}
use Rattle.scan_splits.specs.declared.inbox.Arrival.{Arrival}
use Rattle.scan_splits.specs.declared.poll.Poll.{Poll}
use Rattle.scan_splits.specs.declared.poll.Poll.TheVariants as poll

-- its rows over a store, whether an evaluation overflows there, and the ids that it may want, whatever arrives
pub record SplitState (I : Type 0) : Type 0 where
  pub rows : Store → List I
  pub overflow : Store → Bool
  pub may : List ℕ

-- what a split may come to: it wants a segment, or finds that what arrived of one is no good
pub data Event : Type 0 where
  wants : ℕ → Event
  spoils : ℕ → Event

-- nothing has arrived of an id
abbrev pub lacks : Arrivals → ℕ → Bool
lacks here id = is_none (map.get here id)

-- what has arrived in the first has arrived in the second
abbrev pub Extends : Arrivals → Arrivals → Type 0
Extends here more = (id : ℕ) (a : Arrival) → map.get here id ≡ Some a → map.get more id ≡ Some a

module _ {W I : Type 0} (split : W → SplitState I) (comes : W → Arrivals → Store → Event → Type 0) where
  -- the first means the same as the second under every store that has what has arrived, and comes to no more
  pub record SameSplit (here : Arrivals) (new old : W) : Type 0 where
    pub rows : (store : Store) → Agrees store here → (split new).rows store ≡ (split old).rows store
    pub overflow : (store : Store) → Agrees store here → (split new).overflow store ≡ (split old).overflow store
    pub may : (id : ℕ) → is_among (split new).may id ≡ true → is_among (split old).may id ≡ true
    pub comes_to : (more : Arrivals) (store : Store) (e : Event) → Extends here more → Agrees store more → comes new more store e → comes old more store e

  -- ids, at least one, of which nothing has arrived: it may want them, and comes to want them under every store that has what has arrived
  pub record Wants (here : Arrivals) (w : W) (ids : List ℕ) : Type 0 where
    pub some : is_any ids ≡ true
    pub lacking : (id : ℕ) → is_among ids id ≡ true → lacks here id ≡ true
    pub may : (id : ℕ) → is_among ids id ≡ true → is_among (split w).may id ≡ true
    pub comes_to : (id : ℕ) (store : Store) → is_among ids id ≡ true → Agrees store here → comes w here store (wants id)

  -- these are its rows, none of which overflows, under every store that has what has arrived
  pub record GivesRows (here : Arrivals) (w : W) (rows : List I) : Type 0 where
    pub same : (store : Store) → Agrees store here → rows ≡ (split w).rows store
    pub within : (store : Store) → Agrees store here → (split w).overflow store ≡ false

  -- something has arrived of this id, which is no good, under every store that has what has arrived
  pub record FindsBad (here : Arrivals) (w : W) (id : ℕ) : Type 0 where
    pub arrived : lacks here id ≡ false
    pub bad : (store : Store) → Agrees store here → comes w here store (spoils id)

  -- it overflows, under every store that has what has arrived
  abbrev pub Overflows : Arrivals → W → Type 0
  Overflows here w = (store : Store) → Agrees store here → (split w).overflow store ≡ true

  -- the answer of a poll
  abbrev pub Polls : {R : Type 0} → (R → List I) → Arrivals → W → Poll R → Type 0
  Polls items here w (poll.Ready rows) = GivesRows here w (items rows)
  Polls items here w (poll.Pending ids) = Wants here w ids
  Polls items here w (poll.Corrupt id) = FindsBad here w id
  Polls items here w poll.Overflow = Overflows here w
  Polls items here w poll.NoMemory = Unit {0}
