-- One row of a plan, and rows one after the other, where this has been fetched.
use Rattle.std.specs.Prelude.{◌≡◌, ◌⊎◌, ◌≤◌, ◌++◌, ℕ, Bool, true, false, List, [], ◌∷◌, All, map, length}
use Rattle.scan_values.specs.Marked.{Marked}
use Rattle.scan_values.specs.Selections.{is_among}
use Rattle.scan_values.specs.Val.{Val, marked}
use Rattle.scan_segments.specs.Source.{SourceState, Store, none_live}
use Rattle.scan_splits.specs.Wanted.{no_repeats}
use Rattle.scan_plans.specs.Came.{Came, Holds}
use Rattle.scan_plans.specs.Futures.{FutureData, future_data, future_wanted, future_spoiled, future_overflow}
use Rattle.scan_plans.specs.Masks.{mask_data}
use Rattle.scan_plans.specs.Meaning.{value_at}
use Rattle.scan_plans.specs.PlanData.{PlanData}
use Rattle.scan_plans.specs.Wants.{names_id}
use Rattle.scan_drive.specs.Desks.{Agree}
use Rattle.scan_drive.specs.Drivings.{IsKeptIn, SourceFailed}
use Rattle.scan_drive.specs.Trades.{Trades}
use Rattle.scan_drive.specs.Traffic.{WasAsked}
use Rattle.scan_drive.specs.Wants.{Cache}
use Rattle.scan_fetch.specs.Fetches.{IsTold, Point, IsApart, HasFetched, Leaves, Stays, Goes, StaysIdle}
use Rattle.scan_fetch.specs.declared.fetching.Miss.{Miss}
use Rattle.scan_fetch.specs.declared.fetching.Miss.TheVariants as miss
use Rattle.scan_seek.specs.declared.reading.SeekFault.{SeekFault}
use Rattle.scan_seek.specs.declared.reading.SeekFault.TheVariants as fault

-- a projection of one row
abbrev pub one_row : PlanData → ℕ → FutureData
one_row p row = future_data p row (mask_data (true ∷ []) [])

-- what these rows want may be asked for
abbrev pub MayRead : PlanData → List ℕ → List ℕ → (Store → ℕ → Bool) → Point → Type 0
MayRead p rows name may first =
    (row : ℕ) → is_among rows row ≡ true → (store : Store) → IsTold name store first.source first.cache
    → (here : Came) → Holds store here → (id : ℕ) → names_id id (future_wanted (one_row p row) here) ≡ true → may store id ≡ true

-- what arrived of a segment is no good for a row
pub record IsSpoiled (p : PlanData) (rows : List ℕ) (store : Store) (id : ℕ) : Type 0 where
  pub row : ℕ
  pub listed : is_among rows row ≡ true
  pub here : Came
  pub holds : Holds store here
  pub spoiled : future_spoiled (one_row p row) here id ≡ true

-- a projection of none of these rows overflows
abbrev pub NoneOverflows : PlanData → Store → List ℕ → Type 0
NoneOverflows p store rows = All (λ (row : ℕ). future_overflow (one_row p row) store ≡ false) rows

-- rows are read, from one point to another
module _ (p : PlanData) (rows : List ℕ) (name : List ℕ) (old new : Point) where
  -- whatever comes of it
  pub record LeavesRows : Type 0 where
    pub agree : Agree (new.source).live new.desk
    pub apart : IsApart new
    pub leaves : Leaves (MayRead p rows name) name old new
    pub stays : Stays old new

  -- these are the values of the rows, over a store that was told at a first point
  pub record GivesRows (vs : List Val) : Type 0 where
    pub goes : Goes (MayRead p rows name) name old new
    pub idle : StaysIdle old new
    pub count : length vs ≡ length rows
    pub values : (may : Store → ℕ → Bool) (first : Point) → MayRead p rows name may first → HasFetched may name first old
        → (store : Store) → IsTold name store first.source first.cache → map marked vs ≡ map (value_at p.tree store) rows
    pub within : (may : Store → ℕ → Bool) (first : Point) → MayRead p rows name may first → HasFetched may name first old
        → (store : Store) → IsTold name store first.source first.cache → NoneOverflows p store rows

  -- why they are not read, since a first point
  abbrev pub FailsSince : Point → SeekFault → Type 0
  FailsSince first fault.NoMemory = Unit {0}
  FailsSince first (fault.Source id) = SourceFailed first.source new.source × WasAsked id first.source new.source
  FailsSince first (fault.Corrupt id) = ((store : Store) → IsTold name store first.source first.cache → IsSpoiled p rows store id)
      × (WasAsked id first.source new.source ⊎ IsKeptIn first.cache name id)
  FailsSince first (fault.Overflow row) = (is_among rows row ≡ true)
      × ((store : Store) → IsTold name store first.source first.cache → future_overflow (one_row p row) store ≡ true)

  abbrev pub FailsRows : SeekFault → Type 0
  FailsRows e = (may : Store → ℕ → Bool) (first : Point) → MayRead p rows name may first → HasFetched may name first old → FailsSince first e

-- rows of a plan are read with nothing live before and after
module _ (p : PlanData) (rows : List ℕ) (name : List ℕ) (s : SourceState) where
  abbrev pub AreValuesOf : Cache → List Val → Type 0
  AreValuesOf c vs = (length vs ≡ length rows) × ((store : Store) → IsTold name store s c → map marked vs ≡ map (value_at p.tree store) rows)
      × ((store : Store) → IsTold name store s c → NoneOverflows p store rows)

  abbrev pub HasPlanCause : SourceState → Cache → SeekFault → Type 0
  HasPlanCause t c fault.NoMemory = Unit {0}
  HasPlanCause t c (fault.Source id) = SourceFailed s t × WasAsked id s t
  HasPlanCause t c (fault.Corrupt id) = ((store : Store) → IsTold name store s c → IsSpoiled p rows store id) × (WasAsked id s t ⊎ IsKeptIn c name id)
  HasPlanCause t c (fault.Overflow row) = (is_among rows row ≡ true) × ((store : Store) → IsTold name store s c → future_overflow (one_row p row) store ≡ true)

  -- what the rows want over what has arrived of a store may be asked for
  abbrev pub LetsRead : (Store → ℕ → Bool) → Cache → Type 0
  LetsRead may c = (row : ℕ) → is_among rows row ≡ true → (store : Store) → IsTold name store s c
      → (here : Came) → Holds store here → (id : ℕ) → names_id id (future_wanted (one_row p row) here) ≡ true → may store id ≡ true

  pub record ReadMoves (t : SourceState) (c d : Cache) : Type 0 where
    pub holds : t.holds ≡ s.holds
    pub faults : s.faults ≤ t.faults
    pub turns : t.turns ≤ s.turns
    pub can_fail : t.can_fail ≡ s.can_fail
    pub idle : t.live ≡ none_live
    pub ids : List ℕ
    pub asked : t.asked ≡ s.asked ++ ids
    pub once : no_repeats ids ≡ true
    pub may_be : (may : Store → ℕ → Bool) → LetsRead may c → (store : Store) → IsTold name store s c → (id : ℕ) → is_among ids id ≡ true → may store id ≡ true
    pub trades : Trades name s t c d

-- the same as a fault of reading
abbrev pub of_miss : Miss → SeekFault
of_miss (miss.Source id) = fault.Source id
of_miss miss.NoMemory = fault.NoMemory
