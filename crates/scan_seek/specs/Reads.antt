-- What reading rows of a file means, why it fails, and what it does to the file's source and to the cache.
use Rattle.std.specs.Prelude.{◌≡◌, ◌⊎◌, ◌≤◌, ◌+◌, ◌++◌, ℕ, Bool, true, false, List, All, map, length, []}
use Rattle.std.specs.List.{list_any}
use Rattle.scan_values.specs.Marked.{Marked}
use Rattle.scan_values.specs.Selections.{is_among}
use Rattle.scan_values.specs.Val.{Val, marked}
use Rattle.scan_expr.specs.Bound.{Bound}
use Rattle.scan_expr.specs.Eval.{eval}
use Rattle.scan_expr.specs.Overflow.{overflows}
use Rattle.scan_segments.specs.Source.{SourceState, Store, none_live}
use Rattle.scan_layout.specs.Layout.{Layout}
use Rattle.scan_layout.specs.RowValue.{row_value}
use Rattle.scan_layout.specs.Touched.{touched}
use Rattle.scan_splits.specs.Wanted.{no_repeats}
use Rattle.scan_plans.specs.Wants.{names_id}
use Rattle.scan_readers.specs.LeafPlans.{layout_state}
use Rattle.scan_readers.specs.PlanOf.{needed_places, may_want, may_spoil}
use Rattle.scan_drive.specs.Drivings.{IsKeptIn, SourceFailed}
use Rattle.scan_drive.specs.Trades.{Trades}
use Rattle.scan_drive.specs.Traffic.{WasAsked}
use Rattle.scan_drive.specs.Wants.{Cache}
use Rattle.scan_fetch.specs.Fetches.{IsTold}
use Rattle.scan_seek.specs.KeptData.{KeptData, unopened, skipped, flawed, ready}
use Rattle.scan_seek.specs.declared.reading.SeekFault.{SeekFault}
use Rattle.scan_seek.specs.declared.reading.SeekFault.TheVariants as fault

-- ---- of one row of a layout
-- the value of an expression
abbrev pub value_at : Layout → Bound → Store → ℕ → Marked
value_at l e store row = eval e.scope e.expr (row_value l store row) row

-- whether it overflows
abbrev pub overflows_at : Layout → Bound → Store → ℕ → Bool
overflows_at l e store row = overflows e.scope e.expr (row_value l store row) row

-- whether the row touches a segment of this id, where the expression needs it
abbrev pub touches : Layout → Bound → Store → ℕ → ℕ → Bool
touches l e store row id = may_want (layout_state [] l) e store row (row + 1) id

-- whether such a segment is missing, does not decode, or holds a bad offset
abbrev pub spoils : Layout → Bound → Store → ℕ → ℕ → Bool
spoils l e store row id = may_spoil (layout_state [] l) e store row (row + 1) id

-- ---- of rows of what is kept of a file
abbrev pub values_of : KeptData → Store → List ℕ → List Marked
values_of (ready l e) store rows = map (value_at l e store) rows
values_of _ store rows = []

abbrev pub any_overflows : KeptData → Store → ℕ → Bool
any_overflows (ready l e) store row = overflows_at l e store row
any_overflows _ store row = false

abbrev pub any_touches : KeptData → List ℕ → Store → ℕ → Bool
any_touches (ready l e) rows store id = list_any (λ row. touches l e store row id) rows
any_touches _ rows store id = false

abbrev pub any_spoils : KeptData → List ℕ → Store → ℕ → Bool
any_spoils (ready l e) rows store id = list_any (λ row. spoils l e store row id) rows
any_spoils _ rows store id = false

-- rows of what is kept of a file are read, by its source of this name and a cache, as these were
module _ (k : KeptData) (rows : List ℕ) (name : List ℕ) (s : SourceState) where
  -- What values are that are read.
  pub record AreRead (c : Cache) (vs : List Val) : Type 0 where
    pub count : length vs ≡ length rows
    -- over a store that is told: they are those of the rows, in order, none damaged
    pub values : (store : Store) → IsTold name store s c → map marked vs ≡ values_of k store rows
    -- and the expression overflows at none of the rows
    pub no_overflow : (store : Store) → IsTold name store s c → All (λ (row : ℕ). any_overflows k store row ≡ false) rows

  -- why they are not read, where the source is left so
  abbrev pub HasSeekCause : SourceState → Cache → SeekFault → Type 0
  HasSeekCause t c fault.NoMemory = Unit {0}
  HasSeekCause t c (fault.Source id) = SourceFailed s t × WasAsked id s t
  HasSeekCause t c (fault.Corrupt id) = ((store : Store) → IsTold name store s c → any_spoils k rows store id ≡ true)
      × (WasAsked id s t ⊎ IsKeptIn c name id)
  HasSeekCause t c (fault.Overflow row) = (is_among rows row ≡ true)
      × ((store : Store) → IsTold name store s c → any_overflows k store row ≡ true)

  -- What reading leaves, whatever comes of it.
  pub record SeekMoves (t : SourceState) (c d : Cache) : Type 0 where
    pub holds : t.holds ≡ s.holds
    pub faults : s.faults ≤ t.faults
    pub turns : t.turns ≤ s.turns
    pub can_fail : t.can_fail ≡ s.can_fail
    -- no request is live
    pub idle : t.live ≡ none_live
    -- each id was asked for once
    pub ids : List ℕ
    pub asked : t.asked ≡ s.asked ++ ids
    pub once : no_repeats ids ≡ true
    -- over a store that is told: a row touches each of these segments, where the expression needs it
    pub touched : (store : Store) → IsTold name store s c → (id : ℕ) → is_among ids id ≡ true → any_touches k rows store id ≡ true
    -- what the cache keeps is as before or what the source has, and the ledger of asks, lookups and puts is kept
    pub trades : Trades name s t c d
