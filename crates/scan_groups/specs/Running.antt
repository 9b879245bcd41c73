-- The groups of the rows that have come so far.
use Rattle.std.specs.Prelude.{◌≡◌, ℕ, ◌+◌, ◌<◌, ◌≤◌, List, ◌++◌, Option, None, Some, Bool, false, map, All, get_or, length}
use Rattle.std.specs.List.{list_any, slice_get}
use Rattle.std.specs.BTreeMap.{BTreeMap, values}
use Rattle.scan_values.specs.Val.{Val, null_val}
use Rattle.scan_groups.specs.Rows.{Row, group_of, IsFirstPast}
use Rattle.scan_groups.specs.Places.{ArePlaces, place_of}
use Rattle.scan_groups.specs.Totals.{IsTotalOf, is_past, length_of, measured_by, place_read, total_val, val_at}
use Rattle.scan_groups.specs.declared.measure.Measured.{Measured}
use Rattle.scan_groups.specs.declared.tally.Tally.{Tally}
use Rattle.scan_groups.specs.declared.group.Group.{Group}
use Rattle.scan_groups.specs.declared.groups.Groups.{Groups}
use Rattle.scan_groups.specs.declared.fault.GroupsFault.{GroupsFault}
use Rattle.scan_groups.specs.declared.fault.GroupsFault.TheVariants.{SumRange, NoMemory}

-- these are the groups of the rows that came, by keys of so many values
pub record AreOf (keys : ℕ) (ms : List Measured) (rows : List Row) (g : Groups) : Type 0 where
  pub measures : map measured_by g.tallies.items ≡ ms
  pub places : ArePlaces keys rows g.places
  pub short : All (λ t. length_of t ≤ g.places.count) g.tallies.items
  pub totals : (k : List Val) (p : ℕ) → place_of g.places k ≡ Some p → All (IsTotalOf (group_of rows k) p) g.tallies.items

-- the totals at a place: the first so many have further rows, too
pub record AreTotals (ts : List Tally) (p : ℕ) (rows run : List Row) (n : ℕ) : Type 0 where
  pub first : (j : ℕ) (t : Tally) → j < n → j < length ts → IsTotalOf (rows ++ run) p (get_or ts j t)
  pub rest : (j : ℕ) (t : Tally) → n ≤ j → j < length ts → IsTotalOf rows p (get_or ts j t)

-- Groups of rows on the way: the keys of further rows have their places, and so many measures have read them.
pub record IsUnder (keys : ℕ) (ms : List Measured) (rows run : List Row) (given : List ℕ) (n : ℕ) (g : Groups) : Type 0 where
  pub measures : map measured_by g.tallies.items ≡ ms
  pub places : ArePlaces keys (rows ++ run) g.places
  pub short : All (λ t. length_of t ≤ g.places.count) g.tallies.items
  pub even : length run ≡ length given
  pub each : (j : ℕ) (row : Row) → j < length run → place_of g.places (get_or run j row).key ≡ Some (get_or given j 0)
  pub totals : (k : List Val) (p : ℕ) → place_of g.places k ≡ Some p → AreTotals g.tallies.items p (group_of rows k) (group_of run k) n

-- how many measures there are, and the place of what one of them reads
abbrev pub count_of : Groups → ℕ
count_of g = length g.tallies.items

abbrev pub measures_in : Groups → List Measured
measures_in g = map measured_by g.tallies.items

abbrev pub place_in : Option Measured → Option ℕ
place_in None = None
place_in (Some m) = place_read m

abbrev pub reads_in : List Measured → ℕ → Option ℕ
reads_in ms measure = place_in (slice_get ms measure)

-- what is read at a place; null where nothing is
abbrev pub val_in : Option ℕ → List Val → Val
val_in None reads = null_val
val_in (Some place) reads = get_or reads place null_val

-- the rows of these keys have these places
pub record HavePlaces (keys : ℕ) (ks : List (List Val)) (given : List ℕ) (old new : Groups) : Type 0 where
  pub measures : measures_in new ≡ measures_in old
  pub even : length given ≡ length ks
  pub begins : (ms : List Measured) (rows run : List Row) → AreOf keys ms rows old → map (λ (row : Row). row.key) run ≡ ks → IsUnder keys ms rows run given 0 new

-- a measure has read these values of further rows, whose groups have these places
pub record HasRead (measure : ℕ) (given : List ℕ) (vs : List Val) (old new : Groups) : Type 0 where
  pub measures : measures_in new ≡ measures_in old
  pub reads : (keys : ℕ) (ms : List Measured) (rows run : List Row) → IsUnder keys ms rows run given measure old
      → map (val_at (reads_in ms measure)) run ≡ vs → IsUnder keys ms rows run given (measure + 1) new

-- whether some group's total of a measure is a sum that is neither an i64 nor a u64
abbrev pub is_past_at : Option Tally → ℕ → Bool
is_past_at None p = false
is_past_at (Some t) p = is_past p t

abbrev pub is_past_in : BTreeMap (List Val) ℕ → Option Tally → Bool
is_past_in keys t = list_any (is_past_at t) (values keys)

-- the group of a key, by its place
abbrev pub made_of : List Tally → List Val × ℕ → Group
made_of ts e = record { key = e.0; measures = map (total_val e.1) ts }

-- why groups have no values
abbrev pub HasGroupsCause : List Measured → List Row → GroupsFault → Type 0
HasGroupsCause ms rows (SumRange measure) = IsFirstPast ms rows measure
HasGroupsCause ms rows NoMemory = Unit {0}
