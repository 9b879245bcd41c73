-- Places by their files, those that are repeated once.
use Rattle.std.specs.Prelude.{◌≡◌, ◌⊎◌, ℕ, ◌++◌, List, [], ◌∷◌, true, None, Some, cond}
use Rattle.std.specs.List.{slice_get}
use Rattle.std.specs.FinMap as map
use Rattle.scan_values.specs.Selections.{is_among}
use Rattle.scan_places.specs.Walks.{files_of}
use Rattle.scan_places.specs.declared.place.Place.{Place}
use Rattle.scan_lookup.specs.Asked.{rows_at}
use Rattle.scan_lookup.specs.Keyed.{KeyNumbers}
use Rattle.scan_lookup.specs.declared.groups.Group.{Group}
use Rattle.scan_lookup.specs.declared.groups.Slot.{Slot}

-- the group of this number is of this file
pub record IsGroupOf (file n : ℕ) (gs : List Group) : Type 0 where
  pub group : Group
  pub there : slice_get gs n ≡ Some group
  pub is : group.file ≡ file

-- the number that a group keeps of a row is that of its place among the rows, and each row's is kept
pub record HasNumbers (g : Group) : Type 0 where
  pub there : (row n : ℕ) → map.get g.numbers row ≡ Some n → slice_get g.rows.items n ≡ Some row
  pub all : (n row : ℕ) → slice_get g.rows.items n ≡ Some row → map.get g.numbers row ≡ Some n

-- the number that is kept of a file is that of its group, and each group's is kept; so are those of its rows
pub record AreNumbered (m : KeyNumbers) (gs : List Group) : Type 0 where
  pub there : (file n : ℕ) → map.get m file ≡ Some n → IsGroupOf file n gs
  pub all : (n : ℕ) (g : Group) → slice_get gs n ≡ Some g → map.get m g.file ≡ Some n
  pub own : (n : ℕ) (g : Group) → slice_get gs n ≡ Some g → HasNumbers g

-- the row of a place stands at this slot
pub record StandsAt (gs : List Group) (p : Place) (s : Slot) : Type 0 where
  pub of_file : IsGroupOf p.file s.group gs
  pub row : slice_get (of_file.group).rows.items s.place ≡ Some p.row

-- so does that of each place
abbrev pub StandAt : List Group → List Place → List Slot → Type 0
StandAt gs [] [] = Unit {0}
StandAt gs [] (s ∷ ss) = ⊥
StandAt gs (p ∷ ps) [] = ⊥
StandAt gs (p ∷ ps) (s ∷ ss) = StandsAt gs p s × StandAt gs ps ss

-- each group is of a file that places name, and has the rows that they name of it, each once
pub record AreRowsOf (places : List Place) (gs : List Group) : Type 0 where
  pub rows : (n : ℕ) (g : Group) → slice_get gs n ≡ Some g → g.rows.items ≡ rows_at g.file places
  pub named : (n : ℕ) (g : Group) → slice_get gs n ≡ Some g → is_among (files_of places) g.file ≡ true

-- Places are grouped: each file that they name has one group, of all rows that they name of it, each once, in the order of
-- their first places.
pub record AreGrouped (places : List Place) (gs : List Group) (ss : List Slot) : Type 0 where
  pub are : AreRowsOf places gs
  pub once : (i j : ℕ) (g h : Group) → slice_get gs i ≡ Some g → slice_get gs j ≡ Some h → g.file ≡ h.file → i ≡ j
  pub slots : StandAt gs places ss

-- ---- one step of it
-- a group of this file without rows
pub record IsEmptyGroup (file : ℕ) (g : Group) : Type 0 where
  pub of_file : g.file ≡ file
  pub rows : g.rows.items ≡ []
  pub numbers : g.numbers ≡ map.empty

-- a file's group has this number: it had it, or it is new and has no rows; the others stay
pub record HasGroup (file n : ℕ) (old new : List Group) (m m' : KeyNumbers) : Type 0 where
  pub numbers : AreNumbered m' new
  pub own : IsGroupOf file n new
  pub stay : (k : ℕ) (g : Group) → slice_get old k ≡ Some g → slice_get new k ≡ Some g
  pub more : (k : ℕ) (g : Group) → slice_get new k ≡ Some g
      → (slice_get old k ≡ Some g) ⊎ ((g.file ≡ file) × (g.rows.items ≡ []) × (map.get m file ≡ None))
  pub none : (f : ℕ) → map.get m' f ≡ None → map.get m f ≡ None

-- rows, and one more unless it is among them
abbrev pub with_row : List ℕ → ℕ → List ℕ
with_row rows row = cond (is_among rows row) rows (rows ++ row ∷ [])

-- a row has this number in a group: it had it, or it was added
pub record HasMore (n row : ℕ) (old new : Group) : Type 0 where
  pub numbers : HasNumbers new
  pub there : slice_get new.rows.items n ≡ Some row
  pub stay : (k r : ℕ) → slice_get old.rows.items k ≡ Some r → slice_get new.rows.items k ≡ Some r
  pub file : new.file ≡ old.file
  pub rows : new.rows.items ≡ with_row old.rows.items row

-- files of which no number is kept have no rows
abbrev pub NoneLeft : List Place → KeyNumbers → Type 0
NoneLeft places m = (file : ℕ) → map.get m file ≡ None → rows_at file places ≡ []

-- the row of a place stands in the group of its file
pub record Adds (p : Place) (old new : List Group) (m m' : KeyNumbers) (s : Slot) : Type 0 where
  pub numbers : AreNumbered m' new
  pub stands : StandsAt new p s
  pub stay : (q : Place) (t : Slot) → StandsAt old q t → StandsAt new q t
  pub rows : (done : List Place) → NoneLeft done m → AreRowsOf done old → AreRowsOf (done ++ p ∷ []) new
  pub none : (done : List Place) → NoneLeft done m → NoneLeft (done ++ p ∷ []) m'
