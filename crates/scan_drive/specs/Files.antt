-- What is told of files, and the groups of rows that a scan of them gives.
use Rattle.std.specs.Prelude.{ℕ, ◌+◌, ◌-◌, Bool, List, [], ◌∷◌, ◌++◌, Option, None, Some, IfSome, IsSome, All, map, take, length, slice_index_or}
use Rattle.std.specs.List.{flat_map}
use Rattle.scan_segments.specs.Source.{Store}
use Rattle.scan_values.specs.DataType.{DataType}
use Rattle.scan_values.specs.Marked.{Marked}
use Rattle.scan_drive.specs.Splits.{Event, wants, spoils}

-- a row of a file: its number, the dtype of its value, and the value
abbrev pub Item : Type 0
Item = ℕ × (DataType × Marked)

-- a file, as its opener tells it: how many rows it has, those of each of its splits over a store, the ids that may be
-- asked, those whose segments are no good, and whether an evaluation overflows
pub record Part (I : Type 0) : Type 0 where
  pub row_count : ℕ
  pub splits : Store → List (List I)
  pub named : Store → ℕ → Bool
  pub bad : Store → ℕ → Bool
  pub overflow : Store → Bool

-- some rows of a file that stand together: those of one split
abbrev pub Group : Type 0 → Type 0
Group I = ℕ × List I

module _ {I : Type 0} where
  -- what a file's split may come to
  abbrev pub allows : Part I → Store → Event → Bool
  allows p store (wants id) = p.named store id
  allows p store (spoils id) = p.bad store id

  -- the rows of a split of a file, a group where there are any
  abbrev pub grouped : ℕ → List I → List (Group I)
  grouped file [] = []
  grouped file (x ∷ xs) = (file, x ∷ xs) ∷ []

  -- how many rows there are in groups
  abbrev pub count : List (Group I) → ℕ
  count [] = 0
  count (g ∷ gs) = length g.1 + count gs

  -- the first rows of groups, at most so many
  abbrev pub cut : ℕ → List (Group I) → List (Group I)
  cut n [] = []
  cut n (g ∷ gs) = grouped g.0 (take n g.1) ++ cut (n - length g.1) gs

  -- the same, where there is a limit
  abbrev pub limited : Option ℕ → List (Group I) → List (Group I)
  limited None gs = gs
  limited (Some n) gs = cut n gs

  -- the rows of a group, by file
  abbrev pub placed : Group I → List (ℕ × I)
  placed g = map (λ x. (g.0, x)) g.1

  -- the rows of groups, one after the other
  abbrev pub flattened : List (Group I) → List (ℕ × I)
  flattened gs = flat_map placed gs

-- what a file's opener and its source tell
pub record Told (I : Type 0) : Type 0 where
  pub part : Option (Part I)
  pub store : Option Store

module _ {I : Type 0} where
  -- of this file nothing is told
  abbrev pub untold : Told I
  untold = record { part = None; store = None }

  -- what is told of the file at a place
  abbrev pub told_at : List (Told I) → ℕ → Told I
  told_at tale k = slice_index_or tale k untold

  -- groups over a told store
  abbrev pub over : Option Store → (Store → List (Group I)) → List (Group I)
  over None f = []
  over (Some store) f = f store

  -- the groups of a part over a store
  abbrev pub part_over : ℕ → Part I → Store → List (Group I)
  part_over place p store = flat_map (grouped place) (p.splits store)

  -- the groups of a part over a store, where both are told
  abbrev pub part_in : ℕ → Option (Part I) → Option Store → List (Group I)
  part_in place None o = []
  part_in place (Some p) o = over o (part_over place p)

  -- the groups of a file
  abbrev pub part_groups : ℕ → Told I → List (Group I)
  part_groups place t = part_in place t.part t.store

  -- the groups of files, the first of which has this place
  abbrev pub answer_from : ℕ → List (Told I) → List (Group I)
  answer_from place [] = []
  answer_from place (t ∷ ts) = part_groups place t ++ answer_from (place + 1) ts

  -- the groups of all files, in their order
  abbrev pub answer : List (Told I) → List (Group I)
  answer tale = answer_from 0 tale

  -- the opener and the source tell
  abbrev pub Tells : Told I → Type 0
  Tells t = IsSome t.part × IsSome t.store

  -- each opener and each source tells
  abbrev pub AllTell : List (Told I) → Type 0
  AllTell tale = All Tells tale

  -- the openers tell
  abbrev pub AllGive : List (Told I) → Type 0
  AllGive tale = All (λ (t : Told I). IsSome t.part) tale

  -- where both are told, this holds of the part and the store
  abbrev pub IfTold : Told I → (Part I → Store → Type 0) → Type 0
  IfTold t P = IfSome t.part (λ p. IfSome t.store (λ store. P p store))
