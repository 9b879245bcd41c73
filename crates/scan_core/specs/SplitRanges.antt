-- The ranges of a scan's splits.
use Rattle.std.specs.Prelude.{◌≡◌, ◌≤◌, ◌<◌, ℕ, ◌+◌, nat_lt, min, max, true, List, [], ◌∷◌, ◌++◌, filter, if◌then◌else◌, Option, Some, None}
use Rattle.std.specs.declared.ops.Range.{Range}
use Rattle.scan_values.specs.StrictSorted.{is_rising}
use Rattle.scan_values.specs.declared.selection.Selection.{Selection}
use Rattle.scan_values.specs.declared.selection.Selection.TheVariants.{All, IncludeByIndex, ExcludeByIndex}
use Rattle.scan_layout.specs.Edges.{is_inside}

abbrev pub rows : ℕ → ℕ → Range ℕ
rows start end = record { start = start; end = end }

-- the ranges between neighbours
abbrev pub neighbours : List ℕ → List (Range ℕ)
neighbours [] = []
neighbours (x ∷ []) = []
neighbours (x ∷ y ∷ ys) = rows x y ∷ neighbours (y ∷ ys)

-- the boundaries that lie strictly inside a range
abbrev pub inside : Range ℕ → List ℕ → List ℕ
inside r bs = filter (is_inside r.start r.end) bs

-- a range with rows, cut at the boundaries inside it
abbrev pub cut_at : List ℕ → Range ℕ → List (Range ℕ)
cut_at bs r = if nat_lt r.start r.end then neighbours (r.start ∷ inside r bs ++ r.end ∷ []) else []

-- the ranges of the splits at boundaries, within a range or all
abbrev pub split_ranges : List ℕ → Option (Range ℕ) → List (Range ℕ)
split_ranges bs None = neighbours bs
split_ranges bs (Some r) = cut_at bs r

-- the rows in both of two ranges, of which each may be all
abbrev pub common : Option (Range ℕ) → Option (Range ℕ) → Option (Range ℕ)
common None b = b
common (Some a) None = Some a
common (Some a) (Some b) = Some (rows (max a.start b.start) (min a.end b.end))

-- from the first to the last of numbers
abbrev pub last_from : ℕ → List ℕ → ℕ
last_from x [] = x
last_from x (y ∷ ys) = last_from y ys

abbrev pub spanned : List ℕ → Range ℕ
spanned [] = rows 0 0
spanned (x ∷ xs) = rows x (last_from x xs + 1)

-- the rows from the first to the last that a selection names, of those below a number; all where it names none
abbrev pub span_of : Selection → ℕ → Option (Range ℕ)
span_of All n = None
span_of (IncludeByIndex []) n = None
span_of (IncludeByIndex (x ∷ xs)) n = Some (spanned (filter (λ i. nat_lt i n) (x ∷ xs)))
span_of (ExcludeByIndex xs) n = None

-- ranges with rows that follow each other from a row up to another
abbrev pub Follow : ℕ → ℕ → List (Range ℕ) → Type 0
Follow start end [] = start ≡ end
Follow start end (r ∷ rs) = (r.start ≡ start) × (r.start < r.end) × Follow r.end end rs

-- ---- laws
-- the splits of a range follow each other from its first row to its last
abbrev pub SplitsOfARangeFollow : Type 0
SplitsOfARangeFollow = (bs : List ℕ) (r : Range ℕ) → is_rising bs ≡ true → r.start ≤ r.end → Follow r.start r.end (split_ranges bs (Some r))

-- and those of all rows from the first boundary to the last
abbrev pub SplitsOfAllFollow : Type 0
SplitsOfAllFollow = (x : ℕ) (xs : List ℕ) → is_rising (x ∷ xs) ≡ true → Follow x (last_from x xs) (split_ranges (x ∷ xs) None)
