-- Ranges of so many rows, and what a selection picks of them.
use Rattle.std.specs.Prelude.{◌≤◌, ◌-◌, ℕ, min, ◌||◌, ◌&&◌, nat_lt, nat_le, Bool, false, List, [], ◌∷◌, filter, Option, Some, None}
use Rattle.std.specs.declared.ops.Range.{Range}
use Rattle.scan_values.specs.declared.selection.Selection.{Selection}
use Rattle.scan_values.specs.declared.selection.Selection.TheVariants.{All, IncludeByIndex, ExcludeByIndex}
use Rattle.scan_core.specs.SplitRanges.{last_from, spanned}

-- a range is reversed, or ends past so many rows
abbrev pub is_past : Option (Range ℕ) → ℕ → Bool
is_past None n = false
is_past (Some r) n = nat_lt r.end r.start || nat_lt n r.end

-- no more of so many rows are in a range, or in all
abbrev pub most_in : Option (Range ℕ) → ℕ → ℕ
most_in None n = n
most_in (Some r) n = min n (r.end - r.start)

-- a range of so many rows
abbrev pub IsRange : ℕ → Range ℕ → Type 0
IsRange n r = (r.start ≤ r.end) × (r.end ≤ n)

abbrev pub AreRanges : ℕ → List (Range ℕ) → Type 0
AreRanges n [] = Unit {0}
AreRanges n (r ∷ rs) = IsRange n r × AreRanges n rs

-- no range is reversed
abbrev pub AreForward : List (Range ℕ) → Type 0
AreForward [] = Unit {0}
AreForward (r ∷ rs) = (r.start ≤ r.end) × AreForward rs

-- the last of numbers, where there is one, is at most another
abbrev pub UpTo : ℕ → List ℕ → Type 0
UpTo n [] = Unit {0}
UpTo n (x ∷ xs) = last_from x xs ≤ n

-- a row lies in a range
abbrev pub is_in : Range ℕ → ℕ → Bool
is_in r i = nat_le r.start i && nat_lt i r.end

-- the rows of a range from the first to the last that are named, where a selection names rows; none where none is
abbrev pub narrowed : Selection → Range ℕ → Range ℕ
narrowed All r = r
narrowed (IncludeByIndex xs) r = spanned (filter (is_in r) xs)
narrowed (ExcludeByIndex xs) r = r
