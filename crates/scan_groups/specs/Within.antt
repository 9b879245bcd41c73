-- How far from nought numbers may be.
use Rattle.std.specs.Prelude.{◌≤◌, ◌^◌, ℕ, ℤ, List, Option, None, Some, All, unsigned_abs}
use Rattle.scan_groups.specs.declared.sum.Sum.{Sum}

-- a number of 32 bits is no further from nought
abbrev pub IsShort : ℤ → Type 0
IsShort z = unsigned_abs z ≤ 2 ^ 31

-- what is near of a sum is no further from nought than so much
abbrev pub IsWithin : ℕ → Sum → Type 0
IsWithin most s = unsigned_abs s.near ≤ most

-- the same of all of some sums, if anything is known of them
abbrev pub AreWithin : Option ℕ → List Sum → Type 0
AreWithin None ss = Unit {0}
AreWithin (Some most) ss = All (IsWithin most) ss
