-- How a count that is kept up to the greatest u64 moves.
use Rattle.std.specs.Prelude.{ℕ, ◌+◌, ◌-◌, ◌^◌, ◌≤◌, min, Option, None, Some}

-- the count is greater than before, or stands at its greatest value
abbrev pub Rose : ℕ → ℕ → Type 0
Rose before now = min (before + 1) (2 ^ 64 - 1) ≤ now

-- a kept count has risen by so much, or stands at its greatest value
pub record RaisedBy (n before now : ℕ) : Type 0 where
  pub least : min (before + n) (2 ^ 64 - 1) ≤ now
  pub most : now ≤ before + n

-- a count as it is kept
abbrev pub capped : ℕ → ℕ
capped n = min n (2 ^ 64 - 1)

-- the count one higher, or its greatest value
abbrev pub one_more : ℕ → ℕ
one_more n = min (n + 1) (2 ^ 64 - 1)

-- a count that may be told has risen by one
abbrev pub RaisedByOne : Option ℕ → Option ℕ → Type 0
RaisedByOne None None = Unit {0}
RaisedByOne None (Some now) = ⊥
RaisedByOne (Some before) None = ⊥
RaisedByOne (Some before) (Some now) = RaisedBy 1 before now
