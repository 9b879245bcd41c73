-- What a stream claims of a limit on rows.
use Rattle.std.specs.Prelude.{◌≡◌, ◌≤◌, ◌+◌, ◌-◌, ◌||◌, ℕ, Bool, false, nat_le, nat_lt, Option, None, Some}
use Rattle.scan_limit.specs.Budget.{most, grant_of}
use Rattle.scan_limit.specs.Seats.{SeatState, after_claim}

-- nothing is granted through a seat any more: the whole limit was, or less than was claimed
abbrev pub is_spent : Option SeatState → Bool
is_spent None = false
is_spent (Some s) = nat_le s.budget.limit s.granted || nat_lt s.granted s.claimed

-- a claim of rows and its grant
pub record Claimed (rows granted : ℕ) (old new : SeatState) : Type 0 where
  pub at_least : grant_of old.budget.limit (most - old.room) rows ≤ granted
  pub at_most : granted ≤ grant_of old.budget.limit old.claimed rows
  pub alone : old.room + old.claimed ≡ most → granted ≡ grant_of old.budget.limit old.claimed rows
  pub seat : new ≡ after_claim rows granted old

-- the same of a seat that may lack: without a limit all rows are granted
abbrev pub Grants : Option SeatState → ℕ → ℕ → Option SeatState → Type 0
Grants None rows granted new = (granted ≡ rows) × (new ≡ None)
Grants (Some s) rows granted new = (t : SeatState) × (new ≡ Some t) × Claimed rows granted s t

-- a seat, where there is one, may claim so many rows
abbrev pub HasRoom : Option SeatState → ℕ → Type 0
HasRoom None rows = Unit {0}
HasRoom (Some s) rows = rows ≤ s.room
