-- A budget under any schedule: the steps of all seats, one after another.
use Rattle.std.specs.Prelude.{◌≡◌, ◌≢◌, min, ℕ, ◌+◌, ◌<◌, ◌≤◌, List, [], ◌∷◌, ◌++◌, length, slice_index, slice_index_or, slice_set}
use Rattle.atomic_table.specs.Table.{State, opening}
use Rattle.scan_limit.specs.declared.budget.Account.{Account}
use Rattle.scan_limit.specs.Budget.{most, grant_of, first_account, with_claim, with_less_room, with_room, both_accounts, spent, total}

-- a budget: its word, and an account for each seat
abbrev pub Books : Type 0
Books = State (Unit {0}) Account

-- one step, with the number of the seat that takes it: a look at the word, a claim of rows, room that goes to a new
-- seat, and another seat's account that is taken over
pub data Event : Type 0 where
  looked : ℕ → Event
  claimed : ℕ → ℕ → Event
  divided : ℕ → ℕ → Event
  joined : ℕ → ℕ → Event

-- the account of a seat
abbrev pub account_at : Books → ℕ → Account
account_at s seat = slice_index_or s.views seat spent

-- the number on the word
abbrev pub word_of : Books → ℕ
word_of s = slice_index s.words 0

-- the budget with these accounts
abbrev pub with_accounts : Books → List Account → Books
with_accounts s accounts = record { words = s.words; homes = s.homes; views = accounts }

-- the budget after one step
abbrev pub after : ℕ → Event → Books → Books
after limit (looked seat) s = s
after limit (claimed seat rows) s =
    record {
      words = slice_set s.words 0 (word_of s + rows);
      homes = s.homes;
      views = slice_set s.views seat (with_claim rows (grant_of limit (word_of s) rows) (account_at s seat));
    }
after limit (divided seat room) s = with_accounts s
    (slice_set s.views seat (with_less_room room (account_at s seat)) ++ with_room room (account_at s seat) ∷ [])
after limit (joined seat other) s = with_accounts s (slice_set (slice_set s.views seat (both_accounts (account_at s seat) (account_at s other))) other spent)

-- rows are claimed and room is divided within the seat's room, and no seat is joined into itself
abbrev pub IsAllowed : Event → Books → Type 0
IsAllowed (looked seat) s = seat < length s.views
IsAllowed (claimed seat rows) s = (seat < length s.views) × (rows ≤ (account_at s seat).room)
IsAllowed (divided seat room) s = (seat < length s.views) × (room ≤ (account_at s seat).room)
IsAllowed (joined seat other) s = (seat < length s.views) × (other < length s.views) × (other ≢ seat)

-- the budget that a schedule leaves, from its first seat on; its latest step stands first
abbrev pub left_by : ℕ → List Event → Books
left_by limit [] = opening (0 ∷ []) [] (first_account limit)
left_by limit (e ∷ past) = after limit e (left_by limit past)

-- each step of the schedule was allowed when it was taken
abbrev pub WasAllowed : ℕ → List Event → Type 0
WasAllowed limit [] = Unit {0}
WasAllowed limit (e ∷ past) = IsAllowed e (left_by limit past) × WasAllowed limit past

-- the claims of all seats
abbrev pub claimed_by_all : Books → ℕ
claimed_by_all s = total (λ v. v.claimed) s.views

-- the grants of all seats
abbrev pub granted_to_all : Books → ℕ
granted_to_all s = total (λ v. v.granted) s.views

-- what the account claimed and may still claim is all that there is
abbrev pub IsWhole : Account → Type 0
IsWhole v = v.room + v.claimed ≡ most

-- the account has all claims, and all grants
abbrev pub HasAll : ℕ → Books → Account → Type 0
HasAll limit s v = (v.claimed ≡ word_of s) × (v.granted ≡ min limit (word_of s))
