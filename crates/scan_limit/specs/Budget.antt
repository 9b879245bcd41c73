-- The budget's word, what its seats know, and the rule that every step keeps.
use Rattle.std.specs.Prelude.{◌≡◌, ℕ, ◌+◌, ◌-◌, ◌<◌, ◌≤◌, min, List, [], ◌∷◌, length, slice_index}
use Rattle.atomic_table.specs.Table.{State, Me, Step}
use Rattle.scan_limit.specs.declared.budget.Account.{Account}

-- the greatest number of rows that can be claimed
abbrev pub most : ℕ
most = 18446744073709551615

-- how many of the rows are granted where so many were claimed before
abbrev pub grant_of : ℕ → ℕ → ℕ → ℕ
grant_of limit before rows = min rows (limit - min limit before)

-- what a seat knows
abbrev pub account : ℕ → ℕ → ℕ → ℕ → Account
account l r c g = record { limit = l; room = r; claimed = c; granted = g }

-- make: the first seat may claim all
abbrev pub first_account : ℕ → Account
first_account l = account l most 0 0

-- claim: the account once so many rows were claimed, and so many of them granted
abbrev pub with_claim : ℕ → ℕ → Account → Account
with_claim rows granted v = account v.limit (v.room - rows) (v.claimed + rows) (v.granted + granted)

-- split: the account that gave room away
abbrev pub with_less_room : ℕ → Account → Account
with_less_room n v = account v.limit (v.room - n) v.claimed v.granted

-- split: the account that was given it
abbrev pub with_room : ℕ → Account → Account
with_room n v = account v.limit n 0 0

-- join: the account that took the other over
abbrev pub both_accounts : Account → Account → Account
both_accounts v w = account v.limit (v.room + w.room) (v.claimed + w.claimed) (v.granted + w.granted)

-- join: the account that is left behind
abbrev pub spent : Account
spent = account 0 0 0 0

-- a count of each account, added up
abbrev pub total : (Account → ℕ) → List Account → ℕ
total f [] = 0
total f (v ∷ vs) = f v + total f vs

-- no account was granted more than it claimed
abbrev pub EachWithin : List Account → Type 0
EachWithin [] = Unit {0}
EachWithin (v ∷ vs) = (v.granted ≤ v.claimed) × EachWithin vs

-- the claims of all seats sum to the word, and their grants to the lesser of limit and word; what may still be claimed fits beside it
pub record IsBalanced (limit : ℕ) (s : State (Unit {0}) Account) : Type 0 where
  pub one : length s.words ≡ 1
  pub fits : slice_index s.words 0 + total (λ v. v.room) s.views ≤ most
  pub claims : total (λ v. v.claimed) s.views ≡ slice_index s.words 0
  pub grants : total (λ v. v.granted) s.views ≡ min limit (slice_index s.words 0)
  pub within : EachWithin s.views

-- what a seat knows of a word that it finds: its claims are in it, its room fits beside it, it was granted no more
-- than it claimed, and where it was granted less the limit is reached
abbrev pub Finds : Account → ℕ → Type 0
Finds v word = (v.claimed ≤ word) × (word + v.room ≤ most) × (v.granted ≤ v.claimed) × (v.granted < v.claimed → v.limit ≤ word)

-- claim: the rows are added to the word, and as many are granted as the limit leaves after the word that was found
abbrev pub Claims : Step (Unit {0}) → Me (Unit {0}) Account → ℕ → Me (Unit {0}) Account → Type 0
Claims s v word w = (w ≡ (with_claim s.first (grant_of v.0.limit word s.first) v.0, v.1)) × Finds v.0 word

-- look: the word is read, and no account changes
abbrev pub Looks : Step (Unit {0}) → Me (Unit {0}) Account → ℕ → Me (Unit {0}) Account → Type 0
Looks s v word w = (w ≡ v) × Finds v.0 word
