-- Every schedule keeps the balance.
use Rattle.std.proofs.Common.{◌≡◌, ℕ, zero, suc, ◌<◌, List, [], ◌∷◌, length, get_or, refl, ◌∙◌, arith}
use mathlib.Core.Option.{some}
use lib.ListN.{get_elem?}
use Rattle.atomic_table.proofs.Lists.{set_else}
use Rattle.scan_limit.specs.declared.budget.Account.{Account}
use Rattle.scan_limit.specs.Budget.{spent, both_accounts, IsBalanced}
use Rattle.scan_limit.specs.Schedule.{Books, Event, looked, claimed, divided, joined, account_at, after, IsAllowed, left_by, WasAllowed}
use Rattle.scan_limit.proofs.Moves.{begins, claim_keeps, splits, joins}

-- a seat has its account
pub account_there : (vs : List Account) (i : ℕ) → i < length vs → get_elem? vs i ≡ some (get_or vs i spent)
account_there [] i h = absurd (omega (arith, h))
account_there (v ∷ vs) zero h = refl
account_there (v ∷ vs) (suc i) h = account_there vs i (omega (arith, h))

-- an allowed step keeps the balance
pub step_keeps : (limit : ℕ) (e : Event) (s : Books) → IsBalanced limit s → IsAllowed e s → IsBalanced limit (after limit e s)
step_keeps limit (looked seat) s h ok = h
step_keeps limit (claimed seat rows) s h ok = claim_keeps limit s seat rows _ (account_at s seat) s.homes h (account_there s.views seat ok.0) ok.1 refl
step_keeps limit (divided seat room) s h ok = splits limit seat room (account_at s seat) ok.1 s h (account_there s.views seat ok.0)
step_keeps limit (joined seat other) s h ok =
    let b : Account = both_accounts (account_at s seat) (account_at s other) in
    joins limit seat other (account_at s seat) (account_at s other) s h (account_there s.views seat ok.0) ok.2 (set_else s.views seat other b ok.2 ∙ account_there s.views other ok.1)

pub schedule_keeps : (limit : ℕ) (past : List Event) → WasAllowed limit past → IsBalanced limit (left_by limit past)
schedule_keeps limit [] ok = begins limit
schedule_keeps limit (e ∷ past) ok = step_keeps limit e (left_by limit past) (schedule_keeps limit past ok.1) ok.0
