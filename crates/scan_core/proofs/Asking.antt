-- What a projection and a filter ask for.
use Rattle.std.proofs.Common.{◌≡◌, ◌≤◌, ◌&&◌, ◌==◌, ℕ, Bool, true, false, List, [], ◌∷◌, IfSome, Option, Some, None, ◌∙◌, sym, arith}
use Rattle.std.proofs.lemmas.Bool.Decides.{nat_tests}
use Rattle.std.specs.Borrow.{Bor}
use Rattle.scan_values.specs.DataType.{DataType}
use Rattle.scan_expr.specs.Bound.{Bound}
use Rattle.scan_core.specs.Boundaries.{has_ends}
use Rattle.scan_core.specs.BuilderData.{AreBoundaries, IsFilter, lent_filter}
use Rattle.scan_core.specs.RowRanges.{UpTo}
use Rattle.scan_core.specs.SplitRanges.{last_from}

pub same_scopes : (d : DataType) (p : Bound) (f : Option (Bor Bound)) → p.scope ≡ d → IfSome (lent_filter f) (IsFilter d) → IfSome f (λ e. (e.now).scope ≡ p.scope)
same_scopes d p None e h = tt
same_scopes d p (Some f) e h = (h.over).scope ∙ sym e

-- ---- boundaries
up_to : (n lo hi : ℕ) (bs : List ℕ) → has_ends lo hi bs ≡ true → hi ≤ n → UpTo n bs
up_to n lo hi [] h l = cc
up_to n lo hi (x ∷ xs) h l = let e : last_from x xs ≡ hi = grind (arith, nat_tests, and_right (x == lo) (last_from x xs == hi) h) in omega (arith, e, l)
  where
    and_right : (a b : Bool) → (a && b) ≡ true → b ≡ true
    and_right true b h = h
    and_right false b h = cc

pub bounds_up : (n lo hi : ℕ) (bs : List ℕ) → AreBoundaries lo hi bs → hi ≤ n → UpTo n bs
bounds_up n lo hi bs h l = up_to n lo hi bs h.ends l
