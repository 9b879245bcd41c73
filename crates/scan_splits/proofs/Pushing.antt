-- What pushes add, one after another.
use Rattle.std.proofs.Common.{◌≡◌, ℕ, ◌+◌, List, [], ◌∷◌, ◌++◌, Result, Ok, Err, sym, ap, ◌∙◌, inl, inr, append_assoc, append-nil, arith}
use Rattle.std.specs.List.{Contains}
use Rattle.std.proofs.lemmas.List.{map-append}
use Rattle.std.proofs.lemmas.List.Elements.{Contains-append_left, Contains-append_right, Contains-append_cases}
use Rattle.scan_splits.specs.RowLists.{SameNumbers, shifted, Adds, AddsSome, Pushes}

none_in : {P : Type 0} (n : ℕ) → Contains {X = ℕ} [] n → P
none_in n h = absurd (omega (arith, h.1))

-- nothing is pushed
pub adds_none : (old : List ℕ) → Adds [] old old
adds_none old = record { added = []; grows = sym (append-nil old); same = λ n. (λ h. h, λ h. h) }

pub adds_less : (rows old new : List ℕ) → new ≡ old → AddsSome rows old new
adds_less rows old new same = record { added = []; grows = same ∙ sym (append-nil old); among = λ n h. none_in n h }

-- one row is
pub adds_one : (row : ℕ) (old new : List ℕ) → new ≡ old ++ row ∷ [] → Adds (row ∷ []) old new
adds_one row old new is = record { added = row ∷ []; grows = is; same = λ n. (λ h. h, λ h. h) }

-- the same rows
pub adds_same : (xs ys old new : List ℕ) → SameNumbers xs ys → Adds xs old new → Adds ys old new
adds_same xs ys old new same p = record { added = p.added; grows = p.grows; same = λ n. (λ h. (same n).0 ((p.same n).0 h), λ h. (p.same n).1 ((same n).1 h)) }

pub adds_some_of : (xs ys old new : List ℕ) → ((n : ℕ) → Contains xs n → Contains ys n) → AddsSome xs old new → AddsSome ys old new
adds_some_of xs ys old new among p = record { added = p.added; grows = p.grows; among = λ n h. among n (p.among n h) }

either : (xs ys us vs : List ℕ) (n : ℕ) → (Contains xs n → Contains us n) → (Contains ys n → Contains vs n) → Contains (xs ++ ys) n → Contains (us ++ vs) n
either xs ys us vs n f g h = elim (Contains-append_cases xs ys n h) [ inl x ↦ Contains-append_left us vs n (f x) | inr y ↦ Contains-append_right us vs n (g y) ]

joined : (xs ys old mid new : List ℕ) → mid ≡ old ++ xs → new ≡ mid ++ ys → new ≡ old ++ (xs ++ ys)
joined xs ys old mid new p q = q ∙ ap (λ l. l ++ ys) p ∙ append_assoc old xs ys

-- some rows, and then others
pub adds_then : (xs ys old mid new : List ℕ) → Adds xs old mid → Adds ys mid new → Adds (xs ++ ys) old new
adds_then xs ys old mid new p q = record {
  added = p.added ++ q.added;
  grows = joined p.added q.added old mid new p.grows q.grows;
  same = λ n. (λ h. either p.added q.added xs ys n (p.same n).0 (q.same n).0 h, λ h. either xs ys p.added q.added n (p.same n).1 (q.same n).1 h);
}

pub adds_then_some : (xs ys old mid new : List ℕ) → Adds xs old mid → AddsSome ys mid new → AddsSome (xs ++ ys) old new
adds_then_some xs ys old mid new p q = record {
  added = p.added ++ q.added;
  grows = joined p.added q.added old mid new p.grows q.grows;
  among = λ n h. either p.added q.added xs ys n (p.same n).0 (q.among n) h;
}

-- some of the first of these
pub adds_part : (xs ys old new : List ℕ) → AddsSome xs old new → AddsSome (xs ++ ys) old new
adds_part xs ys old new p = adds_some_of xs (xs ++ ys) old new (λ n h. Contains-append_left xs ys n h) p

pub shifted-append : (offset : ℕ) (xs ys : List ℕ) → shifted offset (xs ++ ys) ≡ shifted offset xs ++ shifted offset ys
shifted-append offset xs ys = map-append (λ row. offset + row) xs ys

-- what is pushed from here on completes the whole
pub record Completes (offset : ℕ) (rest whole old now : List ℕ) : Type 0 where
  pub all : (new : List ℕ) → Adds (shifted offset rest) now new → Adds (shifted offset whole) old new
  pub some : (new : List ℕ) → AddsSome (shifted offset rest) now new → AddsSome (shifted offset whole) old new

module _ (offset : ℕ) (whole old : List ℕ) where
  pub goes_on : (rest xs ys now mid : List ℕ) → rest ≡ xs ++ ys → Completes offset rest whole old now → Adds (shifted offset xs) now mid → Completes offset ys whole old mid
  goes_on rest xs ys now mid e c p =
      let e' = ap (shifted offset) e ∙ shifted-append offset xs ys in
      record {
        all = λ new q. c.all new (rw e' (adds_then (shifted offset xs) (shifted offset ys) now mid new p q));
        some = λ new q. c.some new (rw e' (adds_then_some (shifted offset xs) (shifted offset ys) now mid new p q));
      }

  pub stops : (rest xs ys now new : List ℕ) → rest ≡ xs ++ ys → Completes offset rest whole old now → AddsSome (shifted offset xs) now new → AddsSome (shifted offset whole) old new
  stops rest xs ys now new e c p = c.some new (rw (ap (shifted offset) e ∙ shifted-append offset xs ys) (adds_part (shifted offset xs) (shifted offset ys) now new p))

  pub ends : (rest now : List ℕ) → rest ≡ [] → Completes offset rest whole old now → Adds (shifted offset whole) old now
  ends rest now e c = c.all now (rw e (adds_none now))

-- the rows of two calls, of which the first went well
pub pushes_then : {E : Type 0} (r : Result (Unit {0}) E) (offset : ℕ) (xs ys old mid new : List ℕ) → Adds (shifted offset xs) old mid → Pushes r (shifted offset ys) mid new → Pushes r (shifted offset (xs ++ ys)) old new
pushes_then (Ok u) offset xs ys old mid new p q = rw (shifted-append offset xs ys) (adds_then (shifted offset xs) (shifted offset ys) old mid new p q)
pushes_then (Err e) offset xs ys old mid new p q = rw (shifted-append offset xs ys) (adds_then_some (shifted offset xs) (shifted offset ys) old mid new p q)

-- and of two of which the first was refused
pub shifted_part : (offset : ℕ) (xs ys old new : List ℕ) → AddsSome (shifted offset xs) old new → AddsSome (shifted offset (xs ++ ys)) old new
shifted_part offset xs ys old new p = rw (shifted-append offset xs ys) (adds_part (shifted offset xs) (shifted offset ys) old new p)

pub then_all : (offset : ℕ) (xs ys old mid new : List ℕ) → Adds (shifted offset xs) old mid → Adds (shifted offset ys) mid new → Adds (shifted offset (xs ++ ys)) old new
then_all offset xs ys old mid new p q = rw (shifted-append offset xs ys) (adds_then (shifted offset xs) (shifted offset ys) old mid new p q)

pub then_some : (offset : ℕ) (xs ys old mid new : List ℕ) → Adds (shifted offset xs) old mid → AddsSome (shifted offset ys) mid new → AddsSome (shifted offset (xs ++ ys)) old new
then_some offset xs ys old mid new p q = rw (shifted-append offset xs ys) (adds_then_some (shifted offset xs) (shifted offset ys) old mid new p q)
