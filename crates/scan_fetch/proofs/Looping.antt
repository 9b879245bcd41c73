-- Segments one after the other.
use Rattle.std.proofs.Common.{◌≡◌, ◌≤◌, ◌<◌, ◌+◌, ◌||◌, ℕ, zero, suc, Bool, true, false, List, [], ◌∷◌, drop, length, inl, inr, refl, sym, ap, ◌∙◌, subst, arith, eqb}
use Rattle.std.specs.Prelude.{◌⊎◌}
use Rattle.std.proofs.lemmas.Bool.Decides.{nat_tests}
use Rattle.scan_values.specs.Selections.{is_among}
use Rattle.scan_drive.specs.Desks.{Agree}
use Rattle.scan_fetch.specs.Fetches.{Point, is_live, is_here, IsApart, MayAsk, IsMet, AreMet, AreHere, Leaves, Stays, Goes, MayLive, AreTaken, StaysIdle, Wants, Meets, Takes, Came, Brings, Brought, Misses}
use Rattle.scan_fetch.specs.declared.fetching.Miss.{Miss}
use Rattle.scan_fetch.specs.declared.fetching.Miss.TheVariants as miss
use Rattle.scan_fetch.proofs.Stepping.{goes_self, goes_then, leaves_then, misses_then, less_asked, none_asked, stays_then}

-- ---- lists
pub drop_end : (xs : List ℕ) (i : ℕ) → length xs ≤ i → drop i xs ≡ []
drop_end [] zero le = refl
drop_end [] (suc i) le = refl
drop_end (x ∷ xs) zero le = absurd (omega (arith, le))
drop_end (x ∷ xs) (suc i) le = drop_end xs i (omega (arith, le))

same_number : (m n : ℕ) → eqb m n ≡ true → m ≡ n
same_number m n e = grind (arith, nat_tests)

among_head : (x : ℕ) (xs : List ℕ) → is_among (x ∷ xs) x ≡ true
among_head x xs = let is : eqb x x ≡ true = grind (arith, nat_tests) in rw is refl

-- the first, or one of the others
first_or : (x : ℕ) (xs : List ℕ) (id : ℕ) → is_among (x ∷ xs) id ≡ true → (x ≡ id) ⊎ (is_among xs id ≡ true)
first_or x xs id n = go (eqb x id) refl n
  where
    go : (b : Bool) → eqb x id ≡ b → (b || is_among xs id) ≡ true → (x ≡ id) ⊎ (is_among xs id ≡ true)
    go true e k = inl (same_number x id e)
    go false e k = inr k

one_of : (ids : List ℕ) (x : ℕ) → is_among ids x ≡ true → (id : ℕ) → is_among (x ∷ []) id ≡ true → is_among ids id ≡ true
one_of ids x n id k = go (first_or x [] id k)
  where
    go : (x ≡ id) ⊎ (is_among [] id ≡ true) → is_among ids id ≡ true
    go (inl e) = subst (λ (i : ℕ). is_among ids i ≡ true) e n
    go (inr e) = absurd cc

true_false : (b : Bool) → b ≡ true → b ≡ false → ⊥
true_false true p q = cc
true_false false p q = cc

-- ---- wants, one after the other
-- so much is wanted of ids, of which these are left
pub record Wanting (name ids rest : List ℕ) (p q : Point) : Type 0 where
  pub agree : Agree (q.source).live q.desk
  pub apart : IsApart q
  pub goes : Goes (MayAsk name ids) name p q
  pub lives : MayLive ids p q
  pub stays : Stays p q
  pub met : (id : ℕ) → is_among ids id ≡ true → (is_among rest id ≡ true) ⊎ IsMet q id

pub wanting_first : (name ids : List ℕ) (p : Point) → Agree (p.source).live p.desk → IsApart p → Wanting name ids ids p p
wanting_first name ids p agree apart = record {
  agree = agree;
  apart = apart;
  goes = goes_self (MayAsk name ids) name p;
  lives = λ id l. inl l;
  stays = λ id h. h;
  met = λ id n. inl n;
}

module _ (name ids : List ℕ) (x : ℕ) (rest : List ℕ) (p q r : Point) (w : Wanting name ids (x ∷ rest) p q) (n : is_among ids x ≡ true) where
  lives_so : Wants name (x ∷ []) q r → (id : ℕ) → is_live r id ≡ true → (is_live p id ≡ true) ⊎ (is_among ids id ≡ true)
  lives_so v id l = go (v.lives id l)
    where
      go : (is_live q id ≡ true) ⊎ (is_among (x ∷ []) id ≡ true) → (is_live p id ≡ true) ⊎ (is_among ids id ≡ true)
      go (inl k) = w.lives id k
      go (inr k) = inr (one_of ids x n id k)

  -- one more is wanted, whatever comes of it
  pub wants_then : Wants name (x ∷ []) q r → Wants name ids p r
  wants_then v = record {
    agree = v.agree;
    apart = v.apart;
    leaves = leaves_then (MayAsk name ids) (MayAsk name (x ∷ [])) name p q r (less_asked name ids (x ∷ []) q (one_of ids x n)) w.goes v.leaves;
    lives = lives_so v;
    stays = stays_then p q r w.stays v.stays;
  }

  met_so : Meets name (x ∷ []) q r → (id : ℕ) → (is_among (x ∷ rest) id ≡ true) ⊎ IsMet q id → (is_among rest id ≡ true) ⊎ IsMet r id
  met_so m id (inr k) = inr ((m.goes).met id k)
  met_so m id (inl k) = go (first_or x rest id k)
    where
      go : (x ≡ id) ⊎ (is_among rest id ≡ true) → (is_among rest id ≡ true) ⊎ IsMet r id
      go (inl e) = inr (subst (λ (i : ℕ). IsMet r i) e (m.met x (among_head x [])))
      go (inr l) = inl l

  pub wanting_next : Wants name (x ∷ []) q r → Meets name (x ∷ []) q r → Wanting name ids rest p r
  wanting_next v m = record {
    agree = v.agree;
    apart = v.apart;
    goes = goes_then (MayAsk name ids) (MayAsk name (x ∷ [])) name p q r (less_asked name ids (x ∷ []) q (one_of ids x n)) w.goes m.goes;
    lives = lives_so v;
    stays = stays_then p q r w.stays v.stays;
    met = λ id k. met_so m id (w.met id k);
  }

-- all are wanted
pub wanted_all : (name ids : List ℕ) (p q : Point) → Wanting name ids [] p q → Wants name ids p q × Meets name ids p q
wanted_all name ids p q w = (
  record { agree = w.agree; apart = w.apart; leaves = λ may first m f. ((w.goes).fetches may first m f).left; lives = w.lives; stays = w.stays },
  record { goes = w.goes; met = λ id n. go id (w.met id n) },
)
  where
    go : (id : ℕ) → (is_among [] id ≡ true) ⊎ IsMet q id → IsMet q id
    go id (inl k) = absurd cc
    go id (inr k) = k

-- ---- polls, one after the other
-- of ids that were met so much has arrived, and these are left
pub record Taking (name ids rest : List ℕ) (p q : Point) : Type 0 where
  pub agree : Agree (q.source).live q.desk
  pub apart : IsApart q
  pub goes : Goes (MayAsk name []) name p q
  pub stays : Stays p q
  pub taken : (id : ℕ) → is_live q id ≡ true → (is_live p id ≡ true) × ((is_among ids id ≡ false) ⊎ (is_among rest id ≡ true))
  pub here : (id : ℕ) → is_among ids id ≡ true → (is_among rest id ≡ true) ⊎ (is_here q id ≡ true)

either : (b : Bool) → (b ≡ false) ⊎ (b ≡ true)
either true = inr refl
either false = inl refl

pub taking_first : (name ids : List ℕ) (p : Point) → Agree (p.source).live p.desk → IsApart p → Taking name ids ids p p
taking_first name ids p agree apart = record {
  agree = agree;
  apart = apart;
  goes = goes_self (MayAsk name []) name p;
  stays = λ id h. h;
  taken = λ id l. (l, either (is_among ids id));
  here = λ id n. inl n;
}

module _ (name ids : List ℕ) (x : ℕ) (rest : List ℕ) (p q : Point) (w : Taking name ids (x ∷ rest) p q) where
  -- one that is not live has arrived
  module _ (met : IsMet q x) (off : is_live q x ≡ false) where
    at_x : IsMet q x → is_here q x ≡ true
    at_x (inl l) = absurd (true_false (is_live q x) l off)
    at_x (inr h) = h

    skip_taken : (id : ℕ) → is_live q id ≡ true → (is_among ids id ≡ false) ⊎ (is_among (x ∷ rest) id ≡ true) → (is_among ids id ≡ false) ⊎ (is_among rest id ≡ true)
    skip_taken id l (inl k) = inl k
    skip_taken id l (inr k) = go (first_or x rest id k)
      where
        go : (x ≡ id) ⊎ (is_among rest id ≡ true) → (is_among ids id ≡ false) ⊎ (is_among rest id ≡ true)
        go (inl e) = absurd (true_false (is_live q id) l (ap (is_live q) (sym e) ∙ off))
        go (inr m) = inr m

    skip_here : (id : ℕ) → (is_among (x ∷ rest) id ≡ true) ⊎ (is_here q id ≡ true) → (is_among rest id ≡ true) ⊎ (is_here q id ≡ true)
    skip_here id (inr h) = inr h
    skip_here id (inl k) = go (first_or x rest id k)
      where
        go : (x ≡ id) ⊎ (is_among rest id ≡ true) → (is_among rest id ≡ true) ⊎ (is_here q id ≡ true)
        go (inl e) = inr (subst (λ (i : ℕ). is_here q i ≡ true) e (at_x met))
        go (inr m) = inl m

    pub taking_skip : Taking name ids rest p q
    taking_skip = record {
      agree = w.agree;
      apart = w.apart;
      goes = w.goes;
      stays = w.stays;
      taken = λ id l. let t = w.taken id l in (t.0, skip_taken id l t.1);
      here = λ id n. skip_here id (w.here id n);
    }

  -- one is polled to its end
  module _ (r : Point) (t : Takes name q r) where
    pub takes_then : Takes name p r
    takes_then = record {
      agree = t.agree;
      apart = t.apart;
      leaves = leaves_then (MayAsk name []) (MayAsk name []) name p q r (none_asked (MayAsk name []) name q) w.goes t.leaves;
      stays = stays_then p q r w.stays t.stays;
    }

    pub took_misses : (e : Miss) → Misses (MayAsk name []) name q r e → Misses (MayAsk name []) name p r e
    took_misses e m = misses_then (MayAsk name []) (MayAsk name []) name p q r (none_asked (MayAsk name []) name q) w.goes e m

    module _ (c : Came name (x ∷ []) q r) where
      next_taken : (id : ℕ) → is_live r id ≡ true → (is_among ids id ≡ false) ⊎ (is_among (x ∷ rest) id ≡ true) → (is_among ids id ≡ false) ⊎ (is_among rest id ≡ true)
      next_taken id l (inl k) = inl k
      next_taken id l (inr k) = go (first_or x rest id k)
        where
          go : (x ≡ id) ⊎ (is_among rest id ≡ true) → (is_among ids id ≡ false) ⊎ (is_among rest id ≡ true)
          go (inl e) = absurd (true_false (is_among (x ∷ []) id) (subst (λ (i : ℕ). is_among (x ∷ []) i ≡ true) e (among_head x [])) (c.taken id l).1)
          go (inr m) = inr m

      next_here : (id : ℕ) → (is_among (x ∷ rest) id ≡ true) ⊎ (is_here q id ≡ true) → (is_among rest id ≡ true) ⊎ (is_here r id ≡ true)
      next_here id (inr h) = inr (t.stays id h)
      next_here id (inl k) = go (first_or x rest id k)
        where
          go : (x ≡ id) ⊎ (is_among rest id ≡ true) → (is_among rest id ≡ true) ⊎ (is_here r id ≡ true)
          go (inl e) = inr (subst (λ (i : ℕ). is_here r i ≡ true) e (c.here x (among_head x [])))
          go (inr m) = inl m

      pub taking_next : Taking name ids rest p r
      taking_next = record {
        agree = t.agree;
        apart = t.apart;
        goes = goes_then (MayAsk name []) (MayAsk name []) name p q r (none_asked (MayAsk name []) name q) w.goes c.goes;
        stays = stays_then p q r w.stays t.stays;
        taken = λ id l. let one = c.taken id l in let two = w.taken id one.0 in (two.0, next_taken id l two.1);
        here = λ id n. next_here id (w.here id n);
      }

-- all have arrived
pub taken_all : (name ids : List ℕ) (p q : Point) → Taking name ids [] p q → Takes name p q × Came name ids p q
taken_all name ids p q w = (
  record { agree = w.agree; apart = w.apart; leaves = λ may first m f. ((w.goes).fetches may first m f).left; stays = w.stays },
  record { goes = w.goes; taken = λ id l. let t = w.taken id l in (t.0, off id t.1); here = λ id n. go id (w.here id n) },
)
  where
    off : (id : ℕ) → (is_among ids id ≡ false) ⊎ (is_among [] id ≡ true) → is_among ids id ≡ false
    off id (inl k) = k
    off id (inr k) = absurd cc

    go : (id : ℕ) → (is_among [] id ≡ true) ⊎ (is_here q id ≡ true) → is_here q id ≡ true
    go id (inl k) = absurd cc
    go id (inr k) = k

-- ---- one that is polled again and again
pub record Waits (name : List ℕ) (p q : Point) : Type 0 where
  pub agree : Agree (q.source).live q.desk
  pub apart : IsApart q
  pub goes : Goes (MayAsk name []) name p q
  pub stays : Stays p q
  pub less : (id : ℕ) → is_live q id ≡ true → is_live p id ≡ true

pub waits_first : (name : List ℕ) (p : Point) → Agree (p.source).live p.desk → IsApart p → Waits name p p
waits_first name p agree apart = record { agree = agree; apart = apart; goes = goes_self (MayAsk name []) name p; stays = λ id h. h; less = λ id l. l }

module _ (name : List ℕ) (p q r : Point) (w : Waits name p q) where
  pub waited_takes : Takes name q r → Takes name p r
  waited_takes t = record {
    agree = t.agree;
    apart = t.apart;
    leaves = leaves_then (MayAsk name []) (MayAsk name []) name p q r (none_asked (MayAsk name []) name q) w.goes t.leaves;
    stays = stays_then p q r w.stays t.stays;
  }

  pub waited_came : (ids : List ℕ) → Came name ids q r → Came name ids p r
  waited_came ids c = record {
    goes = goes_then (MayAsk name []) (MayAsk name []) name p q r (none_asked (MayAsk name []) name q) w.goes c.goes;
    taken = λ id l. let t = c.taken id l in (w.less id t.0, t.1);
    here = c.here;
  }

  pub waited_misses : (e : Miss) → Misses (MayAsk name []) name q r e → Misses (MayAsk name []) name p r e
  waited_misses e m = misses_then (MayAsk name []) (MayAsk name []) name p q r (none_asked (MayAsk name []) name q) w.goes e m

  pub waits_on : Takes name q r → Goes (MayAsk name []) name q r → ((id : ℕ) → is_live r id ≡ true → is_live q id ≡ true) → Waits name p r
  waits_on t g less = record {
    agree = t.agree;
    apart = t.apart;
    goes = goes_then (MayAsk name []) (MayAsk name []) name p q r (none_asked (MayAsk name []) name q) w.goes g;
    stays = stays_then p q r w.stays t.stays;
    less = λ id l. w.less id (less id l);
  }

-- ---- wants, and then polls
module _ (name ids : List ℕ) (p q r : Point) (v : Wants name ids p q) (m : Meets name ids p q) where
  pub brings_then : Takes name q r → Brings name ids p r
  brings_then t = record {
    agree = t.agree;
    apart = t.apart;
    leaves = leaves_then (MayAsk name ids) (MayAsk name []) name p q r (none_asked (MayAsk name ids) name q) m.goes t.leaves;
    stays = stays_then p q r v.stays t.stays;
  }

  pub brought_then : Came name ids q r → Brought name ids p r
  brought_then c = record {
    goes = goes_then (MayAsk name ids) (MayAsk name []) name p q r (none_asked (MayAsk name ids) name q) m.goes c.goes;
    idle = λ none id. off none id (either (is_live r id));
    here = c.here;
  }
    where
      wrong : ((id : ℕ) → is_live p id ≡ false) → (id : ℕ) → (is_live p id ≡ true) ⊎ (is_among ids id ≡ true) → is_among ids id ≡ false → ⊥
      wrong none id (inl l) n = true_false (is_live p id) l (none id)
      wrong none id (inr k) n = true_false (is_among ids id) k n

      off : ((id : ℕ) → is_live p id ≡ false) → (id : ℕ) → (is_live r id ≡ false) ⊎ (is_live r id ≡ true) → is_live r id ≡ false
      off none id (inl k) = k
      off none id (inr l) = let t = c.taken id l in absurd (wrong none id (v.lives id t.0) t.1)

  pub missed_then : (e : Miss) → Misses (MayAsk name []) name q r e → Misses (MayAsk name ids) name p r e
  missed_then e k = misses_then (MayAsk name ids) (MayAsk name []) name p q r (none_asked (MayAsk name ids) name q) m.goes e k

pub wants_brings : (name ids : List ℕ) (p q : Point) → Wants name ids p q → Brings name ids p q
wants_brings name ids p q v = record { agree = v.agree; apart = v.apart; leaves = v.leaves; stays = v.stays }
