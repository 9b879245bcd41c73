-- One step of fetching, and steps one after the other.
use Rattle.std.proofs.Common.{◌≡◌, ◌≤◌, ◌++◌, ◌&&◌, ◌||◌, ℕ, Bool, true, false, not, List, [], ◌∷◌, Some, inl, inr, refl, sym, ap, ◌∙◌, subst, arith, append_assoc, append-nil, eqb}
use Rattle.std.specs.Prelude.{◌⊎◌}
use Rattle.std.proofs.lemmas.Bool.Decides.{nat_tests}
use Rattle.scan_values.specs.Selections.{is_among}
use Rattle.scan_segments.specs.Source.{SourceState, Store}
use Rattle.scan_splits.specs.Wanted.{no_repeats}
use Rattle.scan_drive.specs.Drivings.{IsKeptIn}
use Rattle.scan_drive.specs.Ledger.{KeepsReport}
use Rattle.scan_drive.specs.Trades.{Trusts, Trades}
use Rattle.scan_drive.specs.Wants.{Cache}
use Rattle.scan_drive.specs.declared.report.ScanReport.{ScanReport}
use Rattle.scan_drive.proofs.Balancing.{report_self, report_then}
use Rattle.scan_drive.proofs.Trading.{trades_self, trades_then}
use Rattle.scan_splits.specs.Arrivals.{Agrees}
use Rattle.scan_fetch.specs.Fetches.{IsTold, KeepsCounts, Point, is_live, is_here, HasLeft, HasFetched, MayAsk, Leaves, Stays, IsMet, AreMet, Goes, Misses}
use Rattle.scan_fetch.specs.declared.fetching.Miss.{Miss}
use Rattle.scan_fetch.specs.declared.fetching.Miss.TheVariants as miss

-- ---- lists
among_both : (xs ys : List ℕ) (id : ℕ) → is_among (xs ++ ys) id ≡ (is_among xs id || is_among ys id)
among_both [] ys id = refl
among_both (x ∷ xs) ys id = ap (λ b. eqb x id || b) (among_both xs ys id) ∙ assoc (eqb x id) (is_among xs id) (is_among ys id)
  where
    assoc : (a b c : Bool) → (a || (b || c)) ≡ ((a || b) || c)
    assoc true b c = refl
    assoc false b c = refl

or_cases : (a b : Bool) → (a || b) ≡ true → (a ≡ true) ⊎ (b ≡ true)
or_cases true b e = inl refl
or_cases false b e = inr e

or_left : (a b : Bool) → a ≡ true → (a || b) ≡ true
or_left true b e = refl
or_left false b e = absurd cc

or_right : (a b : Bool) → b ≡ true → (a || b) ≡ true
or_right true b e = refl
or_right false b e = e

or_off : (a b : Bool) → (a || b) ≡ false → a ≡ false
or_off true b e = e
or_off false b e = refl

pub among_left : (xs ys : List ℕ) (id : ℕ) → is_among xs id ≡ true → is_among (xs ++ ys) id ≡ true
among_left xs ys id h = among_both xs ys id ∙ or_left (is_among xs id) (is_among ys id) h

pub among_right : (xs ys : List ℕ) (id : ℕ) → is_among ys id ≡ true → is_among (xs ++ ys) id ≡ true
among_right xs ys id h = among_both xs ys id ∙ or_right (is_among xs id) (is_among ys id) h

pub among_cases : (xs ys : List ℕ) (id : ℕ) → is_among (xs ++ ys) id ≡ true → (is_among xs id ≡ true) ⊎ (is_among ys id ≡ true)
among_cases xs ys id h = or_cases (is_among xs id) (is_among ys id) (sym (among_both xs ys id) ∙ h)

among_off : (xs ys : List ℕ) (id : ℕ) → is_among (xs ++ ys) id ≡ false → is_among xs id ≡ false
among_off xs ys id h = or_off (is_among xs id) (is_among ys id) (sym (among_both xs ys id) ∙ h)

among_self : (x : ℕ) (xs : List ℕ) → is_among (x ∷ xs) x ≡ true
among_self x xs = let is : eqb x x ≡ true = grind (arith, nat_tests) in rw is refl

and_both : (a b : Bool) → (a && b) ≡ true → (a ≡ true) × (b ≡ true)
and_both true b h = (refl, h)
and_both false b h = absurd cc

and_made : (a b : Bool) → a ≡ true → b ≡ true → (a && b) ≡ true
and_made true b h k = k
and_made false b h k = h

is_off : (b : Bool) → not b ≡ true → b ≡ false
is_off true h = sym h
is_off false h = refl

both_off : (a b : Bool) → a ≡ false → (b ≡ true → ⊥) → not (a || b) ≡ true
both_off true b e n = sym e
both_off false true e n = absurd (n refl)
both_off false false e n = refl

-- lists without repeats, none of the second among the first
no_repeats_both : (xs ys : List ℕ) → no_repeats xs ≡ true → no_repeats ys ≡ true → ((id : ℕ) → is_among ys id ≡ true → is_among xs id ≡ true → ⊥) → no_repeats (xs ++ ys) ≡ true
no_repeats_both [] ys p q apart = q
no_repeats_both (x ∷ xs) ys p q apart =
    let parts = and_both (not (is_among xs x)) (no_repeats xs) p in
    and_made (not (is_among (xs ++ ys) x)) (no_repeats (xs ++ ys))
    (ap not (among_both xs ys x) ∙ both_off (is_among xs x) (is_among ys x) (is_off (is_among xs x) parts.0) (λ m. apart x m (among_self x xs)))
    (no_repeats_both xs ys parts.1 q (λ id m n. apart id m (or_right (eqb x id) (is_among xs id) n)))

-- ---- a step
-- What a step does: it asks for ids that are neither live nor here; what arrives was live or is in the cache.
pub record Step (name ids : List ℕ) (p q : Point) : Type 0 where
  pub holds : (q.source).holds ≡ (p.source).holds
  pub faults : (p.source).faults ≤ (q.source).faults
  pub turns : (q.source).turns ≤ (p.source).turns
  pub can_fail : (q.source).can_fail ≡ (p.source).can_fail
  pub more : List ℕ
  pub asked : (q.source).asked ≡ (p.source).asked ++ more
  pub of : (id : ℕ) → is_among more id ≡ true → is_among ids id ≡ true
  pub fresh : (id : ℕ) → is_among more id ≡ true → IsMet p id → ⊥
  pub once : no_repeats more ≡ true
  pub live_is : (id : ℕ) → is_live q id ≡ true → (is_live p id ≡ true) ⊎ (is_among more id ≡ true)
  pub arrives : (id : ℕ) → is_here q id ≡ true → (is_here p id ≡ true) ⊎ ((is_live p id ≡ true) ⊎ IsKeptIn p.cache name id)
  pub kept : (id : ℕ) → IsKeptIn q.cache name id → IsKeptIn p.cache name id ⊎ (is_live p id ≡ true)
  pub tells : (store : Store) → (p.source).holds ≡ Some store → Trusts name store p.cache → Agrees store p.here → Agrees store q.here
  pub trades : Trades name p.source q.source p.cache q.cache

bool_cases : (b : Bool) → (b ≡ true) ⊎ (b ≡ false)
bool_cases true = inl refl
bool_cases false = inr refl

not_both : (b : Bool) → b ≡ true → b ≡ false → ⊥
not_both true p q = absurd cc
not_both false p q = absurd cc

module _ (name ids : List ℕ) (p q : Point) (s : Step name ids p q) (may : Store → ℕ → Bool) (first : Point) (m : MayAsk name ids may first) (f : HasFetched may name first p) where
  abbrev h : HasLeft may name first p
  h = f.left

  was_live : (id : ℕ) → is_live p id ≡ true → is_among (h.ids ++ s.more) id ≡ true
  was_live id l = among_left h.ids s.more id (h.live_asked id l)

  lifted : (id : ℕ) → (is_among h.ids id ≡ true) ⊎ IsKeptIn first.cache name id → (is_among (h.ids ++ s.more) id ≡ true) ⊎ IsKeptIn first.cache name id
  lifted id (inl n) = inl (among_left h.ids s.more id n)
  lifted id (inr k) = inr k

  from_cache : (id : ℕ) → (is_among h.ids id ≡ true) ⊎ (is_among h.ids id ≡ false) → IsKeptIn p.cache name id → (is_among (h.ids ++ s.more) id ≡ true) ⊎ IsKeptIn first.cache name id
  from_cache id (inl n) k = inl (among_left h.ids s.more id n)
  from_cache id (inr n) k = inr (h.kept id n k)

  arrived_so : (id : ℕ) → (is_here p id ≡ true) ⊎ ((is_live p id ≡ true) ⊎ IsKeptIn p.cache name id) → (is_among (h.ids ++ s.more) id ≡ true) ⊎ IsKeptIn first.cache name id
  arrived_so id (inl a) = lifted id (h.arrived id a)
  arrived_so id (inr (inl l)) = inl (was_live id l)
  arrived_so id (inr (inr k)) = from_cache id (bool_cases (is_among h.ids id)) k

  kept_so : (id : ℕ) → is_among (h.ids ++ s.more) id ≡ false → IsKeptIn p.cache name id ⊎ (is_live p id ≡ true) → IsKeptIn first.cache name id
  kept_so id off (inl k) = h.kept id (among_off h.ids s.more id off) k
  kept_so id off (inr l) = absurd (not_both (is_among (h.ids ++ s.more) id) (was_live id l) off)

  live_so : (id : ℕ) → (is_live p id ≡ true) ⊎ (is_among s.more id ≡ true) → is_among (h.ids ++ s.more) id ≡ true
  live_so id (inl l) = was_live id l
  live_so id (inr n) = among_right h.ids s.more id n

  may_so : (store : Store) → IsTold name store first.source first.cache → (id : ℕ) → (is_among h.ids id ≡ true) ⊎ (is_among s.more id ≡ true) → may store id ≡ true
  may_so store told id (inl n) = h.may_be store told id n
  may_so store told id (inr n) = m store id told (s.of id n)

  pub stepped_left : HasLeft may name first q
  stepped_left = record {
    holds = s.holds ∙ h.holds;
    faults = let a = h.faults in let b = s.faults in omega arith;
    turns = let a = h.turns in let b = s.turns in omega arith;
    can_fail = s.can_fail ∙ h.can_fail;
    ids = h.ids ++ s.more;
    asked = s.asked ∙ ap (λ (xs : List ℕ). xs ++ s.more) h.asked ∙ append_assoc (first.source).asked h.ids s.more;
    once = no_repeats_both h.ids s.more h.once s.once (λ id n k. s.fresh id n (f.ends id k));
    live_asked = λ id l. live_so id (s.live_is id l);
    may_be = λ store told id n. may_so store told id (among_cases h.ids s.more id n);
    arrived = λ id a. arrived_so id (s.arrives id a);
    kept = λ id off k. kept_so id off (s.kept id k);
    tells = λ store told. s.tells store (h.holds ∙ told.holds) (h.trades.trusts name store (λ _. told.holds) told.trusts) (h.tells store told);
    trades = trades_then name first.source p.source q.source first.cache p.cache q.cache h.holds h.trades s.trades;
  }

  ends_so : ((id : ℕ) → IsMet p id → IsMet q id) → ((id : ℕ) → is_among s.more id ≡ true → IsMet q id) → (id : ℕ) → (is_among h.ids id ≡ true) ⊎ (is_among s.more id ≡ true) → IsMet q id
  ends_so old new id (inl n) = old id (f.ends id n)
  ends_so old new id (inr n) = new id n

  pub stepped_fetched : ((id : ℕ) → IsMet p id → IsMet q id) → ((id : ℕ) → is_among s.more id ≡ true → IsMet q id) → HasFetched may name first q
  unfolding stepped_left
  stepped_fetched old new = record { left = stepped_left; ends = λ id n. ends_so old new id (among_cases h.ids s.more id n) }

pub step_leaves : (name ids : List ℕ) (p q : Point) → Step name ids p q → Leaves (MayAsk name ids) name p q
step_leaves name ids p q s may first m f = stepped_left name ids p q s may first m f

-- ---- counts
pub counts_self : (name : List ℕ) (s : SourceState) (c : Cache) → KeepsCounts name s s c c
counts_self name s c report = (report, report_self name s c report)

pub counts_then : (name : List ℕ) (s t u : SourceState) (c d e : Cache) → KeepsCounts name s t c d → KeepsCounts name t u d e → KeepsCounts name s u c e
counts_then name s t u c d e p q report =
    let one = p report in
    let two = q one.0 in
    (two.0, report_then name s t u c d e report one.0 two.0 one.1 two.1)

-- ---- steps of which none failed
pub goes_by : (name ids : List ℕ) (p q : Point) (s : Step name ids p q) → ((id : ℕ) → IsMet p id → IsMet q id) → ((id : ℕ) → is_among s.more id ≡ true → IsMet q id)
    → KeepsCounts name p.source q.source p.cache q.cache → Goes (MayAsk name ids) name p q
goes_by name ids p q s old new counts = record { fetches = λ may first m f. stepped_fetched name ids p q s may first m f old new; met = old; counts = counts }

-- what lets calls ask
abbrev pub Lets : Type 1
Lets = (Store → ℕ → Bool) → Point → Type 0

pub goes_self : (lets : Lets) (name : List ℕ) (p : Point) → Goes lets name p p
goes_self lets name p = record { fetches = λ may first m f. f; met = λ id h. h; counts = counts_self name p.source p.cache }

pub leaves_self : (lets : Lets) (name : List ℕ) (p : Point) → Leaves lets name p p
leaves_self lets name p may first m f = f.left

pub stays_self : (p : Point) → Stays p p
stays_self p id h = h

pub stays_then : (p q r : Point) → Stays p q → Stays q r → Stays p r
stays_then p q r a b id h = b id (a id h)

-- what lets the first calls ask lets the later ones ask, where these begin
abbrev pub LetsThen : Lets → Lets → List ℕ → Point → Type 0
LetsThen one two name q = (may : Store → ℕ → Bool) (first : Point) → one may first → HasFetched may name first q → two may first

pub goes_then : (one two : Lets) (name : List ℕ) (p q r : Point) → LetsThen one two name q → Goes one name p q → Goes two name q r → Goes one name p r
goes_then one two name p q r w a b = record {
  fetches = λ may first m f. let g = a.fetches may first m f in b.fetches may first (w may first m g) g;
  met = λ id h. b.met id (a.met id h);
  counts = counts_then name p.source q.source r.source p.cache q.cache r.cache a.counts b.counts;
}

pub leaves_then : (one two : Lets) (name : List ℕ) (p q r : Point) → LetsThen one two name q → Goes one name p q → Leaves two name q r → Leaves one name p r
leaves_then one two name p q r w a b may first m f = let g = a.fetches may first m f in b may first (w may first m g) g

pub misses_then : (one two : Lets) (name : List ℕ) (p q r : Point) → LetsThen one two name q → Goes one name p q → (x : Miss) → Misses two name q r x → Misses one name p r x
misses_then one two name p q r w a (miss.Source id) b = λ may first m f. let g = a.fetches may first m f in b may first (w may first m g) g
misses_then one two name p q r w a miss.NoMemory b = tt

-- no more is asked for than is let
pub less_asked : (name xs ys : List ℕ) (q : Point) → ((id : ℕ) → is_among ys id ≡ true → is_among xs id ≡ true) → LetsThen (MayAsk name xs) (MayAsk name ys) name q
less_asked name xs ys q w may first m g store id told n = m store id told (w id n)

pub none_asked : (one : Lets) (name : List ℕ) (q : Point) → LetsThen one (MayAsk name []) name q
none_asked one name q may first m g store id told n = absurd cc
