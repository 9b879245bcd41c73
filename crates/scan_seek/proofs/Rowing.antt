-- Rows of a plan: what they want is brought until they are read.
use Rattle.std.proofs.Common.{◌≡◌, ◌<◌, ◌≤◌, ◌+◌, ◌++◌, ◌&&◌, ◌||◌, ℕ, zero, suc, Bool, true, false, List, [], ◌∷◌, Option, Some, None, is_some, is_none, map, take, drop, length, get_or, inl, inr, refl, sym, ap, ◌∙◌, subst, arith, append-nil, eqb}
use Rattle.std.specs.Prelude.{◌⊎◌, option_map}
use Rattle.std.specs.FinMap as map
use Rattle.std.proofs.lemmas.Bool.Decides.{nat_tests}
use Rattle.std.proofs.lemmas.List.Elements.{All-nil, All-cons, All-append}
use Rattle.scan_values.specs.Arrays.{ArrayData}
use Rattle.scan_values.specs.Marked.{Marked}
use Rattle.scan_values.specs.Selections.{is_among}
use Rattle.scan_values.specs.Val.{Val, marked}
use Rattle.scan_segments.specs.Source.{SourceState, Store}
use Rattle.scan_splits.specs.Arrivals.{Arrivals, Agrees, content}
use Rattle.scan_splits.specs.Wanted.{is_any}
use Rattle.scan_splits.specs.declared.inbox.Arrival.{Arrival}
use Rattle.scan_plans.specs.Came.{Came, came, arrived, Holds}
use Rattle.scan_plans.specs.Futures.{FutureData, GivesItems, future_may, future_wanted, future_spoiled, future_overflow}
use Rattle.scan_plans.specs.Given.{AreLacking}
use Rattle.scan_plans.specs.Meaning.{value_at}
use Rattle.scan_plans.specs.PlanData.{PlanData}
use Rattle.scan_plans.specs.Wants.{names_id, lacks}
use Rattle.scan_plans.proofs.Later.{holds_later}
use Rattle.scan_drive.specs.Drivings.{IsKeptIn, SourceFailed}
use Rattle.scan_drive.specs.Measures.{distinct}
use Rattle.scan_drive.specs.Splits as split
use Rattle.scan_drive.specs.Traffic.{WasAsked}
use Rattle.scan_drive.proofs.Counting.{fewer}
use Rattle.scan_drive.proofs.Failing.{asked_ids}
use Rattle.scan_streams.proofs.Settling.{future_named}
use Rattle.scan_drive.specs.Desks.{Agree}
use Rattle.scan_fetch.specs.Fetches.{IsTold, Point, is_here, IsApart, HasLeft, HasFetched, MayAsk, Leaves, Stays, AreHere, Goes, StaysIdle, Brings, Brought, Misses}
use Rattle.scan_fetch.specs.declared.fetching.Miss.{Miss}
use Rattle.scan_fetch.specs.declared.fetching.Miss.TheVariants as miss
use Rattle.scan_seek.specs.Rows.{one_row, NoneOverflows, MayRead, IsSpoiled, LeavesRows, GivesRows, FailsSince, FailsRows, of_miss}
use Rattle.scan_seek.specs.declared.reading.SeekFault.{SeekFault}
use Rattle.scan_seek.specs.declared.reading.SeekFault.TheVariants as fault
use Rattle.scan_seek.proofs.Spoiling.{spoiled_here}
use Rattle.scan_fetch.proofs.Stepping.{Lets, LetsThen, goes_self, goes_then, leaves_then, misses_then, stays_then}

-- what has arrived is what the store has
holds_so : (store : Store) (a : Arrivals) → Agrees store a → Holds store (came a)
holds_so store a h id bytes e = go (map.get a id) refl e
  where
    go : (o : Option Arrival) → map.get a id ≡ o → option_map content o ≡ Some bytes → store id ≡ bytes
    go None q k = absurd cc
    go (Some v) q k = let is : content v ≡ bytes = cc in h id v q ∙ is

-- ---- what is wanted
and_both : (a b : Bool) → (a && b) ≡ true → (a ≡ true) × (b ≡ true)
and_both true b h = (refl, h)
and_both false b h = absurd cc

-- ids that lack are named
lacking_named : (f : FutureData) (here : Came) (ids : List ℕ) → AreLacking (future_wanted f here) here ids → (id : ℕ) → is_among ids id ≡ true → (names_id id (future_wanted f here) ≡ true) × (is_none (here id) ≡ true)
lacking_named f here ids l id n = and_both (names_id id (future_wanted f here)) (is_none (here id)) (sym (l.exact id) ∙ n)

among_one : (row : ℕ) (rows : List ℕ) → is_among (row ∷ rows) row ≡ true
among_one row rows = let is : eqb row row ≡ true = grind (arith, nat_tests) in rw is refl

-- what a row wants may be asked for
pub row_asks : (p : PlanData) (row : ℕ) (name : List ℕ) (q : Point) (ids : List ℕ) → AreLacking (future_wanted (one_row p row) (came q.here)) (came q.here) ids
    → LetsThen (MayRead p (row ∷ []) name) (MayAsk name ids) name q
row_asks p row name q ids l may first m f store id told n =
    m row (among_one row []) store told (came q.here) (holds_so store q.here (f.left.tells store told)) id (lacking_named (one_row p row) (came q.here) ids l id n).0

-- ---- nearer to the end
lacks_so : (a : Arrivals) (id : ℕ) → is_none (came a id) ≡ split.lacks a id
lacks_so a id = go (map.get a id)
  where
    go : (o : Option Arrival) → is_none (option_map content o) ≡ is_none o
    go None = refl
    go (Some v) = refl

none_of_some : (o : Option Arrival) → is_some o ≡ true → is_none o ≡ false
none_of_some None e = absurd cc
none_of_some (Some v) e = refl

some_of_none : (o : Option Arrival) → is_none o ≡ false → is_some o ≡ true
some_of_none None e = absurd cc
some_of_none (Some v) e = refl

lacks_less : (a b : Arrivals) (id : ℕ) → (is_some (map.get a id) ≡ true → is_some (map.get b id) ≡ true) → split.lacks b id ≡ true → split.lacks a id ≡ true
lacks_less a b id s l = go (split.lacks a id) refl
  where
    go : (x : Bool) → split.lacks a id ≡ x → split.lacks a id ≡ true
    go true e = e
    go false e = let there = none_of_some (map.get b id) (s (some_of_none (map.get a id) e)) in let bad : true ≡ false = sym l ∙ there in absurd cc

first_of : (ids : List ℕ) → is_any ids ≡ true → (id : ℕ) × (is_among ids id ≡ true)
first_of [] a = absurd cc
first_of (id ∷ ids) a = (id, among_one id ids)

-- once what lacks has arrived, fewer of the ids that a row may want lack
pub nearer : (p : PlanData) (row : ℕ) (old new : Point) (ids : List ℕ) → AreLacking (future_wanted (one_row p row) (came old.here)) (came old.here) ids → Stays old new → AreHere ids new
    → distinct (split.lacks new.here) (future_may (one_row p row)) < distinct (split.lacks old.here) (future_may (one_row p row))
nearer p row old new ids l s h =
    let one = first_of ids l.some in
    let named = lacking_named (one_row p row) (came old.here) ids l one.0 one.1 in
    let less = fewer (split.lacks new.here) (split.lacks old.here) (future_may (one_row p row)) (future_may (one_row p row)) one.0
    (λ id n k. (n, lacks_less old.here new.here id (s id) k))
    (future_named (one_row p row) (came old.here) one.0 named.0)
    (sym (lacks_so old.here one.0) ∙ named.1)
    (none_of_some (map.get new.here one.0) (h one.0 one.1)) in
    omega (arith, less)

-- ---- what is read
head_of : (x y : Marked) → x ∷ [] ≡ y ∷ [] → x ≡ y
head_of x y e = ap (λ (ms : List Marked). get_or ms 0 x) e

pub row_count : (p : PlanData) (row : ℕ) (here : Came) (a : ArrayData) → GivesItems here (one_row p row) a → length a.items ≡ 1
row_count p row here a g = sym (length-marked a.items) ∙ ap length (g.items (arrived here) (holds_later here here (λ id bytes h. h)))
  where
    length-marked : (vs : List Val) → length (map marked vs) ≡ length vs
    length-marked [] = refl
    length-marked (v ∷ vs) = ap suc (length-marked vs)

-- ---- why a row is not read
some_here : (a : Arrivals) (id : ℕ) → is_none (came a id) ≡ false → is_some (map.get a id) ≡ true
some_here a id e = some_of_none (map.get a id) (sym (lacks_so a id) ∙ e)

asked_or_kept : (may : Store → ℕ → Bool) (name : List ℕ) (first q : Point) (h : HasLeft may name first q) (id : ℕ) → (is_among h.ids id ≡ true) ⊎ IsKeptIn first.cache name id
    → WasAsked id first.source q.source ⊎ IsKeptIn first.cache name id
asked_or_kept may name first q h id (inl n) = inl (asked_ids id first.source q.source h.ids h.asked n)
asked_or_kept may name first q h id (inr k) = inr k

pub row_spoiled : (p : PlanData) (row : ℕ) (name : List ℕ) (may : Store → ℕ → Bool) (first q : Point) (id : ℕ) → HasFetched may name first q → future_spoiled (one_row p row) (came q.here) id ≡ true
    → ((store : Store) → IsTold name store first.source first.cache → IsSpoiled p (row ∷ []) store id) × (WasAsked id first.source q.source ⊎ IsKeptIn first.cache name id)
row_spoiled p row name may first q id f s = (
  λ store told. record { row = row; listed = among_one row []; here = came q.here; holds = holds_so store q.here (f.left.tells store told); spoiled = s },
  asked_or_kept may name first q f.left id (f.left.arrived id (some_here q.here id (spoiled_here (one_row p row) (came q.here) id s))),
)

-- ---- a row that is read, by turns of polls and of what these want
pub record Reading (lets : Lets) (name : List ℕ) (p q : Point) : Type 0 where
  pub agree : Agree (q.source).live q.desk
  pub apart : IsApart q
  pub goes : Goes lets name p q
  pub idle : StaysIdle p q
  pub stays : Stays p q

pub reading_first : (lets : Lets) (name : List ℕ) (p : Point) → Agree (p.source).live p.desk → IsApart p → Reading lets name p p
reading_first lets name p agree apart = record { agree = agree; apart = apart; goes = goes_self lets name p; idle = λ none. none; stays = λ id h. h }

pub reading_next : (lets : Lets) (name ids : List ℕ) (p q r : Point) → Reading lets name p q → LetsThen lets (MayAsk name ids) name q → Brings name ids q r → Brought name ids q r → Reading lets name p r
reading_next lets name ids p q r w l b t = record {
  agree = b.agree;
  apart = b.apart;
  goes = goes_then lets (MayAsk name ids) name p q r l w.goes t.goes;
  idle = λ none. t.idle (w.idle none);
  stays = stays_then p q r w.stays b.stays;
}

pub reading_misses : (lets : Lets) (name ids : List ℕ) (p q r : Point) → Reading lets name p q → LetsThen lets (MayAsk name ids) name q → (e : Miss) → Misses (MayAsk name ids) name q r e → Misses lets name p r e
reading_misses lets name ids p q r w l e m = misses_then lets (MayAsk name ids) name p q r l w.goes e m

module _ (pl : PlanData) (rows : List ℕ) (name : List ℕ) (p : Point) where
  pub leaves_here : (q : Point) → Reading (MayRead pl rows name) name p q → LeavesRows pl rows name p q
  leaves_here q w = record { agree = w.agree; apart = w.apart; leaves = λ may first m f. ((w.goes).fetches may first m f).left; stays = w.stays }

  pub leaves_after : (ids : List ℕ) (q r : Point) → Reading (MayRead pl rows name) name p q → LetsThen (MayRead pl rows name) (MayAsk name ids) name q → Brings name ids q r → LeavesRows pl rows name p r
  leaves_after ids q r w l b = record {
    agree = b.agree;
    apart = b.apart;
    leaves = leaves_then (MayRead pl rows name) (MayAsk name ids) name p q r l w.goes b.leaves;
    stays = stays_then p q r w.stays b.stays;
  }

  pub fails_missed : (r : Point) (e : Miss) → Misses (MayRead pl rows name) name p r e → FailsRows pl rows name p r (of_miss e)
  fails_missed r (miss.Source id) m may first l f = m may first l f
  fails_missed r miss.NoMemory m may first l f = tt

-- a row that is read
pub gives_row : (pl : PlanData) (row : ℕ) (name : List ℕ) (p q : Point) (a : ArrayData) (v : Val) → Reading (MayRead pl (row ∷ []) name) name p q → GivesItems (came q.here) (one_row pl row) a → a.items ≡ v ∷ []
    → GivesRows pl (row ∷ []) name p q (v ∷ [])
gives_row pl row name p q a v w g e = record {
  goes = w.goes;
  idle = w.idle;
  count = refl;
  values = λ may first m f store told. ap (map marked) (sym e) ∙ g.items store (holds_so store q.here (((w.goes).fetches may first m f).left.tells store told));
  within = λ may first m f store told.
      All-cons (λ (i : ℕ). future_overflow (one_row pl i) store ≡ false) row [] (g.within store (holds_so store q.here (((w.goes).fetches may first m f).left.tells store told)))
      (All-nil (λ (i : ℕ). future_overflow (one_row pl i) store ≡ false));
}

-- a row at which a segment is no good, or the expression overflows
pub fails_spoiled : (pl : PlanData) (row : ℕ) (name : List ℕ) (p q : Point) (id : ℕ) → Reading (MayRead pl (row ∷ []) name) name p q → future_spoiled (one_row pl row) (came q.here) id ≡ true
    → FailsRows pl (row ∷ []) name p q (fault.Corrupt id)
fails_spoiled pl row name p q id w s may first m f = row_spoiled pl row name may first q id ((w.goes).fetches may first m f) s

pub fails_overflow : (pl : PlanData) (row : ℕ) (name : List ℕ) (p q : Point) → Reading (MayRead pl (row ∷ []) name) name p q
    → ((store : Store) → Holds store (came q.here) → future_overflow (one_row pl row) store ≡ true) → FailsRows pl (row ∷ []) name p q (fault.Overflow row)
fails_overflow pl row name p q w o may first m f = (among_one row [], λ store told. o store (holds_so store q.here (((w.goes).fetches may first m f).left.tells store told)))

-- ---- rows one after the other
listed_in : (rows : List ℕ) (row r : ℕ) → is_among rows row ≡ true → is_among (row ∷ []) r ≡ true → is_among rows r ≡ true
listed_in rows row r n k = same (eqb row r) refl k
  where
    same : (b : Bool) → eqb row r ≡ b → (b || false) ≡ true → is_among rows r ≡ true
    same true e z = let is : row ≡ r = grind (arith, nat_tests) in subst (λ (i : ℕ). is_among rows i ≡ true) is n
    same false e z = absurd cc

pub one_of_rows : (pl : PlanData) (rows : List ℕ) (row : ℕ) (name : List ℕ) (q : Point) → is_among rows row ≡ true → LetsThen (MayRead pl rows name) (MayRead pl (row ∷ []) name) name q
one_of_rows pl rows row name q n may first m f r k store told here h id w = m r (listed_in rows row r n k) store told here h id w

-- so many rows are read, with these values
pub record ReadingRows (pl : PlanData) (rows done : List ℕ) (name : List ℕ) (p q : Point) (vs : List Val) : Type 0 where
  pub reading : Reading (MayRead pl rows name) name p q
  pub count : length vs ≡ length done
  pub values : (may : Store → ℕ → Bool) (first : Point) → MayRead pl rows name may first → HasFetched may name first p
      → (store : Store) → IsTold name store first.source first.cache → map marked vs ≡ map (value_at pl.tree store) done
  pub within : (may : Store → ℕ → Bool) (first : Point) → MayRead pl rows name may first → HasFetched may name first p
      → (store : Store) → IsTold name store first.source first.cache → NoneOverflows pl store done

map_append : {X Y : Type 0} (f : X → Y) (xs ys : List X) → map f (xs ++ ys) ≡ map f xs ++ map f ys
map_append f [] ys = refl
map_append f (x ∷ xs) ys = ap (λ zs. f x ∷ zs) (map_append f xs ys)

length_snoc : {X : Type 0} (xs : List X) (x : X) → length (xs ++ x ∷ []) ≡ length xs + 1
length_snoc [] x = refl
length_snoc (y ∷ xs) x = let ih = length_snoc xs x in omega (arith, ih)

module _ (pl : PlanData) (rows done : List ℕ) (row : ℕ) (name : List ℕ) (p q r : Point) (vs : List Val) (w : ReadingRows pl rows done name p q vs) (n : is_among rows row ≡ true) where
  one : LetsThen (MayRead pl rows name) (MayRead pl (row ∷ []) name) name q
  one = one_of_rows pl rows row name q n

  pub rows_leaves : LeavesRows pl (row ∷ []) name q r → LeavesRows pl rows name p r
  rows_leaves l = record {
    agree = l.agree;
    apart = l.apart;
    leaves = leaves_then (MayRead pl rows name) (MayRead pl (row ∷ []) name) name p q r one (w.reading).goes l.leaves;
    stays = stays_then p q r (w.reading).stays l.stays;
  }

  pub rows_next : LeavesRows pl (row ∷ []) name q r → (v : Val) → GivesRows pl (row ∷ []) name q r (v ∷ []) → ReadingRows pl rows (done ++ row ∷ []) name p r (vs ++ v ∷ [])
  rows_next l v g = record {
    reading = record {
      agree = l.agree;
      apart = l.apart;
      goes = goes_then (MayRead pl rows name) (MayRead pl (row ∷ []) name) name p q r one (w.reading).goes g.goes;
      idle = λ none. g.idle ((w.reading).idle none);
      stays = stays_then p q r (w.reading).stays l.stays;
    };
    count = length_snoc vs v ∙ ap (λ (k : ℕ). k + 1) w.count ∙ sym (length_snoc done row);
    values = λ may first m f store told.
        let g' = ((w.reading).goes).fetches may first m f in
        map_append marked vs (v ∷ [])
        ∙ ap (λ (ms : List Marked). ms ++ map marked (v ∷ [])) (w.values may first m f store told)
        ∙ ap (λ (ms : List Marked). map (value_at pl.tree store) done ++ ms) (g.values may first (one may first m g') g' store told)
        ∙ sym (map_append (value_at pl.tree store) done (row ∷ []));
    within = λ may first m f store told.
        let g' = ((w.reading).goes).fetches may first m f in
        All-append (λ (i : ℕ). future_overflow (one_row pl i) store ≡ false) done (row ∷ []) (w.within may first m f store told) (g.within may first (one may first m g') g' store told);
  }

  -- a fault of one of the rows is a fault of the rows
  pub rows_fail : (e : SeekFault) → FailsRows pl (row ∷ []) name q r e → FailsRows pl rows name p r e
  rows_fail e k may first m f = let g' = ((w.reading).goes).fetches may first m f in more e (k may first (one may first m g') g')
    where
      more : (x : SeekFault) → FailsSince pl (row ∷ []) name q r first x → FailsSince pl rows name p r first x
      more fault.NoMemory h = tt
      more (fault.Source id) h = h
      more (fault.Corrupt id) h = (
        λ store told. let z = h.0 store told in record { row = z.row; listed = listed_in rows row z.row n z.listed; here = z.here; holds = z.holds; spoiled = z.spoiled },
        h.1,
      )
      more (fault.Overflow i) h = (listed_in rows row i n h.0, h.1)

pub rows_first : (pl : PlanData) (rows : List ℕ) (name : List ℕ) (p : Point) → Agree (p.source).live p.desk → IsApart p → ReadingRows pl rows [] name p p []
rows_first pl rows name p agree apart = record {
  reading = reading_first (MayRead pl rows name) name p agree apart;
  count = refl;
  values = λ may first m f store told. refl;
  within = λ may first m f store told. All-nil (λ (i : ℕ). future_overflow (one_row pl i) store ≡ false);
}

pub rows_done : (pl : PlanData) (rows : List ℕ) (name : List ℕ) (p q : Point) (vs : List Val) → ReadingRows pl rows rows name p q vs → GivesRows pl rows name p q vs
rows_done pl rows name p q vs w = record { goes = (w.reading).goes; idle = (w.reading).idle; count = w.count; values = w.values; within = w.within }

-- ---- lists
pub take_next : (xs : List ℕ) (i d : ℕ) → i < length xs → take (i + 1) xs ≡ take i xs ++ get_or xs i d ∷ []
take_next [] i d lt = absurd (omega arith)
take_next (x ∷ xs) zero d lt = refl
take_next (x ∷ xs) (suc i) d lt = let e : suc i + 1 ≡ suc (i + 1) = omega arith in ap (λ (k : ℕ). take k (x ∷ xs)) e ∙ ap (λ (ys : List ℕ). x ∷ ys) (take_next xs i d (omega arith))

pub take_whole : (xs : List ℕ) (i : ℕ) → length xs ≤ i → take i xs ≡ xs
take_whole [] zero le = refl
take_whole [] (suc i) le = refl
take_whole (x ∷ xs) zero le = absurd (omega (arith, le))
take_whole (x ∷ xs) (suc i) le = ap (λ (ys : List ℕ). x ∷ ys) (take_whole xs i (omega (arith, le)))

pub map_push : {X Y : Type 0} (f : X → Y) (xs : List X) (x : X) → map f (xs ++ x ∷ []) ≡ map f xs ++ f x ∷ []
map_push f xs x = map_append f xs (x ∷ [])
