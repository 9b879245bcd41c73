-- Groups of rows on the way: one measure after the other reads the further rows.
use Rattle.std.proofs.Common.{◌≡◌, ◌⊎◌, inl, inr, ℕ, zero, suc, ◌+◌, ◌<◌, ◌≤◌, Bool, true, false, cond, List, [], ◌∷◌, ◌++◌, length, get_or, set, map, refl, sym, ap, ◌∙◌, subst, arith}
use Rattle.std.specs.Prelude.{◌==◌, Option, None, Some, All, Result, Ok, Err, IfOk, replicate}
use Rattle.std.specs.List.{slice_get}
use Rattle.std.proofs.lemmas.Bool.{eqb-true, eqb-false}
use Rattle.std.proofs.lemmas.List.{map-append, map-set, set-set, set-get_or, length-set, length-map, get_or-set_same, get_or-set_other, get_or-map, get_or_default, get_or-replicate, length-replicate}
use Rattle.std.proofs.lemmas.List.Elements.{filter-append, All-weaker}
use Rattle.scan_values.specs.Val.{Val, null_val}
use Rattle.scan_groups.specs.Order.{same_key, are_scalars}
use Rattle.scan_groups.specs.Rows.{Row, group_of}
use Rattle.scan_groups.specs.Places.{ArePlaces, IsPlace, PlacedAll, place_of}
use Rattle.scan_groups.specs.Totals.{IsMore, IsSum, IsTotal, IsTotalOf, no_sum, length_of, measured_by, picked, place_read, val_at, vals_read}
use Rattle.scan_groups.specs.Running.{AreOf, AreTotals, HavePlaces, IsUnder, reads_in, val_in}
use Rattle.scan_groups.specs.declared.groups.Groups.{Groups}
use Rattle.scan_groups.specs.declared.measure.Measured.{Measured}
use Rattle.scan_groups.specs.declared.places.Places.{Places}
use Rattle.scan_groups.specs.declared.tally.Tally.{Tally}
use Rattle.scan_groups.specs.declared.tally.Tally.TheVariants as tally
use Rattle.scan_values.specs.Values.{val_of}
use Rattle.scan_values.specs.declared.memory.NoMemory.{NoMemory}
use Rattle.scan_groups.proofs.Exact.{same_exact}
use Rattle.scan_groups.proofs.Placing.{some_same, not_none, less_or_not, keys_long, keyless_all, keyless_place}

-- ---- the further rows of a group are those at its place
same_test : (p : Places) (k l : List Val) (q i : ℕ) → ((a b : List Val) (n : ℕ) → place_of p a ≡ Some n → place_of p b ≡ Some n → same_key a b ≡ true) → are_scalars k ≡ true
    → place_of p k ≡ Some q → place_of p l ≡ Some i → (q == i) ≡ same_key k l
same_test p k l q i apart scalar e f = go (same_key k l) refl (q == i) refl
  where
    go : (b : Bool) → same_key k l ≡ b → (c : Bool) → (q == i) ≡ c → c ≡ b
    go true s true t = refl
    go false s false t = refl
    go true s false t = absurd (eqb-false q i t (some_same q i (sym e ∙ ap (place_of p) (same_exact k l scalar s) ∙ f)))
    go false s true t = absurd (let z : false ≡ true = sym s ∙ apart k l i (e ∙ ap Some (eqb-true q i t)) f in cc)

pub picked_group : (p : Places) (f : Row → Val) (k : List Val) (i : ℕ) → place_of p k ≡ Some i → ((a b : List Val) (n : ℕ) → place_of p a ≡ Some n → place_of p b ≡ Some n → same_key a b ≡ true)
    → (run : List Row) (given : List ℕ) → length run ≡ length given → All (λ (row : Row). are_scalars row.key ≡ true) run
    → ((j : ℕ) (row : Row) → j < length run → place_of p (get_or run j row).key ≡ Some (get_or given j 0)) → picked i given (map f run) ≡ map f (group_of run k)
picked_group p f k i at apart [] [] e scalars each = refl
picked_group p f k i at apart [] (q ∷ qs) e scalars each = absurd (omega (arith, e))
picked_group p f k i at apart (r ∷ rs) [] e scalars each = absurd (omega (arith, e))
picked_group p f k i at apart (r ∷ rs) (q ∷ qs) e scalars each =
    let rest : picked i qs (map f rs) ≡ map f (group_of rs k) =
    picked_group p f k i at apart rs qs (omega (arith, e)) (λ n d lt. scalars (suc n) d (omega (arith, lt))) (λ j row lt. each (suc j) row (omega (arith, lt))) in
    go (same_key r.key k) refl (same_test p r.key k q i apart (scalars 0 r (omega arith)) (each 0 r (omega arith)) at) rest
  where
    go : (b : Bool) → same_key r.key k ≡ b → (q == i) ≡ same_key r.key k → picked i qs (map f rs) ≡ map f (group_of rs k)
        → cond (q == i) (f r ∷ picked i qs (map f rs)) (picked i qs (map f rs)) ≡ map f (cond (same_key r.key k) (r ∷ group_of rs k) (group_of rs k))
    go true s t rest = rw (t, s) (ap (λ vs. f r ∷ vs) rest)
    go false s t rest = rw (t, s) rest

group_append : (rows run : List Row) (k : List Val) → group_of (rows ++ run) k ≡ group_of rows k ++ group_of run k
group_append rows run k = filter-append (λ (r : Row). same_key r.key k) rows run

all_second : {A : Type 0} (P : A → Type 0) (xs ys : List A) → All P (xs ++ ys) → All P ys
all_second P [] ys h = h
all_second P (x ∷ xs) ys h = all_second P xs ys (λ n d lt. h (suc n) d (omega (arith, lt)))

-- ---- the places of a run stand, and nothing is read yet
pub past_end : {A : Type 0} (xs : List A) (p : ℕ) (d : A) → length xs ≤ p → get_or xs p d ≡ d
past_end [] zero d le = refl
past_end [] (suc p) d le = refl
past_end (x ∷ xs) zero d le = absurd (omega (arith, le))
past_end (x ∷ xs) (suc p) d le = past_end xs p d (omega (arith, le))

pub fresh_total : (t : Tally) (p : ℕ) → length_of t ≤ p → IsTotal t p []
fresh_total (tally.Count ns) p le = past_end ns p 0 le
fresh_total (tally.Values at ns) p le = past_end ns.items p 0 le
fresh_total (tally.Sum at ss) p le = subst (λ s. IsSum s []) (sym (past_end ss p no_sum le)) (record { any = refl; parts = refl })
fresh_total (tally.Least at us) p le = past_end (map val_of us.items) p null_val (let e = length-map us.items val_of in omega (arith, e, le))
fresh_total (tally.Greatest at us) p le = past_end (map val_of us.items) p null_val (let e = length-map us.items val_of in omega (arith, e, le))

pub under_begins : (keys : ℕ) (ms : List Measured) (rows run : List Row) (given : List ℕ) (old new : Groups) → AreOf keys ms rows old → new.tallies ≡ old.tallies
    → length run ≡ length given → PlacedAll keys rows run old.places new.places given → IsUnder keys ms rows run given 0 new
under_begins keys ms rows run given old new h same even placed = record {
  measures = ap (λ v. map measured_by v.items) same ∙ h.measures;
  places = placed.places;
  short = subst (λ v. All (λ t. length_of t ≤ new.places.count) v.items) (sym same)
      (All-weaker (λ t. length_of t ≤ old.places.count) (λ t. length_of t ≤ new.places.count) (λ t le. let m = placed.extends.more in omega (arith, le, m)) old.tallies.items h.short);
  even = even;
  each = placed.each;
  totals = λ k p e. record {
    first = λ j t lt _. absurd (omega (arith, lt));
    rest = λ j t _ lt. subst (λ v. IsTotalOf (group_of rows k) p (get_or v.items j t)) (sym same)
        (rest k p (placed.extends.fresh k p e) j t (subst (λ v. j < length v.items) same lt));
  };
}
  where
    none : (k : List Val) (o : Option ℕ) → o ≡ None → IsPlace keys rows k o → group_of rows k ≡ []
    none k None e q = q.0
    none k (Some i) e q = absurd (not_none (Some i) i refl e)

    rest : (k : List Val) (p : ℕ) → (place_of old.places k ≡ Some p) ⊎ ((place_of old.places k ≡ None) × (old.places.count ≤ p)) → (j : ℕ) (t : Tally) → j < length old.tallies.items
        → IsTotalOf (group_of rows k) p (get_or old.tallies.items j t)
    rest k p (inl e) j t lt = h.totals k p e j t lt
    rest k p (inr n) j t lt = subst (λ (xs : List Row). IsTotalOf xs p (get_or old.tallies.items j t)) (sym (none k (place_of old.places k) n.0 (h.places.at k)))
        (fresh_total (get_or old.tallies.items j t) p (let le = h.short j t lt in omega (arith, le, n.1)))

-- ---- one measure
replaced_measures : (ts : List Tally) (n : ℕ) (c t : Tally) → n < length ts → measured_by t ≡ measured_by (get_or ts n t) → map measured_by (set (set ts n c) n t) ≡ map measured_by ts
replaced_measures ts n c t lt e =
    ap (map measured_by) (set-set ts n c t) ∙ map-set measured_by ts n t ∙ ap (set (map measured_by ts) n) (e ∙ sym (get_or-map measured_by ts n t (measured_by t) lt)) ∙ set-get_or (map measured_by ts) n (measured_by t)

pub measures_kept : (ts : List Tally) (n : ℕ) (c t : Tally) → n < length ts → measured_by t ≡ measured_by (get_or ts n t) → map measured_by (set (set ts n c) n t) ≡ map measured_by ts
measures_kept = replaced_measures

reads_at : (ts : List Tally) (n : ℕ) (d : Tally) → n < length ts → reads_in (map measured_by ts) n ≡ place_read (measured_by (get_or ts n d))
reads_at [] n d lt = absurd (omega (arith, lt))
reads_at (t ∷ ts) zero d lt = refl
reads_at (t ∷ ts) (suc n) d lt = reads_at ts n d (omega (arith, lt))

pub reads_there : (ts : List Tally) (n : ℕ) (d : Tally) → n < length ts → reads_in (map measured_by ts) n ≡ place_read (measured_by (get_or ts n d))
reads_there = reads_at

pub places_below : (keys : ℕ) (ms : List Measured) (rows run : List Row) (given : List ℕ) (n : ℕ) (g : Groups) → IsUnder keys ms rows run given n g → All (λ p. p < g.places.count) given
places_below keys ms rows run given n g h = λ j d lt.
    let l : j < length run = (let e = h.even in omega (arith, e, lt)) in
    let row : Row = record { key = []; read = [] } in
    subst (λ p. p < g.places.count) (get_or_default given j 0 d lt) (h.places.below (get_or run j row).key (get_or given j 0) (h.each j row l))

pub measure_more : (keys : ℕ) (ms : List Measured) (rows run : List Row) (given : List ℕ) (n groups : ℕ) (old new : Groups) (c t : Tally) (vs : List Val)
    → IsUnder keys ms rows run given n old → map (val_at (reads_in ms n)) run ≡ vs → n < length old.tallies.items → groups ≤ old.places.count
    → IsMore (get_or old.tallies.items n t) given vs groups t → new.places ≡ old.places → new.tallies.items ≡ set (set old.tallies.items n c) n t → IsUnder keys ms rows run given (n + 1) new
measure_more keys ms rows run given n groups old new c t vs h column lt most more same put = record {
  measures = ap (map measured_by) put ∙ replaced_measures ts n c t lt more.of ∙ h.measures;
  places = subst (ArePlaces keys (rows ++ run)) (sym same) h.places;
  short = subst (λ (q : Places). All (λ u. length_of u ≤ q.count) new.tallies.items) (sym same) (subst (λ us. All (λ u. length_of u ≤ old.places.count) us) (sym put) short);
  even = h.even;
  each = λ j row l. ap (λ q. place_of q (get_or run j row).key) same ∙ h.each j row l;
  totals = λ k p e. subst (λ us. AreTotals us p (group_of rows k) (group_of run k) (n + 1)) (sym put) (totals k p (ap (λ q. place_of q k) (sym same) ∙ e));
}
  where
    ts : List Tally
    ts = old.tallies.items

    us : List Tally
    us = set (set ts n c) n t

    long : length us ≡ length ts
    long = length-set (set ts n c) n t ∙ length-set ts n c

    here : (d : Tally) → get_or us n d ≡ t
    here d = get_or-set_same (set ts n c) n t d (let l = length-set ts n c in omega (arith, l, lt))

    there : (j : ℕ) (d : Tally) → (j ≡ n → ⊥) → get_or us j d ≡ get_or ts j d
    there j d a = get_or-set_other (set ts n c) n j t d a ∙ get_or-set_other ts n j c d a

    short : All (λ u. length_of u ≤ old.places.count) us
    short j d l = go (less_or_not j n) (less_or_not n j)
      where
        go : (j < n) ⊎ (n ≤ j) → (n < j) ⊎ (j ≤ n) → length_of (get_or us j d) ≤ old.places.count
        go (inl a) b = subst (λ u. length_of u ≤ old.places.count) (sym (there j d (λ s. absurd (omega (arith, s, a))))) (h.short j d (omega (arith, l, long)))
        go (inr a) (inl b) = subst (λ u. length_of u ≤ old.places.count) (sym (there j d (λ s. absurd (omega (arith, s, b))))) (h.short j d (omega (arith, l, long)))
        go (inr a) (inr b) =
            let s : j ≡ n = omega (arith, a, b) in
            subst (λ u. length_of u ≤ old.places.count) (sym (ap (λ i. get_or us i d) s ∙ here d)) (more.short old.places.count (h.short n t lt) most)

    totals : (k : List Val) (p : ℕ) → place_of old.places k ≡ Some p → AreTotals us p (group_of rows k) (group_of run k) (n + 1)
    totals k p e = record { first = first; rest = rest }
      where
        were : AreTotals ts p (group_of rows k) (group_of run k) n
        were = h.totals k p e

        now : IsTotalOf (group_of rows k ++ group_of run k) p t
        now =
            let m = measured_by (get_or ts n t) in
            let f = val_at (place_read m) in
            let reads : reads_in ms n ≡ place_read m = ap (λ ns. reads_in ns n) (sym h.measures) ∙ reads_at ts n t lt in
            let col : map f run ≡ vs = ap (λ o. map (val_at o) run) (sym reads) ∙ column in
            let scalars : All (λ (row : Row). are_scalars row.key ≡ true) run = all_second (λ (row : Row). are_scalars row.key ≡ true) rows run h.places.scalars in
            let pick : picked p given vs ≡ map f (group_of run k) = ap (picked p given) (sym col) ∙ picked_group old.places f k p e h.places.apart run given h.even scalars h.each in
            let both : vals_read m (group_of rows k) ++ picked p given vs ≡ vals_read m (group_of rows k ++ group_of run k) = ap (λ ws. vals_read m (group_of rows k) ++ ws) pick ∙ sym (map-append f (group_of rows k) (group_of run k)) in
            let kind : vals_read m (group_of rows k ++ group_of run k) ≡ vals_read (measured_by t) (group_of rows k ++ group_of run k) = ap (λ x. vals_read x (group_of rows k ++ group_of run k)) (sym more.of) in
            subst (IsTotal t p) (both ∙ kind) (more.totals (vals_read m (group_of rows k)) p (were.rest n t (omega arith) lt))

        first : (j : ℕ) (d : Tally) → j < n + 1 → j < length us → IsTotalOf (group_of rows k ++ group_of run k) p (get_or us j d)
        first j d a l = go (less_or_not j n)
          where
            go : (j < n) ⊎ (n ≤ j) → IsTotalOf (group_of rows k ++ group_of run k) p (get_or us j d)
            go (inl b) = subst (IsTotalOf (group_of rows k ++ group_of run k) p) (sym (there j d (λ s. absurd (omega (arith, s, b))))) (were.first j d b (omega (arith, l, long)))
            go (inr b) = subst (IsTotalOf (group_of rows k ++ group_of run k) p) (sym (ap (λ i. get_or us i d) (let s : j ≡ n = omega (arith, a, b) in s) ∙ here d)) now

        rest : (j : ℕ) (d : Tally) → n + 1 ≤ j → j < length us → IsTotalOf (group_of rows k) p (get_or us j d)
        rest j d a l = subst (IsTotalOf (group_of rows k) p) (sym (there j d (λ s. absurd (omega (arith, s, a))))) (were.rest j d (omega (arith, a)) (omega (arith, l, long)))

-- ---- all measures have read the rows
pub under_ends : (keys : ℕ) (ms : List Measured) (rows run : List Row) (given : List ℕ) (n : ℕ) (g : Groups) → IsUnder keys ms rows run given n g → length g.tallies.items ≤ n → AreOf keys ms (rows ++ run) g
under_ends keys ms rows run given n g h le = record {
  measures = h.measures;
  places = h.places;
  short = h.short;
  totals = λ k p e j t lt. subst (λ (xs : List Row). IsTotalOf xs p (get_or g.tallies.items j t)) (sym (group_append rows run k)) ((h.totals k p e).first j t (omega (arith, lt, le)) lt);
}

-- ---- further rows, by their keys
abbrev pub one_key : Val → List Val
one_key v = v ∷ []

pub have_places : (r : Result (List ℕ) NoMemory) (keys : ℕ) (vs : List Val) (old new : Groups) → new.tallies ≡ old.tallies → IfOk r (λ ps. length ps ≡ length vs)
    → ((rows run : List Row) → map (λ (row : Row). row.key) run ≡ map one_key vs → ArePlaces keys rows old.places → IfOk r (λ ps. PlacedAll keys rows run old.places new.places ps))
    → IfOk r (λ ps. HavePlaces keys (map one_key vs) ps old new)
have_places (Ok ps) keys vs old new same even placed = record {
  measures = ap (λ v. map measured_by v.items) same;
  even = even ∙ sym (length-map vs one_key);
  begins = λ ms rows run h e. under_begins keys ms rows run ps old new h same (keys_long run vs e ∙ sym even) (placed rows run e h.places);
}
have_places (Err f) keys vs old new same even placed = tt

pub keyless_places : (n : ℕ) (given : List ℕ) (i : ℕ) (old new : Groups) → new.tallies ≡ old.tallies → given ≡ replicate n i → ((j : ℕ) → place_of old.places [] ≡ Some j → (new.places ≡ old.places) × (i ≡ j))
    → HavePlaces 0 (replicate n []) given old new
keyless_places n given i old new same is found =
    let long : length given ≡ n = ap length is ∙ length-replicate n i in
    record {
      measures = ap (λ v. map measured_by v.items) same;
      even = long ∙ sym (length-replicate n []);
      begins = λ ms rows run h e.
          let at = keyless_place rows old.places h.places in
          let f = found at.0 at.1 in
          let all : PlacedAll 0 rows run old.places old.places (replicate n at.0) = keyless_all rows run n old.places at.0 h.places at.1 e in
          let whole : PlacedAll 0 rows run old.places new.places given =
          subst (λ (q : Places). PlacedAll 0 rows run old.places q given) (sym f.0) (subst (λ ps. PlacedAll 0 rows run old.places old.places ps) (ap (replicate n) (sym f.1) ∙ sym is) all) in
          let even : length run ≡ length given = sym (length-map run (λ (row : Row). row.key)) ∙ ap length e ∙ length-replicate n [] ∙ sym long in
          under_begins 0 ms rows run given old new h same even whole;
    }

-- ---- no rows
zero_long : (ts : List Tally) (n : ℕ) → map length_of ts ≡ replicate n 0 → (j : ℕ) (t : Tally) → j < length ts → length_of (get_or ts j t) ≡ 0
zero_long ts n e j t lt =
    let long : length ts ≡ n = sym (length-map ts length_of) ∙ ap length e ∙ length-replicate n 0 in
    sym (get_or-map length_of ts j t 0 lt) ∙ ap (λ ns. get_or ns j 0) e ∙ get_or-replicate n j 0 0 (omega (arith, long, lt))

pub none_yet : (keys : ℕ) (ms : List Measured) (n : ℕ) (g : Groups) → map measured_by g.tallies.items ≡ ms → map length_of g.tallies.items ≡ replicate n 0 → ArePlaces keys [] g.places → AreOf keys ms [] g
none_yet keys ms n g of none places = record {
  measures = of;
  places = places;
  short = λ j t lt. let z = zero_long g.tallies.items n none j t lt in omega (arith, z);
  totals = λ k p e j t lt. fresh_total (get_or g.tallies.items j t) p (let z = zero_long g.tallies.items n none j t lt in omega (arith, z));
}

-- ---- what is read of one row
pub val_as : (o : Option ℕ) (row : Row) → val_at o row ≡ val_in o row.read
val_as None row = refl
val_as (Some p) row = refl

pub count_same : (old new : Groups) → map measured_by new.tallies.items ≡ map measured_by old.tallies.items → length new.tallies.items ≡ length old.tallies.items
count_same old new e = sym (length-map new.tallies.items measured_by) ∙ ap length e ∙ length-map old.tallies.items measured_by

pub tally_at : (ts : List Tally) (i : ℕ) (t : Tally) → i < length ts → t ≡ get_or ts i t → slice_get ts i ≡ Some t
tally_at [] i t lt e = absurd (omega (arith, lt))
tally_at (x ∷ xs) zero t lt e = ap Some (sym e)
tally_at (x ∷ xs) (suc i) t lt e = tally_at xs i t (omega (arith, lt)) e
