-- The places of keys with further rows.
use Rattle.std.proofs.Common.{◌≡◌, ◌⊎◌, inl, inr, ℕ, ℤ, zero, suc, ◌+◌, ◌<◌, ◌≤◌, Bool, true, false, cond, List, [], ◌∷◌, ◌++◌, length, get_or, set, take, drop, map, Contains, refl, sym, ap, ◌∙◌, subst, arith, append_assoc, append-nil}
use Rattle.std.specs.Prelude.{◌&&◌, Option, None, Some, All, Result, Ok, Err, IfOk, replicate}
use Rattle.std.specs.List.{list_all}
use Rattle.std.specs.BTreeMap.{get, is_at}
use Rattle.std.specs.Map.{lookup}
use Rattle.std.proofs.lemmas.List.{take_more, take_all, length-take-le, get_or_append_left, get_or_at, get_or-set_same, get_or-set_other, get_or-map, length-map, get_or-replicate, length-replicate}
use Rattle.std.proofs.lemmas.List.Elements.{All-push, All-nil, All-weaker, filter-append, Contains-push, Contains-append_left}
use Rattle.scan_values.specs.Val.{Val, int_val}
use Rattle.scan_groups.specs.Order.{key_cmp, same_key, is_scalar, are_scalars}
use Rattle.scan_groups.specs.Ordered.{same_key-equivalence}
use Rattle.scan_groups.specs.Rows.{Row, group_of, IsKeyOf}
use Rattle.scan_groups.specs.Near.{AreAt, IsAt}
use Rattle.scan_groups.specs.declared.near.Near.{Near}
use Rattle.scan_groups.specs.declared.near.Slot.{Slot}
use Rattle.scan_groups.specs.Places.{ArePlaces, Begins, Extends, IsPlace, Learns, Placed, PlacedAll, known, place_of}
use Rattle.scan_values.specs.declared.memory.NoMemory.{NoMemory}
use Rattle.scan_groups.specs.declared.places.Places.{Places}
use Rattle.scan_groups.proofs.Exact.{same_exact}

-- ---- options
abbrev pub or_zero : Option ℕ → ℕ
or_zero None = 0
or_zero (Some i) = i

pub some_same : (i j : ℕ) → Some i ≡ Some j → i ≡ j
some_same i j h = ap or_zero h

pub not_none : (o : Option ℕ) (i : ℕ) → o ≡ Some i → o ≡ None → ⊥
not_none o i h k = let z : Some i ≡ None = sym h ∙ k in cc

pub none_or_some : (o : Option ℕ) → (o ≡ None) ⊎ ((i : ℕ) × (o ≡ Some i))
none_or_some None = inl refl
none_or_some (Some i) = inr (i, refl)

pub less_or_not : (i n : ℕ) → (i < n) ⊎ (n ≤ i)
less_or_not i zero = inr (omega arith)
less_or_not zero (suc n) = inl (omega arith)
less_or_not (suc i) (suc n) = go (less_or_not i n)
  where
    go : (i < n) ⊎ (n ≤ i) → (suc i < suc n) ⊎ (suc n ≤ suc i)
    go (inl l) = inl (omega (arith, l))
    go (inr l) = inr (omega (arith, l))

-- ---- one more row
group_push : (rows : List Row) (row : Row) (k : List Val) (b : Bool) → same_key row.key k ≡ b → group_of (rows ++ row ∷ []) k ≡ group_of rows k ++ cond b (row ∷ []) []
group_push rows row k b e = filter-append (λ (r : Row). same_key r.key k) rows (row ∷ []) ∙ ap (λ t. group_of rows k ++ cond t (row ∷ []) []) e

keys_push : (rows : List Row) (row : Row) → map (λ (r : Row). r.key) (rows ++ row ∷ []) ≡ map (λ (r : Row). r.key) rows ++ row.key ∷ []
keys_push [] row = refl
keys_push (r ∷ rs) row = ap (λ ks. r.key ∷ ks) (keys_push rs row)

-- of another key
place_stays : (keys : ℕ) (rows : List Row) (row : Row) (k : List Val) (o : Option ℕ) → same_key row.key k ≡ false → IsPlace keys rows k o → IsPlace keys (rows ++ row ∷ []) k o
place_stays keys rows row k None e h = (group_push rows row k false e ∙ append-nil (group_of rows k) ∙ h.0, h.1)
place_stays keys rows row k (Some i) e h = go h
  where
    go : IsKeyOf keys rows k → IsKeyOf keys (rows ++ row ∷ []) k
    go (inl n) = inl n
    go (inr c) = inr (subst (λ ks. Contains ks k) (sym (keys_push rows row)) (Contains-append_left (map (λ (r : Row). r.key) rows) (row.key ∷ []) k c))

-- of the row's key
place_new : (keys : ℕ) (rows : List Row) (row : Row) (i : ℕ) → IsPlace keys (rows ++ row ∷ []) row.key (Some i)
place_new keys rows row i = inr (subst (λ ks. Contains ks row.key) (sym (keys_push rows row)) (Contains-push (map (λ (r : Row). r.key) rows) row.key))

pub extends_same : (p : Places) → Extends p p
extends_same p = record { more = omega arith; stays = λ k i h. h; fresh = λ k i h. inl h }

pub extends_more : (a b c : Places) → Extends a b → Extends b c → Extends a c
extends_more a b c h k = record {
  more = omega (arith, h.more, k.more);
  stays = λ q i e. k.stays q i (h.stays q i e);
  fresh = λ q i e. go q i (k.fresh q i e);
}
  where
    go : (q : List Val) (i : ℕ) → (place_of b q ≡ Some i) ⊎ ((place_of b q ≡ None) × (b.count ≤ i)) → (place_of a q ≡ Some i) ⊎ ((place_of a q ≡ None) × (a.count ≤ i))
    go q i (inl e) = h.fresh q i e
    go q i (inr n) = inr (old (none_or_some (place_of a q)), omega (arith, h.more, n.1))
      where
        old : (place_of a q ≡ None) ⊎ ((j : ℕ) × (place_of a q ≡ Some j)) → place_of a q ≡ None
        old (inl e) = e
        old (inr s) = absurd (not_none (place_of b q) s.0 (h.stays q s.0 s.1) n.0)

-- a row of a key that has a place
pub place_found : (keys : ℕ) (rows : List Row) (row : Row) (p : Places) (i : ℕ) → ArePlaces keys rows p → are_scalars row.key ≡ true → place_of p row.key ≡ Some i → Placed keys rows row p p i
place_found keys rows row p i h scalar e = record {
  places = record {
    scalars = All-push (λ (r : Row). are_scalars r.key ≡ true) rows row h.scalars scalar;
    at = λ k. go k (same_key row.key k) refl;
    below = h.below;
    apart = h.apart;
    known = h.known;
    near = h.near;
  };
  extends = extends_same p;
  is = e;
}
  where
    go : (k : List Val) (b : Bool) → same_key row.key k ≡ b → IsPlace keys (rows ++ row ∷ []) k (place_of p k)
    go k true t = subst (λ q. IsPlace keys (rows ++ row ∷ []) q (place_of p q)) (same_exact row.key k scalar t) (subst (λ o. IsPlace keys (rows ++ row ∷ []) row.key o) (sym e) (place_new keys rows row i))
    go k false t = place_stays keys rows row k (place_of p k) t (h.at k)

-- a row of a key that gets the next place
pub place_begun : (keys : ℕ) (rows : List Row) (row : Row) (old new : Places) → ArePlaces keys rows old → are_scalars row.key ≡ true → place_of old row.key ≡ None
    → new.count ≡ old.count + 1 → new.known ≡ old.known → new.near ≡ old.near → ((q : List Val) → place_of new q ≡ cond (is_at (key_cmp row.key) q) (Some old.count) (place_of old q))
    → Placed keys rows row old new old.count
place_begun keys rows row old new h scalar absent count same close updates = record {
  places = record {
    scalars = All-push (λ (r : Row). are_scalars r.key ≡ true) rows row h.scalars scalar;
    at = λ k. subst (λ o. IsPlace keys (rows ++ row ∷ []) k o) (sym (updates k)) (at k (same_key row.key k) refl);
    below = λ k i e. below k i (of k i e);
    apart = λ k l i e f. apart k l i (of k i e) (of l i f);
    known = λ v i e. stays (v ∷ []) i (h.known v i (subst (λ m. known m v ≡ Some i) same e));
    near = subst (AreAt new.keys) (sym close) (All-weaker (IsAt old.keys) (IsAt new.keys) (λ (s : Slot). stays (int_val s.number ∷ []) s.place) old.near.slots.items h.near);
  };
  extends = record { more = omega (arith, count); stays = stays; fresh = λ k i e. fresh k i (of k i e) };
  is = updates row.key ∙ ap (λ b. cond b (Some old.count) (place_of old row.key)) (same_key-equivalence.refl row.key);
}
  where
    at : (k : List Val) (b : Bool) → same_key row.key k ≡ b → IsPlace keys (rows ++ row ∷ []) k (cond b (Some old.count) (place_of old k))
    at k true t = subst (λ q. IsPlace keys (rows ++ row ∷ []) q (Some old.count)) (same_exact row.key k scalar t) (place_new keys rows row old.count)
    at k false t = place_stays keys rows row k (place_of old k) t (h.at k)

    -- what has a place is the row's key, or had it
    of : (k : List Val) (i : ℕ) → place_of new k ≡ Some i → ((k ≡ row.key) × (i ≡ old.count)) ⊎ (place_of old k ≡ Some i)
    of k i e = go (same_key row.key k) refl
      where
        go : (b : Bool) → same_key row.key k ≡ b → ((k ≡ row.key) × (i ≡ old.count)) ⊎ (place_of old k ≡ Some i)
        go true t = inl (sym (same_exact row.key k scalar t), some_same i old.count (sym e ∙ updates k ∙ ap (λ b. cond b (Some old.count) (place_of old k)) t))
        go false t = inr (sym (ap (λ b. cond b (Some old.count) (place_of old k)) t) ∙ sym (updates k) ∙ e)

    stays : (k : List Val) (i : ℕ) → place_of old k ≡ Some i → place_of new k ≡ Some i
    stays k i e = go (same_key row.key k) refl
      where
        go : (b : Bool) → same_key row.key k ≡ b → place_of new k ≡ Some i
        go true t = absurd (not_none (place_of old k) i e (ap (place_of old) (sym (same_exact row.key k scalar t)) ∙ absent))
        go false t = updates k ∙ ap (λ b. cond b (Some old.count) (place_of old k)) t ∙ e

    below : (k : List Val) (i : ℕ) → ((k ≡ row.key) × (i ≡ old.count)) ⊎ (place_of old k ≡ Some i) → i < new.count
    below k i (inl s) = omega (arith, s.1, count)
    below k i (inr e) = let l = h.below k i e in omega (arith, l, count)

    apart : (k l : List Val) (i : ℕ) → ((k ≡ row.key) × (i ≡ old.count)) ⊎ (place_of old k ≡ Some i) → ((l ≡ row.key) × (i ≡ old.count)) ⊎ (place_of old l ≡ Some i) → same_key k l ≡ true
    apart k l i (inl s) (inl t) = ap (same_key k) (t.0 ∙ sym s.0) ∙ same_key-equivalence.refl k
    apart k l i (inl s) (inr f) = absurd (let b = h.below l i f in omega (arith, b, s.1))
    apart k l i (inr e) (inl t) = absurd (let b = h.below k i e in omega (arith, b, t.1))
    apart k l i (inr e) (inr f) = h.apart k l i e f

    fresh : (k : List Val) (i : ℕ) → ((k ≡ row.key) × (i ≡ old.count)) ⊎ (place_of old k ≡ Some i) → (place_of old k ≡ Some i) ⊎ ((place_of old k ≡ None) × (old.count ≤ i))
    fresh k i (inl s) = inr (ap (place_of old) s.0 ∙ absent, omega (arith, s.1))
    fresh k i (inr e) = inl e

-- a key of one value, known by the value
pub place_known : (keys : ℕ) (rows : List Row) (row : Row) (v : Val) (p : Places) (i : ℕ) → row.key ≡ v ∷ [] → ArePlaces keys rows p → is_scalar v ≡ true → known p.known v ≡ Some i → Placed keys rows row p p i
place_known keys rows row v p i e h scalar k = place_found keys rows row p i h (ap are_scalars e ∙ one v scalar) (ap (place_of p) e ∙ h.known v i k)
  where
    one : (w : Val) → is_scalar w ≡ true → are_scalars (w ∷ []) ≡ true
    one w s = rw s refl

pub one_scalar : (w : Val) → is_scalar w ≡ true → are_scalars (w ∷ []) ≡ true
one_scalar w s = rw s refl

-- the place of a value is learnt
pub place_learnt : (keys : ℕ) (rows : List Row) (row : Row) (v : Val) (old mid new : Places) (i : ℕ) → row.key ≡ v ∷ [] → Placed keys rows row old mid i
    → new.keys ≡ mid.keys → new.count ≡ mid.count → new.near ≡ mid.near → Learns mid.known new.known v i → Placed keys rows row old new i
place_learnt keys rows row v old mid new i e h same count close learns =
    let to : (k : List Val) → place_of new k ≡ place_of mid k = λ k. ap (λ m. get key_cmp m k) same in
    record {
      places = record {
        scalars = h.places.scalars;
        at = λ k. subst (λ o. IsPlace keys (rows ++ row ∷ []) k o) (sym (to k)) (h.places.at k);
        below = λ k j f. let l = h.places.below k j (sym (to k) ∙ f) in omega (arith, l, count);
        apart = λ k l j f g. h.places.apart k l j (sym (to k) ∙ f) (sym (to l) ∙ g);
        known = λ w j f. to (w ∷ []) ∙ knows w j (learns w j f);
        near = subst (λ m. AreAt m new.near) (sym same) (subst (AreAt mid.keys) (sym close) h.places.near);
      };
      extends = record {
        more = (let m = h.extends.more in omega (arith, m, count));
        stays = λ k j f. to k ∙ h.extends.stays k j f;
        fresh = λ k j f. h.extends.fresh k j (sym (to k) ∙ f);
      };
      is = to row.key ∙ h.is;
    }
  where
    knows : (w : Val) (j : ℕ) → (known mid.known w ≡ Some j) ⊎ ((w ≡ v) × (j ≡ i)) → place_of mid (w ∷ []) ≡ Some j
    knows w j (inl k) = h.places.known w j k
    knows w j (inr s) = ap (λ u. place_of mid (u ∷ [])) s.0 ∙ ap (place_of mid) (sym e) ∙ h.is ∙ ap Some (sym s.1)

-- a row of a number's key, which stands in its slot
pub place_near : (keys : ℕ) (rows : List Row) (row : Row) (p : Places) (z : ℤ) (i : ℕ) → row.key ≡ int_val z ∷ [] → ArePlaces keys rows p → IsAt p.keys (record { number = z; place = i }) → Placed keys rows row p p i
place_near keys rows row p z i e h at = place_found keys rows row p i h (ap are_scalars e) (ap (place_of p) e ∙ at)

-- the slots are others, which are true
pub place_kept : (keys : ℕ) (rows : List Row) (row : Row) (old mid new : Places) (i : ℕ) → Placed keys rows row old mid i
    → new.keys ≡ mid.keys → new.count ≡ mid.count → new.known ≡ mid.known → AreAt mid.keys new.near → Placed keys rows row old new i
place_kept keys rows row old mid new i h same count knows close =
    let to : (k : List Val) → place_of new k ≡ place_of mid k = λ k. ap (λ m. get key_cmp m k) same in
    record {
      places = record {
        scalars = h.places.scalars;
        at = λ k. subst (λ o. IsPlace keys (rows ++ row ∷ []) k o) (sym (to k)) (h.places.at k);
        below = λ k j f. let l = h.places.below k j (sym (to k) ∙ f) in omega (arith, l, count);
        apart = λ k l j f g. h.places.apart k l j (sym (to k) ∙ f) (sym (to l) ∙ g);
        known = λ w j f. to (w ∷ []) ∙ h.places.known w j (subst (λ m. known m w ≡ Some j) knows f);
        near = subst (λ m. AreAt m new.near) (sym same) close;
      };
      extends = record {
        more = (let m = h.extends.more in omega (arith, m, count));
        stays = λ k j f. to k ∙ h.extends.stays k j f;
        fresh = λ k j f. h.extends.fresh k j (sym (to k) ∙ f);
      };
      is = to row.key ∙ h.is;
    }

-- a row of a key that has begun
pub row_begun : (keys : ℕ) (rows : List Row) (row : Row) (key : List Val) (old new : Places) (i : ℕ) → row.key ≡ key → ArePlaces keys rows old → are_scalars key ≡ true → place_of old key ≡ None
    → Begins old key i new → Placed keys rows row old new i
row_begun keys rows row key old new i e h scalar absent b =
    subst (λ n. Placed keys rows row old new n) (sym b.is)
    (place_begun keys rows row old new h (ap are_scalars e ∙ scalar) (ap (place_of old) e ∙ absent) b.count b.known b.near
    (subst (λ (k : List Val). (q : List Val) → place_of new q ≡ cond (is_at (key_cmp k) q) (Some old.count) (place_of old q)) (sym e) b.at))

pub begun_ok : (r : Result ℕ NoMemory) (keys : ℕ) (rows : List Row) (row : Row) (key : List Val) (old new : Places) → row.key ≡ key → ArePlaces keys rows old → are_scalars key ≡ true → place_of old key ≡ None
    → IfOk r (λ i. Begins old key i new) → IfOk r (Placed keys rows row old new)
begun_ok (Ok i) keys rows row key old new e h scalar absent b = row_begun keys rows row key old new i e h scalar absent b
begun_ok (Err f) keys rows row key old new e h scalar absent b = tt

pub placed_one : (keys : ℕ) (rows : List Row) (row : Row) (old new : Places) (i : ℕ) → Placed keys rows row old new i → PlacedAll keys rows (row ∷ []) old new (i ∷ [])
placed_one keys rows row old new i h = record { places = h.places; extends = h.extends; each = each }
  where
    each : (j : ℕ) (d : Row) → j < length (row ∷ []) → place_of new (get_or (row ∷ []) j d).key ≡ Some (get_or (i ∷ []) j 0)
    each zero d lt = h.is
    each (suc j) d lt = absurd (omega (arith, lt))

-- ---- a run of rows
pub places_none : (keys : ℕ) (rows run : List Row) (p : Places) (given : List ℕ) → ArePlaces keys rows p → PlacedAll keys rows (take 0 run) p p given
places_none keys rows run p given h = record {
  places = subst (λ rs. ArePlaces keys rs p) (sym (append-nil rows)) h;
  extends = extends_same p;
  each = λ j row lt. absurd (omega (arith, lt));
}

pub scalar_at : (vs : List Val) (i : ℕ) (d : Val) → i < length vs → list_all is_scalar vs ≡ true → is_scalar (get_or vs i d) ≡ true
scalar_at [] i d lt h = absurd (omega (arith, lt))
scalar_at (v ∷ vs) zero d lt h = and_left (is_scalar v) (list_all is_scalar vs) h
  where
    and_left : (a b : Bool) → (a && b) ≡ true → a ≡ true
    and_left true b q = refl
    and_left false b q = q
scalar_at (v ∷ vs) (suc i) d lt h = scalar_at vs i d (omega (arith, lt)) (and_right (is_scalar v) (list_all is_scalar vs) h)
  where
    and_right : (a b : Bool) → (a && b) ≡ true → b ≡ true
    and_right true b q = q
    and_right false b q = absurd (let z : false ≡ true = q in cc)

pub key_at : (run : List Row) (vs : List Val) (i : ℕ) (row : Row) (d : Val) → i < length run → map (λ (r : Row). r.key) run ≡ map (λ v. v ∷ []) vs → (get_or run i row).key ≡ get_or vs i d ∷ []
key_at run vs i row d lt e =
    let n : i < length vs = (let f : length run ≡ length vs = sym (length-map run (λ (r : Row). r.key)) ∙ ap length e ∙ length-map vs (λ (v : Val). v ∷ []) in omega (arith, lt, f)) in
    sym (get_or-map (λ (r : Row). r.key) run i row [] lt) ∙ ap (λ ks. get_or ks i []) e ∙ get_or-map (λ (v : Val). v ∷ []) vs i d [] n

pub keys_long : (run : List Row) (vs : List Val) → map (λ (r : Row). r.key) run ≡ map (λ v. v ∷ []) vs → length run ≡ length vs
keys_long run vs e = sym (length-map run (λ (r : Row). r.key)) ∙ ap length e ∙ length-map vs (λ (v : Val). v ∷ [])

pub places_more : (keys : ℕ) (rows run : List Row) (i : ℕ) (row : Row) (old now next : Places) (given : List ℕ) (q : ℕ) → i < length run → i < length given → row ≡ get_or run i row
    → PlacedAll keys rows (take i run) old now given → Placed keys (rows ++ take i run) row now next q → PlacedAll keys rows (take (i + 1) run) old next (set given i q)
places_more keys rows run i row old now next given q lt long is before one =
    let more : take (i + 1) run ≡ take i run ++ row ∷ [] = take_more run i row lt ∙ ap (λ r. take i run ++ r ∷ []) (sym is) in
    record {
      places = subst (λ rs. ArePlaces keys rs next) (append_assoc rows (take i run) (row ∷ []) ∙ ap (λ rs. rows ++ rs) (sym more)) one.places;
      extends = extends_more old now next before.extends one.extends;
      each = λ j d l. each j d l more;
    }
  where
    each : (j : ℕ) (d : Row) → j < length (take (i + 1) run) → take (i + 1) run ≡ take i run ++ row ∷ [] → place_of next (get_or (take (i + 1) run) j d).key ≡ Some (get_or (set given i q) j 0)
    each j d l more = go (less_or_not j i)
      where
        long' : length (take i run) ≡ i
        long' = length-take-le i run (omega (arith, lt))

        most : length (take (i + 1) run) ≡ i + 1
        most = length-take-le (i + 1) run (omega (arith, lt))

        go : (j < i) ⊎ (i ≤ j) → place_of next (get_or (take (i + 1) run) j d).key ≡ Some (get_or (set given i q) j 0)
        go (inl a) =
            let b : j < length (take i run) = omega (arith, a, long') in
            let at : get_or (take i run) j d ≡ get_or (take (i + 1) run) j d = sym (get_or_append_left (take i run) (row ∷ []) d j b) ∙ ap (λ r. get_or r j d) (sym more) in
            let kept : get_or given j 0 ≡ get_or (set given i q) j 0 = sym (get_or-set_other given i j q 0 (λ s. absurd (omega (arith, s, a)))) in
            one.extends.stays (get_or (take (i + 1) run) j d).key (get_or (set given i q) j 0)
            (subst (λ n. place_of now (get_or (take (i + 1) run) j d).key ≡ Some n) kept (subst (λ (r : Row). place_of now r.key ≡ Some (get_or given j 0)) at (before.each j d b)))
        go (inr a) =
            let s : j ≡ i = omega (arith, a, l, most) in
            let at : get_or (take (i + 1) run) j d ≡ row = ap (λ r. get_or r j d) more ∙ get_or_at (take i run) row [] d j (long' ∙ sym s) in
            let put : get_or (set given i q) j 0 ≡ q = ap (λ k. get_or (set given i q) k 0) s ∙ get_or-set_same given i q 0 long in
            ap (λ (r : Row). place_of next r.key) at ∙ one.is ∙ ap Some (sym put)

pub places_all : (keys : ℕ) (rows run : List Row) (i : ℕ) (old new : Places) (given : List ℕ) → length run ≤ i → PlacedAll keys rows (take i run) old new given → PlacedAll keys rows run old new given
places_all keys rows run i old new given le h = subst (λ rs. PlacedAll keys rows rs old new given) (take_all i run le) h

-- rows of the empty key, which has a place
keyless_rows : (rows run : List Row) (n : ℕ) (p : Places) (i : ℕ) → ArePlaces 0 rows p → place_of p [] ≡ Some i → map (λ (r : Row). r.key) run ≡ replicate n [] → ArePlaces 0 (rows ++ run) p
keyless_rows rows [] n p i h at e = subst (λ rs. ArePlaces 0 rs p) (sym (append-nil rows)) h
keyless_rows rows (r ∷ rs) zero p i h at e = absurd (let z : length (r.key ∷ map (λ (x : Row). x.key) rs) ≡ 0 = ap length e in omega (arith, z))
keyless_rows rows (r ∷ rs) (suc n) p i h at e =
    let k : r.key ≡ [] = ap (λ ks. get_or ks 0 []) e in
    let rest : map (λ (x : Row). x.key) rs ≡ replicate n [] = ap (drop 1) e in
    let one = place_found 0 rows r p i h (ap are_scalars k) (ap (place_of p) k ∙ at) in
    subst (λ xs. ArePlaces 0 xs p) (append_assoc rows (r ∷ []) rs) (keyless_rows (rows ++ r ∷ []) rs n p i one.places at rest)

pub keyless_all : (rows run : List Row) (n : ℕ) (p : Places) (i : ℕ) → ArePlaces 0 rows p → place_of p [] ≡ Some i → map (λ (r : Row). r.key) run ≡ replicate n [] → PlacedAll 0 rows run p p (replicate n i)
keyless_all rows run n p i h at e = record {
  places = keyless_rows rows run n p i h at e;
  extends = extends_same p;
  each = λ j row lt.
      let long : length run ≡ n = sym (length-map run (λ (r : Row). r.key)) ∙ ap length e ∙ length-replicate n [] in
      let l : j < n = omega (arith, lt, long) in
      let k : (get_or run j row).key ≡ [] = sym (get_or-map (λ (r : Row). r.key) run j row [] lt) ∙ ap (λ ks. get_or ks j []) e ∙ get_or-replicate n j [] [] l in
      ap (place_of p) k ∙ at ∙ ap Some (sym (get_or-replicate n j i 0 l));
}

-- where keys have no values the empty one has a place
pub keyless_place : (rows : List Row) (p : Places) → ArePlaces 0 rows p → (i : ℕ) × (place_of p [] ≡ Some i)
keyless_place rows p h = go (place_of p []) refl (h.at [])
  where
    go : (o : Option ℕ) → place_of p [] ≡ o → IsPlace 0 rows [] o → (i : ℕ) × (place_of p [] ≡ Some i)
    go None e q = absurd (q.1 refl refl)
    go (Some i) e q = (i, e)

-- ---- no rows
pub nothing_at : (p : Places) (k : List Val) → p.keys.entries ≡ [] → place_of p k ≡ None
nothing_at p k e = ap (lookup (is_at (key_cmp k))) e

abbrev pub IsEmpty : Places → Type 0
IsEmpty p = (p.keys.entries ≡ []) × (p.count ≡ 0) × ((v : Val) → known p.known v ≡ None) × (p.near.slots.items ≡ [])

pub no_places : (keys : ℕ) (p : Places) → IsEmpty p → 0 < keys → ArePlaces keys [] p
no_places keys p e lt = record {
  scalars = All-nil (λ (r : Row). are_scalars r.key ≡ true);
  at = λ k. subst (λ o. IsPlace keys [] k o) (sym (nothing_at p k e.0)) (refl, λ z _. absurd (omega (arith, z, lt)));
  below = λ k i f. absurd (not_none (place_of p k) i f (nothing_at p k e.0));
  apart = λ k l i f g. absurd (not_none (place_of p k) i f (nothing_at p k e.0));
  known = λ v i f. absurd (not_none (known p.known v) i f (e.2 v));
  near = subst (All (IsAt p.keys)) (sym e.3) (All-nil (IsAt p.keys));
}

-- the one place of the empty key
pub one_place : (keys : ℕ) (old new : Places) → IsEmpty old → keys ≡ 0 → new.count ≡ old.count + 1 → new.known ≡ old.known → new.near ≡ old.near
    → ((q : List Val) → place_of new q ≡ cond (is_at (key_cmp []) q) (Some old.count) (place_of old q)) → ArePlaces keys [] new
one_place keys old new e zero' count same close updates = record {
  scalars = All-nil (λ (r : Row). are_scalars r.key ≡ true);
  at = λ k. subst (λ o. IsPlace keys [] k o) (sym (now k)) (at k);
  below = λ k i f. below k i (sym (now k) ∙ f);
  apart = λ k l i f g. apart k l i (sym (now k) ∙ f) (sym (now l) ∙ g);
  known = λ v i f. absurd (not_none (known old.known v) i (subst (λ m. known m v ≡ Some i) same f) (e.2 v));
  near = subst (λ (n : Near). AreAt new.keys n) (sym close) (subst (All (IsAt new.keys)) (sym e.3) (All-nil (IsAt new.keys)));
}
  where
    now : (k : List Val) → place_of new k ≡ cond (is_at (key_cmp []) k) (Some old.count) None
    now k = updates k ∙ ap (λ o. cond (is_at (key_cmp []) k) (Some old.count) o) (nothing_at old k e.0)

    at : (k : List Val) → IsPlace keys [] k (cond (is_at (key_cmp []) k) (Some old.count) None)
    at [] = inl (zero', refl)
    at (v ∷ vs) = (refl, λ z f. absurd (let n : length (v ∷ vs) ≡ 0 = ap length f in omega (arith, n)))

    below : (k : List Val) (i : ℕ) → cond (is_at (key_cmp []) k) (Some old.count) None ≡ Some i → i < new.count
    below [] i f = let g : old.count ≡ i = some_same old.count i f in omega (arith, g, count)
    below (v ∷ vs) i f = absurd (let z : None ≡ Some i = f in cc)

    apart : (k l : List Val) (i : ℕ) → cond (is_at (key_cmp []) k) (Some old.count) None ≡ Some i → cond (is_at (key_cmp []) l) (Some old.count) None ≡ Some i → same_key k l ≡ true
    apart [] [] i f g = refl
    apart [] (w ∷ ws) i f g = absurd (let z : None ≡ Some i = g in cc)
    apart (v ∷ vs) l i f g = absurd (let z : None ≡ Some i = f in cc)
