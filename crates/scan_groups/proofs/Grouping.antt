-- Groups by what the places of keys have.
use Rattle.std.proofs.Common.{◌≡◌, ℕ, zero, suc, ◌<◌, ◌≤◌, Bool, true, false, not, ◌||◌, cond, List, [], ◌∷◌, filter, length, get_or, map, Contains, refl, sym, ap, ◌∙◌, subst, arith, ℤ, pos}
use Rattle.std.specs.Prelude.{Option, None, Some, All, is_some}
use Rattle.std.specs.List.{slice_get, list_any}
use Rattle.std.proofs.lemmas.List.{length-map}
use Rattle.std.proofs.lemmas.List.Elements.{All-map}
use Rattle.std.proofs.lemmas.Map.Entries.{place_from_lookup, btree_map_get_place}
use Rattle.std.proofs.lemmas.Int.{ints}
use Rattle.std.specs.BTreeMap.{IsOrdered, get, is_at}
use Rattle.std.specs.List.Sorted.{IsStrictlySortedBy}
use Rattle.std.specs.Map.{values_of}
use Rattle.scan_values.specs.Val.{Val, int_val}
use Rattle.scan_groups.specs.Order.{key_cmp, same_key, are_scalars}
use Rattle.scan_groups.specs.Ordered.{key_cmp-total, same_key-equivalence}
use Rattle.scan_groups.specs.Rows.{Row, group_of, values_at, sum_of, OrNull, IsKeyOf, IsMeasure, AreMeasures, AreGroups, is_in_range, is_sum_past, IsPast, IsFirstPast}
use Rattle.scan_groups.specs.Places.{IsPlace}
use Rattle.scan_groups.specs.Totals.{IsSum, IsTotalOf, netted, in_range, sum_val, total_val, is_past, is_some_value, measured_by, no_sum, val_at}
use Rattle.scan_groups.specs.Running.{AreOf, is_past_at, is_past_in, made_of}
use Rattle.scan_groups.specs.declared.group.Group.{Group}
use Rattle.scan_groups.specs.declared.groups.Groups.{Groups}
use Rattle.scan_groups.specs.declared.measure.Measured.{Measured}
use Rattle.scan_groups.specs.declared.measure.Measured.TheVariants.{Count, Values, Sum as Summed, Least, Greatest}
use Rattle.scan_groups.specs.declared.sum.Sum.{Sum}
use Rattle.scan_groups.specs.declared.tally.Tally.{Tally}
use Rattle.scan_groups.specs.declared.tally.Tally.TheVariants as tally
use Rattle.scan_groups.proofs.Exact.{same_exact}

-- ---- one total
netted_sum : (s : Sum) (vs : List Val) → IsSum s vs → netted s ≡ sum_of vs
netted_sum s vs h = let e = h.parts in omega (arith, ints, e)

past_same : (rows : List Row) (p : ℕ) (t : Tally) → IsTotalOf rows p t → is_past p t ≡ is_sum_past rows (Some (measured_by t))
past_same rows p (tally.Count ns) h = refl
past_same rows p (tally.Values at ns) h = refl
past_same rows p (tally.Sum at ss) h = ap (λ z. not (is_in_range z)) (netted_sum (get_or ss p no_sum) (values_at at rows) h)
past_same rows p (tally.Least at us) h = refl
past_same rows p (tally.Greatest at us) h = refl

pub past_at_same : (ts : List Tally) (rows : List Row) (p i : ℕ) → All (IsTotalOf rows p) ts → is_past_at (slice_get ts i) p ≡ is_sum_past rows (slice_get (map measured_by ts) i)
past_at_same [] rows p i h = refl
past_at_same (t ∷ ts) rows p zero h = past_same rows p t (h 0 t (omega arith))
past_at_same (t ∷ ts) rows p (suc i) h = past_at_same ts rows p i (λ n d lt. h (suc n) d (omega (arith, lt)))

not_past : (b : Bool) → not b ≡ false → b ≡ true
not_past true h = refl
not_past false h = absurd (let z : true ≡ false = h in cc)

sum_in_range : (any : Bool) (z : ℤ) (vs : List Val) → any ≡ is_some_value vs → is_in_range z ≡ true → z ≡ sum_of vs → OrNull (λ us u. u ≡ int_val (sum_of us)) vs (sum_val any (in_range z))
sum_in_range any z [] e f g = rw e refl
sum_in_range any z (v ∷ vs) e f g = rw (e, f) (ap int_val g)

measured : (rows : List Row) (p : ℕ) (t : Tally) → IsTotalOf rows p t → is_past p t ≡ false → IsMeasure rows (measured_by t) (total_val p t)
measured rows p (tally.Count ns) h f = ap (λ k. int_val (pos k)) (h ∙ length-map rows (val_at None))
measured rows p (tally.Values at ns) h f = ap (λ k. int_val (pos k)) h
measured rows p (tally.Sum at ss) h f =
    let s = get_or ss p no_sum in
    sum_in_range s.any (netted s) (values_at at rows) h.any (not_past (is_in_range (netted s)) f) (netted_sum s (values_at at rows) h)
measured rows p (tally.Least at us) h f = h
measured rows p (tally.Greatest at us) h f = h

all_measured : (ts : List Tally) (rows : List Row) (p : ℕ) → All (IsTotalOf rows p) ts → ((i : ℕ) → is_past_at (slice_get ts i) p ≡ false) → AreMeasures (map measured_by ts) rows (map (total_val p) ts)
all_measured [] rows p h f = tt
all_measured (t ∷ ts) rows p h f = (measured rows p t (h 0 t (omega arith)) (f 0), all_measured ts rows p (λ n d lt. h (suc n) d (omega (arith, lt))) (λ i. f (suc i)))

-- ---- entries
get_of : (es : List (List Val × ℕ)) (i : ℕ) (d : List Val × ℕ) → i < length es → slice_get es i ≡ Some ((get_or es i d).0, (get_or es i d).1)
get_of [] i d lt = absurd (omega (arith, lt))
get_of (e ∷ es) zero d lt = refl
get_of (e ∷ es) (suc i) d lt = get_of es i d (omega (arith, lt))

has_place : (es : List (List Val × ℕ)) (i : ℕ) (k : List Val) (t : ℕ) → slice_get es i ≡ Some (k, t) → Contains (map (λ (e : List Val × ℕ). e.0) es) k
has_place [] i k t h = absurd (let z : None ≡ Some (k, t) = h in cc)
has_place (e ∷ es) zero k t h = (0, omega arith, (let z : Some e ≡ Some (k, t) = h in ap (λ (p : List Val × ℕ). p.0) (some_same e (k, t) z)))
  where
    or_first : (d : List Val × ℕ) → Option (List Val × ℕ) → List Val × ℕ
    or_first d None = d
    or_first d (Some x) = x

    some_same : (x y : List Val × ℕ) → Some x ≡ Some y → x ≡ y
    some_same x y q = ap (or_first x) q
has_place (e ∷ es) (suc i) k t h = let c = has_place es i k t h in (suc c.0, omega (arith, c.1), c.2)

value_place : (P : ℕ → Bool) (es : List (List Val × ℕ)) (i : ℕ) (k : List Val) (t : ℕ) → slice_get es i ≡ Some (k, t) → list_any P (values_of es) ≡ false → P t ≡ false
value_place P [] i k t h none = absurd (let z : None ≡ Some (k, t) = h in cc)
value_place P (e ∷ es) zero k t h none = sym (ap P (ap (λ (p : List Val × ℕ). p.1) (some_same e (k, t) h))) ∙ or_left (P e.1) (list_any P (values_of es)) none
  where
    or_first : (d : List Val × ℕ) → Option (List Val × ℕ) → List Val × ℕ
    or_first d None = d
    or_first d (Some x) = x

    some_same : (x y : List Val × ℕ) → Some x ≡ Some y → x ≡ y
    some_same x y q = ap (or_first x) q

    or_left : (a b : Bool) → (a || b) ≡ false → a ≡ false
    or_left true b q = q
    or_left false b q = refl
value_place P (e ∷ es) (suc i) k t h none = value_place P es i k t h (or_right (P e.1) (list_any P (values_of es)) none)
  where
    or_right : (a b : Bool) → (a || b) ≡ false → b ≡ false
    or_right true b q = absurd (let z : true ≡ false = q in cc)
    or_right false b q = q

-- some value that passes stands at a place
some_place : (P : ℕ → Bool) (es : List (List Val × ℕ)) → list_any P (values_of es) ≡ true → (i : ℕ) × (k : List Val) × (t : ℕ) × (slice_get es i ≡ Some (k, t)) × (P t ≡ true)
some_place P [] h = absurd (let z : false ≡ true = h in cc)
some_place P (e ∷ es) h = go (P e.1) refl (λ r. some_place P es r)
  where
    or_second : (a b : Bool) → a ≡ false → (a || b) ≡ true → b ≡ true
    or_second true b q r = absurd (let z : true ≡ false = q in cc)
    or_second false b q r = r

    go : (b : Bool) → P e.1 ≡ b → (list_any P (values_of es) ≡ true → ((i : ℕ) × (k : List Val) × (t : ℕ) × (slice_get es i ≡ Some (k, t)) × (P t ≡ true))) → (i : ℕ) × (k : List Val) × (t : ℕ) × (slice_get (e ∷ es) i ≡ Some (k, t)) × (P t ≡ true)
    go true q rest = (0, e.0, e.1, refl, q)
    go false q rest = let r = rest (or_second (P e.1) (list_any P (values_of es)) q h) in (suc r.0, r.1, r.2, r.3, r.4)

-- ---- a row is in its group
in_group : (p : Row → Bool) (rows : List Row) (j : ℕ) (d : Row) → j < length rows → p (get_or rows j d) ≡ true → filter p rows ≡ [] → ⊥
in_group p [] j d lt h e = omega (arith, lt)
in_group p (r ∷ rs) zero d lt h e =
    let z : r ∷ filter p rs ≡ [] = sym (ap (λ b. cond b (r ∷ filter p rs) (filter p rs)) h) ∙ e in
    let n : length (r ∷ filter p rs) ≡ 0 = ap length z in omega (arith, n)
in_group p (r ∷ rs) (suc j) d lt h e = in_group p rs j d (omega (arith, lt)) h (go (p r) e)
  where
    go : (b : Bool) → cond b (r ∷ filter p rs) (filter p rs) ≡ [] → filter p rs ≡ []
    go true q = absurd (let n : length (r ∷ filter p rs) ≡ 0 = ap length q in omega (arith, n))
    go false q = q

module _ (keys : ℕ) (ms : List Measured) (rows : List Row) (g : Groups) (ordered : IsOrdered key_cmp g.places.keys) (are : AreOf keys ms rows g) where
  at_place : (i : ℕ) (k : List Val) (p : ℕ) → slice_get g.places.keys.entries i ≡ Some (k, p) → IsKeyOf keys rows k × All (IsTotalOf (group_of rows k) p) g.tallies.items
  at_place i k p h =
      let e : get key_cmp g.places.keys k ≡ Some p = btree_map_get_place key_cmp-total g.places.keys i k p ordered h in
      (subst (λ o. IsPlace keys rows k o) e (are.places.at k), are.totals k p e)

  has_key : (k : List Val) (o : Option ℕ) → get key_cmp g.places.keys k ≡ o → are_scalars k ≡ true → (o ≡ None → ⊥) → Contains (map (λ (e : List Val × ℕ). e.0) g.places.keys.entries) k
  has_key k None e scalar some = absurd (some refl)
  has_key k (Some t) e scalar some =
      let p = place_from_lookup (is_at (key_cmp k)) g.places.keys.entries t e in
      subst (λ q. Contains (map (λ (e : List Val × ℕ). e.0) g.places.keys.entries) q) (sym (same_exact k p.1 scalar p.3)) (has_place g.places.keys.entries p.0 p.1 t p.2)

  past_of : (k : List Val) (p i : ℕ) → All (IsTotalOf (group_of rows k) p) g.tallies.items → is_past_at (slice_get g.tallies.items i) p ≡ is_sum_past (group_of rows k) (slice_get ms i)
  past_of k p i h = past_at_same g.tallies.items (group_of rows k) p i h ∙ ap (λ ns. is_sum_past (group_of rows k) (slice_get ns i)) are.measures

  -- no sum of a measure is past where none is at the places
  pub none_past : (i : ℕ) → is_past_in g.places.keys (slice_get g.tallies.items i) ≡ false → IsPast ms rows i → ⊥
  none_past i none past = go (get key_cmp g.places.keys past.0) refl (are.places.at past.0)
    where
      nothing : (o : Option Measured) → is_sum_past [] o ≡ false
      nothing None = refl
      nothing (Some Count) = refl
      nothing (Some (Values place)) = refl
      nothing (Some (Summed place)) = refl
      nothing (Some (Least place)) = refl
      nothing (Some (Greatest place)) = refl

      go : (o : Option ℕ) → get key_cmp g.places.keys past.0 ≡ o → IsPlace keys rows past.0 o → ⊥
      go None e h = let z : false ≡ true = sym (nothing (slice_get ms i)) ∙ ap (λ xs. is_sum_past xs (slice_get ms i)) (sym h.0) ∙ past.1 in cc
      go (Some t) e h =
          let p = place_from_lookup (is_at (key_cmp past.0)) g.places.keys.entries t e in
          let f : is_past_at (slice_get g.tallies.items i) t ≡ false = value_place (is_past_at (slice_get g.tallies.items i)) g.places.keys.entries p.0 p.1 t p.2 none in
          let z : false ≡ true = sym f ∙ past_of past.0 t i (are.totals past.0 t e) ∙ past.1 in cc

  -- one is where one is at the places
  pub some_past : (i : ℕ) → is_past_in g.places.keys (slice_get g.tallies.items i) ≡ true → IsPast ms rows i
  some_past i h =
      let p = some_place (is_past_at (slice_get g.tallies.items i)) g.places.keys.entries h in
      (p.1, sym (past_of p.1 p.2 i (at_place p.0 p.1 p.2 p.3).1) ∙ p.4)

  pub first_past : (i : ℕ) → is_past_in g.places.keys (slice_get g.tallies.items i) ≡ true → ((j : ℕ) → j < i → is_past_in g.places.keys (slice_get g.tallies.items j) ≡ false) → IsFirstPast ms rows i
  first_past i h none = record { past = some_past i h; first = λ j lt. none_past j (none j lt) }

  keys_same : (es : List (List Val × ℕ)) → map (λ (x : Group). x.key) (map (made_of g.tallies.items) es) ≡ map (λ (e : List Val × ℕ). e.0) es
  keys_same [] = refl
  keys_same (e ∷ es) = ap (λ ks. e.0 ∷ ks) (keys_same es)

  -- the groups of the rows
  pub all_groups : (groups : List Group) → groups ≡ map (made_of g.tallies.items) g.places.keys.entries → ((i : ℕ) → is_past_in g.places.keys (slice_get g.tallies.items i) ≡ false) → AreGroups keys ms rows groups
  all_groups groups e none = subst (λ gs. AreGroups keys ms rows gs) (sym e) made
    where
      of_row : (row : Row) (j : ℕ) (d : Row) → j < length rows → row ≡ get_or rows j d → are_scalars row.key ≡ true → Contains (map (λ (e : List Val × ℕ). e.0) g.places.keys.entries) row.key
      of_row row j d lt is scalar = has_key row.key (get key_cmp g.places.keys row.key) refl scalar (λ absent. in_group (λ (r : Row). same_key r.key row.key) rows j d lt
          (ap (λ (r : Row). same_key r.key row.key) (sym is) ∙ same_key-equivalence.refl row.key) (gone (get key_cmp g.places.keys row.key) absent (are.places.at row.key)))
        where
          gone : (o : Option ℕ) → o ≡ None → IsPlace keys rows row.key o → group_of rows row.key ≡ []
          gone None q h = h.0
          gone (Some t) q h = absurd (let z : Some t ≡ None = q in cc)

      empty : keys ≡ 0 → Contains (map (λ (e : List Val × ℕ). e.0) g.places.keys.entries) []
      empty zero' = has_key [] (get key_cmp g.places.keys []) refl refl (λ absent. gone (get key_cmp g.places.keys []) absent (are.places.at []))
        where
          gone : (o : Option ℕ) → o ≡ None → IsPlace keys rows [] o → ⊥
          gone None q h = h.1 zero' refl
          gone (Some t) q h = let z : Some t ≡ None = q in cc

      made : AreGroups keys ms rows (map (made_of g.tallies.items) g.places.keys.entries)
      made = record {
        rising = subst (λ ks. IsStrictlySortedBy key_cmp ks) (sym (keys_same g.places.keys.entries)) ordered;
        each = All-map (λ (x : Group). IsKeyOf keys rows x.key) (made_of g.tallies.items) g.places.keys.entries
            (λ i d lt. (at_place i (get_or g.places.keys.entries i d).0 (get_or g.places.keys.entries i d).1 (get_of g.places.keys.entries i d lt)).0);
        all = λ j d lt. subst (λ ks. Contains ks (get_or rows j d).key) (sym (keys_same g.places.keys.entries)) (of_row (get_or rows j d) j d lt refl (are.places.scalars j d lt));
        one = λ zero'. subst (λ ks. Contains ks []) (sym (keys_same g.places.keys.entries)) (empty zero');
        measures = All-map (λ (x : Group). AreMeasures ms (group_of rows x.key) x.measures) (made_of g.tallies.items) g.places.keys.entries (λ i d lt.
            let k = (get_or g.places.keys.entries i d).0 in let p = (get_or g.places.keys.entries i d).1 in let at = get_of g.places.keys.entries i d lt in
            subst (λ ns. AreMeasures ns (group_of rows k) (map (total_val p) g.tallies.items)) are.measures
            (all_measured g.tallies.items (group_of rows k) p (at_place i k p at).1 (λ n. value_place (is_past_at (slice_get g.tallies.items n)) g.places.keys.entries i k p at (none n))));
      }

-- where there is no measure none is past
beyond : (ts : List Tally) (n : ℕ) → length ts ≤ n → slice_get ts n ≡ None
beyond [] n h = refl
beyond (x ∷ ts) zero h = absurd (omega (arith, h))
beyond (x ∷ ts) (suc n) h = beyond ts n (omega (arith, h))

none_any : (ps : List ℕ) → list_any (is_past_at None) ps ≡ false
none_any [] = refl
none_any (p ∷ ps) = none_any ps

pub past_beyond : (g : Groups) (i : ℕ) → length g.tallies.items ≤ i → is_past_in g.places.keys (slice_get g.tallies.items i) ≡ false
past_beyond g i le = ap (is_past_in g.places.keys) (beyond g.tallies.items i le) ∙ none_any (values_of g.places.keys.entries)

-- ---- a total that is past, by its value
some_in : (z : ℤ) (c : Bool) → is_in_range z ≡ c → is_some (in_range z) ≡ c
some_in z true e = rw e refl
some_in z false e = rw e refl

twice : (b : Bool) → b ≡ not (not b)
twice true = refl
twice false = refl

pub past_test : (z : ℤ) (o : Option ℤ) (b : Bool) → o ≡ in_range z → is_some o ≡ not b → b ≡ not (is_in_range z)
past_test z o b e f = twice b ∙ ap not (sym f ∙ ap is_some e ∙ some_in z (is_in_range z) refl)
