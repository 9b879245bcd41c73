-- The index of a bounded cache: what keeps it, and which entry is the first.
use Rattle.std.proofs.Common.{◌≡◌, ◌⊎◌, ℕ, zero, suc, ◌+◌, ◌-◌, ◌<◌, ◌≤◌, ◌==◌, List, [], ◌∷◌, ◌++◌, length, take, Bool, true, false, cond, ◌&&◌, nat_le, nat_lt, Option, Some, None, is_some, is_none, not, refl, sym, ap, subst, ◌∙◌, inl, inr, arith}
use Rattle.std.specs.Prelude.{option_map, IsSome, MatchOption, min}
use Rattle.std.specs.List.{slice_get, AllByRecursion, IsDistinct}
use Rattle.std.specs.Option.{option_map_or}
use Rattle.std.specs.Map.{keys_of, lookup, lookup_entry, remove_entry, set_value}
use Rattle.std.specs.Ordering.{ordering_then, is_eq, is_gt}
use Rattle.std.specs.declared.cmp.Ordering.TheVariants.{Less, Equal, Greater}
use Rattle.std.specs.BTreeMap.{BTreeMap, get, Updates, is_at, IsLowerBound}
use Rattle.std.proofs.lemmas.Map.Keys.{IsDistinct-head, IsDistinct-tail}
use Rattle.std.proofs.lemmas.Bool.{eqb-true, ltb-true, ltb-false}
use Rattle.std.proofs.lemmas.Option.{slice_get_past, slice_get_within}
use Rattle.std.proofs.lemmas.Bool.Decides.{nat_tests, Decides-eqb}
use Rattle.lru.specs.LruCache.{LruCache, lru_cache, promoted, put_entries}
use Rattle.scan_segments.specs.declared.segment.SegmentKey.{SegmentKey}
use Rattle.scan_caches.specs.declared.use_counts.Held.{Held}
use Rattle.scan_segments.specs.Keys.{same_key}
use Rattle.scan_caches.specs.declared.bounded.SegmentEviction.{SegmentEviction}
use Rattle.scan_caches.specs.declared.bounded.SegmentEviction.TheVariants as by
use Rattle.scan_caches.specs.Bounded.{Pair, Uses, count_of, used, least, least_used, is_least, weight, stored, Bounded, fits, is_rare, trimmed, without, uses_after}
use Rattle.scan_caches.specs.UseOrder.{Entry, plain, held, Place, place, place_cmp, Falls, Indexed, behind, is_place, forgotten}
use Rattle.scan_caches.proofs.Weights.{key_same, found_key, take_all, split_last, get_there, absent_same, put-first}
use Rattle.scan_caches.proofs.Plain.{bare, plain-entry, plain-lookup, plain-removed, plain-length, plain-keys}
use Rattle.scan_caches.proofs.Evictions.{key_refl, removed-without}

abbrev Order : Type 0
Order = BTreeMap Place SegmentKey

-- ---- places
both_equal : (a b c d : Bool) → is_eq (ordering_then (cond a Less (cond b Equal Greater)) (cond c Less (cond d Equal Greater))) ≡ true → (b ≡ true) × (d ≡ true)
both_equal true b c d h = absurd (cc)
both_equal false true true d h = absurd (cc)
both_equal false true false true h = (refl, refl)
both_equal false true false false h = absurd (cc)
both_equal false false c d h = absurd (cc)

cmp_is : (p q : Place) → is_eq (place_cmp p q) ≡ true → p ≡ q
cmp_is p q h =
    let e = both_equal (nat_lt p.0 q.0) (p.0 == q.0) (nat_lt p.1 q.1) (p.1 == q.1) h in
    let a : p.0 ≡ q.0 = eqb-true p.0 q.0 e.0 in
    let b : p.1 ≡ q.1 = eqb-true p.1 q.1 e.1 in
    λ i. (a i, b i)

abbrev LowIs : Place → Place → Type 0
LowIs p q = (p.0 < q.0) ⊎ ((p.0 ≡ q.0) × (p.1 ≤ q.1))

not_greater : (a b c d : Bool) → is_gt (ordering_then (cond a Less (cond b Equal Greater)) (cond c Less (cond d Equal Greater))) ≡ false → (a ≡ true) ⊎ ((b ≡ true) × ((c ≡ true) ⊎ (d ≡ true)))
not_greater true b c d h = inl refl
not_greater false true true d h = inr (refl, inl refl)
not_greater false true false true h = inr (refl, inr refl)
not_greater false true false false h = absurd (cc)
not_greater false false c d h = absurd (cc)

second_low : (p q : Place) → ((nat_lt p.1 q.1 ≡ true) ⊎ ((p.1 == q.1) ≡ true)) → p.1 ≤ q.1
second_low p q (inl h) = let l : p.1 < q.1 = ltb-true p.1 q.1 h in omega arith
second_low p q (inr h) = let l : p.1 ≡ q.1 = eqb-true p.1 q.1 h in omega arith

low_by : (p q : Place) → ((nat_lt p.0 q.0 ≡ true) ⊎ (((p.0 == q.0) ≡ true) × ((nat_lt p.1 q.1 ≡ true) ⊎ ((p.1 == q.1) ≡ true)))) → LowIs p q
low_by p q (inl h) = inl (ltb-true p.0 q.0 h)
low_by p q (inr h) = inr (eqb-true p.0 q.0 h.0, second_low p q h.1)

cmp_low : (p q : Place) → is_gt (place_cmp p q) ≡ false → LowIs p q
cmp_low p q h = low_by p q (not_greater (nat_lt p.0 q.0) (p.0 == q.0) (nat_lt p.1 q.1) (p.1 == q.1) h)

-- a map with a place more, or less
put_other : (o n : Order) (p q : Place) (w : Option SegmentKey) → Updates place_cmp o n p w → (p ≡ q → ⊥) → get place_cmp n q ≡ get place_cmp o q
put_other o n p q w u apart = go (is_at (place_cmp p) q) refl
  where
    go : (b : Bool) → is_at (place_cmp p) q ≡ b → get place_cmp n q ≡ get place_cmp o q
    go true e = absurd (apart (cmp_is p q e))
    go false e = u.2 q e

put_same : (o n : Order) (p : Place) (w : Option SegmentKey) → Updates place_cmp o n p w → get place_cmp n p ≡ w
put_same o n p w u = u.1

-- ---- the entries of a list
abbrev pub In : Entry → List Entry → Type 0
In e [] = ⊥
In e (x ∷ xs) = (e ≡ x) ⊎ In e xs

indexed_at : (us : Uses) (o : Order) (es : List Entry) (e : Entry) → Indexed us o es → In e es → get place_cmp o (place us e) ≡ Some e.0
indexed_at us o [] e h i = absurd i
indexed_at us o (x ∷ xs) e h (inl s) = subst (λ y. get place_cmp o (place us y) ≡ Some y.0) (sym s) h.0
indexed_at us o (x ∷ xs) e h (inr i) = indexed_at us o xs e h.1 i

indexed_all : (us : Uses) (o : Order) (es : List Entry) → ((e : Entry) → In e es → get place_cmp o (place us e) ≡ Some e.0) → Indexed us o es
indexed_all us o [] f = tt
indexed_all us o (x ∷ xs) f = (f x (inl refl), indexed_all us o xs (λ e i. f e (inr i)))

fall_low : (n : ℕ) (es : List Entry) (e : Entry) → Falls n es → In e es → e.1.tick < n
fall_low n [] e f i = absurd i
fall_low n (x ∷ xs) e f (inl s) = subst (λ (y : Entry). y.1.tick < n) (sym s) f.0
fall_low n (x ∷ xs) e f (inr i) = let l = fall_low x.1.tick xs e f.1 i in let h = f.0 in omega arith

fall_one : (n : ℕ) (es : List Entry) (e d : Entry) → Falls n es → In e es → In d es → e.1.tick ≡ d.1.tick → e ≡ d
fall_one n [] e d f i j q = absurd i
fall_one n (x ∷ xs) e d f (inl s) (inl t) q = s ∙ sym t
fall_one n (x ∷ xs) e d f (inl s) (inr j) q = let l = fall_low x.1.tick xs d f.1 j in let k : e.1.tick ≡ x.1.tick = ap (λ (y : Entry). y.1.tick) s in absurd (omega arith)
fall_one n (x ∷ xs) e d f (inr i) (inl t) q = let l = fall_low x.1.tick xs e f.1 i in let k : d.1.tick ≡ x.1.tick = ap (λ (y : Entry). y.1.tick) t in absurd (omega arith)
fall_one n (x ∷ xs) e d f (inr i) (inr j) q = fall_one x.1.tick xs e d f.1 i j q

pub fall_more : (n m : ℕ) (es : List Entry) → n ≤ m → Falls n es → Falls m es
fall_more n m [] l f = tt
fall_more n m (x ∷ xs) l f = let h = f.0 in (omega arith, f.1)

fall_step : (b : Bool) (test : SegmentKey → Bool) (n : ℕ) (x : Entry) (xs : List Entry) → test x.0 ≡ b → (x.1.tick < n) × Falls x.1.tick xs → Falls x.1.tick (remove_entry test xs) → Falls n (remove_entry test (x ∷ xs))
fall_step true test n x xs e f ih = let h = f.0 in rw e (fall_more x.1.tick n xs (omega arith) f.1)
fall_step false test n x xs e f ih = rw e (f.0, ih)

pub fall_removed : (test : SegmentKey → Bool) (n : ℕ) (es : List Entry) → Falls n es → Falls n (remove_entry test es)
fall_removed test n [] f = tt
fall_removed test n (x ∷ xs) f = fall_step (test x.0) test n x xs refl f (fall_removed test x.1.tick xs f.1)

in_step : (b : Bool) (test : SegmentKey → Bool) (x : Entry) (xs : List Entry) (e : Entry) → test x.0 ≡ b → (In e (remove_entry test xs) → In e xs) → In e (remove_entry test (x ∷ xs)) → In e (x ∷ xs)
in_step true test x xs e q ih i = inr (rw q at i)
in_step false test x xs e q ih i = by (rw q at i)
  where
    by : In e (x ∷ remove_entry test xs) → In e (x ∷ xs)
    by (inl s) = inl s
    by (inr j) = inr (ih j)

in_removed : (test : SegmentKey → Bool) (es : List Entry) (e : Entry) → In e (remove_entry test es) → In e es
in_removed test [] e i = i
in_removed test (x ∷ xs) e i = in_step (test x.0) test x xs e refl (in_removed test xs e) i

same_sym : (k l : SegmentKey) → same_key k l ≡ false → same_key l k ≡ false
same_sym k l h = go (same_key l k) refl
  where
    go : (b : Bool) → same_key l k ≡ b → same_key l k ≡ false
    go false e = e
    go true e = let one : same_key k l ≡ true = ap (same_key k) (key_same l k e) ∙ key_refl k in absurd (cc)

all_apart : (k : SegmentKey) (es : List Entry) (e : Entry) → AllByRecursion (λ y. same_key k y ≡ false) (keys_of es) → In e es → same_key k e.0 ≡ false
all_apart k [] e a i = absurd i
all_apart k (x ∷ xs) e a (inl s) = ap (λ (y : Entry). same_key k y.0) s ∙ a.0
all_apart k (x ∷ xs) e a (inr i) = all_apart k xs e a.1 i

gone_step : (b : Bool) (k : SegmentKey) (x : Entry) (xs : List Entry) (e : Entry) → same_key k x.0 ≡ b → AllByRecursion (λ y. same_key x.0 y ≡ false) (keys_of xs) → (In e (remove_entry (same_key k) xs) → same_key k e.0 ≡ false) → In e (remove_entry (same_key k) (x ∷ xs)) → same_key k e.0 ≡ false
gone_step true k x xs e q a ih i = ap (λ l. same_key l e.0) (key_same k x.0 q) ∙ all_apart x.0 xs e a (rw q at i)
gone_step false k x xs e q a ih i = by (rw q at i)
  where
    by : In e (x ∷ remove_entry (same_key k) xs) → same_key k e.0 ≡ false
    by (inl s) = ap (λ (y : Entry). same_key k y.0) s ∙ q
    by (inr j) = ih j

-- what stays has another key
stays_apart : (k : SegmentKey) (es : List Entry) (e : Entry) → IsDistinct same_key (keys_of es) → In e (remove_entry (same_key k) es) → same_key k e.0 ≡ false
stays_apart k [] e d i = absurd i
stays_apart k (x ∷ xs) e d i = gone_step (same_key k x.0) k x xs e refl (IsDistinct-head same_key x.0 (keys_of xs) d) (stays_apart k xs e (IsDistinct-tail same_key x.0 (keys_of xs) d)) i

found_step : (b : Bool) (x : Entry) (xs : List Entry) (e : Entry) → same_key e.0 x.0 ≡ b → AllByRecursion (λ y. same_key x.0 y ≡ false) (keys_of xs) → (In e xs → lookup (same_key e.0) xs ≡ Some e.1) → In e (x ∷ xs) → lookup (same_key e.0) (x ∷ xs) ≡ Some e.1
found_step true x xs e q a ih (inl s) = rw q (ap (λ (y : Entry). Some y.1) (sym s))
found_step true x xs e q a ih (inr i) = let no = same_sym x.0 e.0 (all_apart x.0 xs e a i) in absurd (cc)
found_step false x xs e q a ih (inl s) = let one : same_key e.0 x.0 ≡ true = ap (λ (y : Entry). same_key y.0 x.0) s ∙ key_refl x.0 in absurd (cc)
found_step false x xs e q a ih (inr i) = rw q (ih i)

in_found : (es : List Entry) (e : Entry) → IsDistinct same_key (keys_of es) → In e es → lookup (same_key e.0) es ≡ Some e.1
in_found [] e d i = absurd i
in_found (x ∷ xs) e d i = found_step (same_key e.0 x.0) x xs e refl (IsDistinct-head same_key x.0 (keys_of xs) d) (in_found xs e (IsDistinct-tail same_key x.0 (keys_of xs) d)) i

there_step : (b : Bool) (k : SegmentKey) (x : Entry) (xs : List Entry) (h : Held) → same_key k x.0 ≡ b → (lookup (same_key k) xs ≡ Some h → In (k, h) xs) → lookup (same_key k) (x ∷ xs) ≡ Some h → In (k, h) (x ∷ xs)
there_step true k x xs h q ih is =
    let s : Some x.1 ≡ Some h = rw q at is in
    let one : x.1 ≡ h = cc in
    let key : k ≡ x.0 = key_same k x.0 q in
    inl (λ i. (key i, sym one i))
there_step false k x xs h q ih is = inr (ih (rw q at is))

found_in : (k : SegmentKey) (es : List Entry) (h : Held) → lookup (same_key k) es ≡ Some h → In (k, h) es
found_in k [] h is = absurd (cc)
found_in k (x ∷ xs) h is = there_step (same_key k x.0) k x xs h refl (found_in k xs h) is

apart_step : (b : Bool) (k : SegmentKey) (h : Held) (x : Entry) (xs : List Entry) (e : Entry) → same_key k x.0 ≡ b → Falls x.1.tick xs
    → (lookup (same_key k) xs ≡ Some h → In e (remove_entry (same_key k) xs) → e.1.tick ≡ h.tick → ⊥)
    → lookup (same_key k) (x ∷ xs) ≡ Some h → In e (remove_entry (same_key k) (x ∷ xs)) → e.1.tick ≡ h.tick → ⊥
apart_step true k h x xs e q f ih is i t =
    let s : Some x.1 ≡ Some h = rw q at is in
    let one : x.1 ≡ h = cc in
    let same : x.1.tick ≡ h.tick = ap (λ (y : Held). y.tick) one in
    let l = fall_low x.1.tick xs e f (rw q at i) in absurd (omega (arith, same, l, t))
apart_step false k h x xs e q f ih is i t = by (rw q at i)
  where
    below : h.tick < x.1.tick
    below = fall_low x.1.tick xs (k, h) f (found_in k xs h (rw q at is))

    by : In e (x ∷ remove_entry (same_key k) xs) → ⊥
    by (inl s) = let same : e.1.tick ≡ x.1.tick = ap (λ (y : Entry). y.1.tick) s in let l = below in absurd (omega (arith, same, l, t))
    by (inr j) = ih (rw q at is) j t

-- what stays came to the front at another time
tick_apart : (n : ℕ) (k : SegmentKey) (h : Held) (es : List Entry) (e : Entry) → Falls n es → lookup (same_key k) es ≡ Some h → In e (remove_entry (same_key k) es) → e.1.tick ≡ h.tick → ⊥
tick_apart n k h [] e f is i t = absurd (cc)
tick_apart n k h (x ∷ xs) e f is i t = apart_step (same_key k x.0) k h x xs e refl f.1 (tick_apart x.1.tick k h xs e f.1) is i t

-- ---- the front entry's place
pub index_front : (us : Uses) (o n : Order) (es : List Entry) (m : ℕ) (k : SegmentKey) (h : Held) (c : ℕ) (k' : SegmentKey) → Falls m es → slice_get es 0 ≡ Some (k, h) → Indexed us o (behind true es) → c ≡ count_of us k → k' ≡ k → Updates place_cmp o n (c, h.tick) (Some k') → Indexed us n es
index_front us o n [] m k h c k' f s x cis kis u = absurd (cc)
index_front us o n (e ∷ es) m k h c k' f s x cis kis u =
    let one : e ≡ (k, h) = cc in
    let key : k ≡ e.0 = ap (λ (y : Entry). y.0) (sym one) in
    let tick : h.tick ≡ e.1.tick = ap (λ (y : Entry). y.1.tick) (sym one) in
    let here : (c, h.tick) ≡ place us e = (λ i. ((cis ∙ ap (count_of us) key) i, tick i)) in (
      ap (get place_cmp n) (sym here) ∙ put_same o n (c, h.tick) (Some k') u ∙ ap Some (kis ∙ key),
      indexed_all us n es (λ d i. put_other o n (c, h.tick) (place us d) (Some k') u (λ q. let l = fall_low e.1.tick es d f.1 i in let t : h.tick ≡ d.1.tick = ap (λ (p : Place). p.1) q in omega arith) ∙ indexed_at us o es d x i),
    )

pub in_behind : (b : Bool) (es : List Entry) (e : Entry) → In e (behind b es) → In e es
in_behind false es e i = i
in_behind true [] e i = i
in_behind true (x ∷ xs) e i = inr i

-- ---- a place that no entry has goes
placed : (us : Uses) (es : List Entry) (e : Entry) → IsDistinct same_key (keys_of es) → In e es → is_place us es (place us e) e.0 ≡ true
placed us es e d i =
    let f = in_found es e d i in
    let a : (count_of us e.0 == count_of us e.0) ≡ true = (Decides-eqb (count_of us e.0) (count_of us e.0)).1 refl in
    let b : (e.1.tick == e.1.tick) ≡ true = (Decides-eqb e.1.tick e.1.tick).1 refl in
    rw (f, a, b) refl

-- where what goes is no place of an entry
pub index_passed : (us : Uses) (o n : Order) (es ds : List Entry) (p : Place) (k : SegmentKey) → IsDistinct same_key (keys_of es) → ((e : Entry) → In e ds → In e es) → get place_cmp o p ≡ Some k → (is_place us es p k ≡ false) → Updates place_cmp o n p None → Indexed us o ds → Indexed us n ds
index_passed us o n es ds p k d inside at stale u x =
    indexed_all us n ds (λ e i. put_other o n p (place us e) None u (λ q.
    let held = indexed_at us o ds e x i in
    let same : Some k ≡ Some e.0 = sym at ∙ ap (get place_cmp o) q ∙ held in
    let key : k ≡ e.0 = cc in
    let yes : is_place us es p k ≡ true = (λ j. is_place us es (q j) (key j)) ∙ placed us es e d (inside e i) in
    absurd (cc)) ∙ indexed_at us o ds e x i)

-- where it is that of an entry that goes too
pub index_gone : (us : Uses) (o n : Order) (es : List Entry) (p : Place) (k : SegmentKey) → IsDistinct same_key (keys_of es) → get place_cmp o p ≡ Some k → Updates place_cmp o n p None → Indexed us o es → Indexed us n (remove_entry (same_key k) es)
index_gone us o n es p k d at u x =
    indexed_all us n (remove_entry (same_key k) es) (λ e i.
    let there = in_removed (same_key k) es e i in
    let apart = stays_apart k es e d i in
    put_other o n p (place us e) None u (λ q.
    let same : Some k ≡ Some e.0 = sym at ∙ ap (get place_cmp o) q ∙ indexed_at us o es e x there in
    let key : k ≡ e.0 = cc in
    let one : same_key k e.0 ≡ true = ap (same_key k) (sym key) ∙ key_refl k in absurd (cc)) ∙ indexed_at us o es e x there)

-- where it is that of the entry of this key
pub index_left : (us : Uses) (o n : Order) (es : List Entry) (m c : ℕ) (k : SegmentKey) (h : Held) → Falls m es → lookup (same_key k) es ≡ Some h → Updates place_cmp o n (c, h.tick) None → Indexed us o (remove_entry (same_key k) es) → Indexed us n (remove_entry (same_key k) es)
index_left us o n es m c k h f is u x =
    indexed_all us n (remove_entry (same_key k) es) (λ e i.
    put_other o n (c, h.tick) (place us e) None u (λ q. tick_apart m k h es e f is i (sym (ap (λ (p : Place). p.1) q))) ∙ indexed_at us o (remove_entry (same_key k) es) e x i)

index_removed : (test : SegmentKey → Bool) (us : Uses) (o : Order) (es : List Entry) → Indexed us o es → Indexed us o (remove_entry test es)
index_removed test us o es x = indexed_all us o (remove_entry test es) (λ e i. indexed_at us o es e x (in_removed test es e i))

-- the same, where the key may be no entry's
pub index_own : (us : Uses) (o n : Order) (es : List Entry) (m : ℕ) (k : SegmentKey) (p : Option Place) → Falls m es → p ≡ option_map (λ h. place us (k, h)) (lookup (same_key k) es)
    → MatchOption p (n ≡ o) (λ q. Updates place_cmp o n q None) → Indexed us o es → Indexed us n (remove_entry (same_key k) es)
index_own us o n es m k p f is u x = go (lookup (same_key k) es) refl
  where
    left : Indexed us o (remove_entry (same_key k) es)
    left = index_removed (same_key k) us o es x

    go : (h : Option Held) → lookup (same_key k) es ≡ h → Indexed us n (remove_entry (same_key k) es)
    go None e =
        let none : p ≡ None = is ∙ ap (option_map (λ h. place us (k, h))) e in
        let same : n ≡ o = subst (λ r. MatchOption r (n ≡ o) (λ q. Updates place_cmp o n q None)) none u in
        subst (λ q. Indexed us q (remove_entry (same_key k) es)) (sym same) left
    go (Some h) e =
        let at : p ≡ Some (count_of us k, h.tick) = is ∙ ap (option_map (λ h. place us (k, h))) e in
        index_left us o n es m (count_of us k) k h f e (subst (λ r. MatchOption r (n ≡ o) (λ q. Updates place_cmp o n q None)) at u) left

-- ---- the entry of the least count
least_step : (b : Bool) (us : Uses) (x y : Entry) (ys : List Entry) (t : SegmentKey) → nat_le (count_of us y.0) (count_of us x.0) ≡ b
    → (nat_le (count_of us y.0) (count_of us x.0) ≡ true → least us y.0 (plain ys) ≡ t)
    → (nat_le (count_of us y.0) (count_of us x.0) ≡ false → least us x.0 (plain ys) ≡ t) → least us x.0 (plain (y ∷ ys)) ≡ t
least_step true us x y ys t q f g = subst (λ b. least us (cond b y.0 x.0) (plain ys) ≡ t) (sym q) (f q)
least_step false us x y ys t q f g = subst (λ b. least us (cond b y.0 x.0) (plain ys) ≡ t) (sym q) (g q)

at_next : (us : Uses) (x y : Entry) (ys : List Entry) (t : Entry) → nat_le (count_of us y.0) (count_of us x.0) ≡ true → y.1.tick < x.1.tick → LowIs (place us t) (place us y) → In t (x ∷ y ∷ ys) → In t (y ∷ ys)
at_next us x y ys t q l low (inr i) = i
at_next us x y ys t q l (inl less) (inl s) =
    let le : count_of us y.0 ≤ count_of us x.0 = grind (arith, nat_tests) in
    let c : count_of us t.0 ≡ count_of us x.0 = ap (λ (e : Entry). count_of us e.0) s in absurd (omega arith)
at_next us x y ys t q l (inr same) (inl s) =
    let old = same.1 in
    let c : t.1.tick ≡ x.1.tick = ap (λ (e : Entry). e.1.tick) s in absurd (omega arith)

at_stays : (us : Uses) (x y : Entry) (ys : List Entry) (t : Entry) → nat_le (count_of us y.0) (count_of us x.0) ≡ false → LowIs (place us t) (place us x) → In t (x ∷ y ∷ ys) → In t (x ∷ ys)
at_stays us x y ys t q low (inl s) = inl s
at_stays us x y ys t q low (inr (inr i)) = inr i
at_stays us x y ys t q (inl less) (inr (inl s)) =
    let more : count_of us x.0 < count_of us y.0 = grind (arith, nat_tests) in
    let c : count_of us t.0 ≡ count_of us y.0 = ap (λ (e : Entry). count_of us e.0) s in absurd (omega arith)
at_stays us x y ys t q (inr same) (inr (inl s)) =
    let more : count_of us x.0 < count_of us y.0 = grind (arith, nat_tests) in
    let c : count_of us t.0 ≡ count_of us y.0 = ap (λ (e : Entry). count_of us e.0) s in let d = same.0 in absurd (omega arith)

wider : (x y : Entry) (ys : List Entry) (e : Entry) → In e (x ∷ ys) → In e (x ∷ y ∷ ys)
wider x y ys e (inl s) = inl s
wider x y ys e (inr i) = inr (inr i)

least_is : (us : Uses) (x : Entry) (xs : List Entry) (t : Entry) → Falls x.1.tick xs → ((e : Entry) → In e (x ∷ xs) → LowIs (place us t) (place us e)) → In t (x ∷ xs) → least us x.0 (plain xs) ≡ t.0
least_is us x [] t f low (inl s) = ap (λ (e : Entry). e.0) (sym s)
least_is us x [] t f low (inr i) = absurd i
least_is us x (y ∷ ys) t f low at =
    least_step (nat_le (count_of us y.0) (count_of us x.0)) us x y ys t.0 refl
    (λ q. least_is us y ys t f.1 (λ e i. low e (inr i)) (at_next us x y ys t q f.0 (low y (inr (inl refl))) at))
    (λ q. let l = f.0 in least_is us x ys t (fall_more y.1.tick x.1.tick ys (omega arith) f.1) (λ e i. low e (wider x y ys e i)) (at_stays us x y ys t q (low x (inl refl)) at))

least_of : (us : Uses) (n : ℕ) (es : List Entry) (t : Entry) → Falls n es → ((e : Entry) → In e es → LowIs (place us t) (place us e)) → In t es → least_used us (plain es) ≡ Some t.0
least_of us n [] t f low at = absurd at
least_of us n (x ∷ xs) t f low at = ap Some (least_is us x xs t f.1 low at)

both : (a b : Bool) → (a && b) ≡ true → (a ≡ true) × (b ≡ true)
both true b h = (refl, h)
both false b h = absurd (cc)

-- the entry at a place
at_place : (us : Uses) (es : List Entry) (p : Place) (k : SegmentKey) → is_place us es p k ≡ true → (h : Held) × (lookup (same_key k) es ≡ Some h) × (place us (k, h) ≡ p)
at_place us es p k is = go (lookup (same_key k) es) refl
  where
    go : (o : Option Held) → lookup (same_key k) es ≡ o → (h : Held) × (lookup (same_key k) es ≡ Some h) × (place us (k, h) ≡ p)
    go None eq = let no : false ≡ true = rw eq at is in absurd (cc)
    go (Some h) eq =
        let yes : ((h.tick == p.1) && (count_of us k == p.0)) ≡ true = rw eq at is in
        let t = both (h.tick == p.1) (count_of us k == p.0) yes in
        let a : count_of us k ≡ p.0 = eqb-true (count_of us k) p.0 t.1 in
        let b : h.tick ≡ p.1 = eqb-true h.tick p.1 t.0 in
        (h, eq, λ i. (a i, b i))

lows : (us : Uses) (o : Order) (es : List Entry) (p : Place) → Indexed us o es → IsLowerBound place_cmp o p → (e : Entry) → In e es → LowIs p (place us e)
lows us o es p x low e i =
    let held = indexed_at us o es e x i in
    cmp_low p (place us e) (low (place us e) (subst (λ v. IsSome v) (sym held) refl))

-- of those behind the front one
pub first_goes : (us : Uses) (o : Order) (es : List Entry) (m newest : ℕ) (p : Place) (k : SegmentKey) → Falls m es
    → option_map (λ e. e.1.tick) (slice_get es 0) ≡ Some newest → Indexed us o (behind true es) → IsLowerBound place_cmp o p → p.1 < newest
    → is_place us es p k ≡ true → least_used us (plain (behind true es)) ≡ Some k
first_goes us o [] m newest p k f s x low l is = absurd (cc)
first_goes us o (e ∷ es) m newest p k f s x low l is =
    let found = at_place us (e ∷ es) p k is in
    let new : e.1.tick ≡ newest = cc in
    let tick : found.0.tick ≡ p.1 = ap (λ (q : Place). q.1) found.2 in
    least_of us e.1.tick es (k, found.0) f.1 (λ d i. subst (λ q. LowIs q (place us d)) (sym found.2) (lows us o es p x low d i)) (by (omega arith) (found_in k (e ∷ es) found.0 found.1))
  where
    by : {h : Held} → h.tick < e.1.tick → In (k, h) (e ∷ es) → In (k, h) es
    by less (inl s) = let c = ap (λ (y : Entry). y.1.tick) s in absurd (omega arith)
    by less (inr i) = i

-- no entry is below the first place
least_all : (us : Uses) (k : SegmentKey) (es : List Entry) → ((e : Entry) → In e es → count_of us k ≤ count_of us e.0) → is_least us k (plain es) ≡ true
least_all us k [] f = refl
least_all us k (x ∷ xs) f =
    let l = f x (inl refl) in
    let yes : nat_le (count_of us k) (count_of us x.0) ≡ true = grind (arith, nat_tests) in
    rw yes (least_all us k xs (λ e i. f e (inr i)))

least_not : (us : Uses) (k : SegmentKey) (es : List Entry) (t : Entry) → In t es → count_of us t.0 < count_of us k → is_least us k (plain es) ≡ false
least_not us k [] t i l = absurd i
least_not us k (x ∷ xs) t (inl s) l =
    let c : count_of us t.0 ≡ count_of us x.0 = ap (λ (e : Entry). count_of us e.0) s in
    let no : nat_le (count_of us k) (count_of us x.0) ≡ false = grind (arith, nat_tests) in rw no refl
least_not us k (x ∷ xs) t (inr i) l = rest (nat_le (count_of us k) (count_of us x.0)) (least_not us k xs t i l)
  where
    rest : (b : Bool) → is_least us k (plain xs) ≡ false → (b && is_least us k (plain xs)) ≡ false
    rest true e = e
    rest false e = refl

pub first_least : (us : Uses) (o : Order) (es : List Entry) (p : Place) (k j : SegmentKey) (c : ℕ) → Indexed us o es → IsLowerBound place_cmp o p → is_place us es p j ≡ true → c ≡ count_of us k → nat_le c p.0 ≡ is_least us k (plain es)
first_least us o es p k j c x low is cis = go (nat_le c p.0) refl
  where
    least_count : (e : Entry) → LowIs p (place us e) → p.0 ≤ count_of us e.0
    least_count e (inl h) = omega arith
    least_count e (inr h) = let a = h.0 in omega arith

    go : (b : Bool) → nat_le c p.0 ≡ b → nat_le c p.0 ≡ is_least us k (plain es)
    go true q =
        let le : c ≤ p.0 = grind (arith, nat_tests) in
        q ∙ sym (least_all us k es (λ e i. let l = least_count e (lows us o es p x low e i) in omega (arith, cis)))
    go false q =
        let found = at_place us es p j is in
        let more : p.0 < c = grind (arith, nat_tests) in
        let same : count_of us j ≡ p.0 = ap (λ (q : Place). q.0) found.2 in
        q ∙ sym (least_not us k es (j, found.0) (found_in j es found.0 found.1) (omega (arith, cis)))

pub no_places : (us : Uses) (o : Order) (es : List Entry) → o.entries ≡ [] → Indexed us o es → es ≡ []
no_places us o [] e x = refl
no_places us o (y ∷ ys) e x = let none : None ≡ Some y.0 = sym (ap (λ ps. lookup (is_at (place_cmp (place us y))) ps) e) ∙ x.0 in absurd (cc)

-- ---- counts after one more use
module _ {V : Type 0} where
  other_step : (b : Bool) (k q : SegmentKey) (x : SegmentKey × V) (xs : List (SegmentKey × V)) → same_key k x.0 ≡ b → same_key q k ≡ false
      → lookup (same_key q) (remove_entry (same_key k) xs) ≡ lookup (same_key q) xs
      → lookup (same_key q) (remove_entry (same_key k) (x ∷ xs)) ≡ lookup (same_key q) (x ∷ xs)
  other_step true k q x xs e apart ih = let other : same_key q x.0 ≡ false = ap (same_key q) (sym (key_same k x.0 e)) ∙ apart in rw (e, other) refl
  other_step false k q x xs e apart ih = rw e (ap (cond (same_key q x.0) (Some x.1)) ih)

  lookup_others : (k q : SegmentKey) (es : List (SegmentKey × V)) → same_key q k ≡ false → lookup (same_key q) (remove_entry (same_key k) es) ≡ lookup (same_key q) es
  lookup_others k q [] apart = refl
  lookup_others k q (x ∷ xs) apart = other_step (same_key k x.0) k q x xs refl apart (lookup_others k q xs apart)

  before_last : (q : SegmentKey) (xs : List (SegmentKey × V)) (d : SegmentKey × V) → same_key q d.0 ≡ false → lookup (same_key q) (xs ++ d ∷ []) ≡ lookup (same_key q) xs
  before_last q [] d apart = rw apart refl
  before_last q (x ∷ xs) d apart = ap (cond (same_key q x.0) (Some x.1)) (before_last q xs d apart)

  last_apart : (k : SegmentKey) (xs : List (SegmentKey × V)) (d : SegmentKey × V) → AllByRecursion (λ y. same_key k y ≡ false) (keys_of (xs ++ d ∷ [])) → same_key k d.0 ≡ false
  last_apart k [] d a = a.0
  last_apart k (x ∷ xs) d a = last_apart k xs d a.1

  none_last : (xs : List (SegmentKey × V)) (d : SegmentKey × V) → IsDistinct same_key (keys_of (xs ++ d ∷ [])) → lookup (same_key d.0) xs ≡ None
  none_last [] d a = refl
  none_last (x ∷ xs) d a =
      let one : same_key d.0 x.0 ≡ false = same_sym x.0 d.0 (last_apart x.0 xs d (IsDistinct-head same_key x.0 (keys_of (xs ++ d ∷ [])) a)) in
      rw one (none_last xs d (IsDistinct-tail same_key x.0 (keys_of (xs ++ d ∷ [])) a))

count_by_lookup : (us vs : Uses) (q : SegmentKey) → lookup (same_key q) vs ≡ lookup (same_key q) us → count_of vs q ≡ count_of us q
count_by_lookup us vs q e = ap (λ o. option_map_or (λ n. n) o 0) e

module _ (n : ℕ) (k : SegmentKey) (us : Uses) (long : length us ≤ n) where
  cut_other : (q : SegmentKey) (v : ℕ) (o : Option (SegmentKey × ℕ)) → slice_get us (n - 1) ≡ o
      → option_map_or (λ e. Some e.0) o None ≡ None ⊎ ((d : SegmentKey) × (option_map_or (λ e. Some e.0) o None ≡ Some d) × (same_key q d ≡ false))
      → same_key q k ≡ false → count_of ((k, v) ∷ take (n - 1) us) q ≡ count_of us q
  cut_other q v None e h apart = rw apart (ap (λ vs. count_of vs q) (take_all (n - 1) us (get_there us (n - 1) e)))
  cut_other q v (Some d) e (inl h) apart = absurd (cc)
  cut_other q v (Some d) e (inr h) apart =
      let same : d.0 ≡ h.0 = (let t : Some d.0 ≡ Some h.0 = h.1 in cc) in
      let other : same_key q d.0 ≡ false = ap (same_key q) same ∙ h.2 in
      let inside = get_within us (n - 1) d e in
      let whole : us ≡ take (n - 1) us ++ d ∷ [] = split_last us (n - 1) d (omega arith) e in
      rw apart (count_by_lookup us (take (n - 1) us) q (sym (before_last q (take (n - 1) us) d other) ∙ ap (lookup (same_key q)) (sym whole)))
    where
      get_within : (xs : Uses) (i : ℕ) (d : SegmentKey × ℕ) → slice_get xs i ≡ Some d → i < length xs
      get_within [] i d s = absurd (cc)
      get_within (x ∷ xs) zero d s = omega arith
      get_within (x ∷ xs) (suc i) d s = let ih = get_within xs i d s in omega arith

module _ {V : Type 0} (test : SegmentKey → Bool) where
  some_step : (b : Bool) (x : SegmentKey × V) (xs : List (SegmentKey × V)) → test x.0 ≡ b → (is_some (lookup test xs) ≡ is_some (lookup_entry test xs)) → is_some (lookup test (x ∷ xs)) ≡ is_some (lookup_entry test (x ∷ xs))
  some_step true x xs q ih = rw q refl
  some_step false x xs q ih = rw q ih

  some_both : (es : List (SegmentKey × V)) → is_some (lookup test es) ≡ is_some (lookup_entry test es)
  some_both [] = refl
  some_both (x ∷ xs) = some_step (test x.0) x xs refl (some_both xs)

  pub none_there : (es : List (SegmentKey × V)) → is_some (lookup test es) ≡ false → lookup_entry test es ≡ None
  none_there es h = go (lookup_entry test es) refl
    where
      go : (o : Option (SegmentKey × V)) → lookup_entry test es ≡ o → lookup_entry test es ≡ None
      go None e = e
      go (Some x) e = let no : true ≡ false = sym (ap is_some e) ∙ sym (some_both es) ∙ h in absurd (cc)

  pub some_there : (es : List (SegmentKey × V)) → is_some (lookup test es) ≡ true → (x : SegmentKey × V) × (lookup_entry test es ≡ Some x)
  some_there es h = go (lookup_entry test es) refl
    where
      go : (o : Option (SegmentKey × V)) → lookup_entry test es ≡ o → (x : SegmentKey × V) × (lookup_entry test es ≡ Some x)
      go None e = let no : false ≡ true = sym (ap is_some e) ∙ sym (some_both es) ∙ h in absurd (cc)
      go (Some x) e = (x, e)

-- ---- which key is forgotten
pub kept_where : (n v : ℕ) (k : SegmentKey) (us : Uses) → lookup (same_key k) us ≡ Some v → forgotten n k us ≡ None
kept_where n v k us h = let e = some_there (same_key k) us (ap is_some h) in rw e.1 refl

pub kept_all : (n : ℕ) (k : SegmentKey) (us : Uses) → length us < n → None ≡ forgotten n k us
kept_all n k us l = go (lookup_entry (same_key k) us) refl
  where
    past : slice_get us (n - 1) ≡ None
    past = slice_get_past us (n - 1) (omega arith)

    go : (o : Option (SegmentKey × ℕ)) → lookup_entry (same_key k) us ≡ o → None ≡ forgotten n k us
    go None e = rw (e, past) refl
    go (Some x) e = rw e refl

pub last_goes : (n : ℕ) (k : SegmentKey) (us : Uses) (o : Option (SegmentKey × ℕ)) → is_some (lookup (same_key k) us) ≡ false → length us ≤ n → (length us < n → ⊥) → o ≡ slice_get us (length us - 1) → option_map_or (λ e. Some e.0) o None ≡ forgotten n k us
last_goes n k us o h l full is =
    let same : length us - 1 ≡ n - 1 = by (length us) l full in
    rw (none_there (same_key k) us h) (ap (λ o. option_map_or (λ e. Some e.0) o None) (is ∙ ap (slice_get us) same))
  where
    by : (m : ℕ) → m ≤ n → (m < n → ⊥) → m - 1 ≡ n - 1
    by m l f = go (nat_lt m n) refl
      where
        go : (b : Bool) → nat_lt m n ≡ b → m - 1 ≡ n - 1
        go true e = absurd (f (ltb-true m n e))
        go false e = let le : n ≤ m = ltb-false m n e in omega arith

module _ (n : ℕ) (k : SegmentKey) (us : Uses) (long : length us ≤ n) where
  count_used : (q : SegmentKey) → (forgotten n k us ≡ None) ⊎ ((d : SegmentKey) × (forgotten n k us ≡ Some d) × (same_key q d ≡ false)) → same_key q k ≡ false → count_of (used n k us) q ≡ count_of us q
  count_used q h apart = go (lookup_entry (same_key k) us) refl h
    where
      go : (o : Option (SegmentKey × ℕ)) → lookup_entry (same_key k) us ≡ o → (forgotten n k us ≡ None) ⊎ ((d : SegmentKey) × (forgotten n k us ≡ Some d) × (same_key q d ≡ false)) → count_of (used n k us) q ≡ count_of us q
      go (Some e) eq h =
          let other : same_key q e.0 ≡ false = ap (same_key q) (sym (found_key k us e eq)) ∙ apart in
          rw (eq, other) (count_by_lookup us (remove_entry (same_key k) us) q (lookup_others k q us apart))
      go None eq (inl h) = rw eq (cut_other n k us long q _ (slice_get us (n - 1)) refl (inl (rw eq at h)) apart)
      go None eq (inr h) = let is : option_map_or (λ e. Some e.0) (slice_get us (n - 1)) None ≡ Some h.0 = rw eq at h.1 in rw eq (cut_other n k us long q _ (slice_get us (n - 1)) refl (inr (h.0, is, h.2)) apart)

  count_lost : (d : SegmentKey) → forgotten n k us ≡ Some d → same_key d k ≡ false → IsDistinct same_key (keys_of us) → count_of (used n k us) d ≡ 0
  count_lost d h apart a = go (lookup_entry (same_key k) us) refl
    where
      gone : (o : Option (SegmentKey × ℕ)) → slice_get us (n - 1) ≡ o → option_map_or (λ e. Some e.0) o None ≡ Some d → lookup (same_key d) (take (n - 1) us) ≡ None
      gone None e s = absurd (cc)
      gone (Some x) e s =
          let same : x.0 ≡ d = cc in
          let inside = slice_get_within us (n - 1) x e in
          let whole : us ≡ take (n - 1) us ++ x ∷ [] = split_last us (n - 1) x (omega arith) e in
          ap (λ q. lookup (same_key q) (take (n - 1) us)) (sym same) ∙ none_last (take (n - 1) us) x (subst (λ vs. IsDistinct same_key (keys_of vs)) whole a)

      go : (o : Option (SegmentKey × ℕ)) → lookup_entry (same_key k) us ≡ o → count_of (used n k us) d ≡ 0
      go (Some e) eq = let no : None ≡ Some d = rw eq at h in absurd (cc)
      go None eq =
          let is : option_map_or (λ e. Some e.0) (slice_get us (n - 1)) None ≡ Some d = rw eq at h in
          rw (eq, apart) (ap (λ o. option_map_or (λ n. n) o 0) (gone (slice_get us (n - 1)) refl is))

module _ {V : Type 0} (test : SegmentKey → Bool) where
  entry_step : (b : Bool) (x : SegmentKey × V) (xs : List (SegmentKey × V)) → test x.0 ≡ b → lookup test xs ≡ option_map_or (λ e. Some e.1) (lookup_entry test xs) None → lookup test (x ∷ xs) ≡ option_map_or (λ e. Some e.1) (lookup_entry test (x ∷ xs)) None
  entry_step true x xs q ih = rw q refl
  entry_step false x xs q ih = rw q ih

  by_entry : (es : List (SegmentKey × V)) → lookup test es ≡ option_map_or (λ e. Some e.1) (lookup_entry test es) None
  by_entry [] = refl
  by_entry (x ∷ xs) = entry_step (test x.0) x xs refl (by_entry xs)

-- ---- one more use
pub again_is : (n v w : ℕ) (k : SegmentKey) (us : Uses) → lookup (same_key k) us ≡ Some v → w ≡ min (v + 1) 18446744073709551615 → set_value (same_key k) (promoted (same_key k) us) w ≡ used n k us
again_is n v w k us at is = go (lookup_entry (same_key k) us) refl
  where
    more : w ≡ min (count_of us k + 1) 18446744073709551615
    more = is ∙ ap (λ o. min (option_map_or (λ n. n) o 0 + 1) 18446744073709551615) (sym at)

    go : (o : Option (SegmentKey × ℕ)) → lookup_entry (same_key k) us ≡ o → set_value (same_key k) (promoted (same_key k) us) w ≡ used n k us
    go None e = let no : Some v ≡ None = sym at ∙ by_entry (same_key k) us ∙ ap (λ o. option_map_or (λ e. Some e.1) o None) e in absurd (cc)
    go (Some f) e =
        let yes : same_key k f.0 ≡ true = ap (same_key k) (sym (found_key k us f e)) ∙ key_refl k in
        rw (e, yes) (ap (λ m. (f.0, m) ∷ remove_entry (same_key k) us) more)

-- ---- the index after one more use
module _ (n : ℕ) (k : SegmentKey) (us : Uses) (o : Order) (es : List Entry) (long : length us ≤ n) (apart : IsDistinct same_key (keys_of es)) (x : Indexed us o es) where
  at_count : (e : Entry) → In e (remove_entry (same_key k) es) → count_of (used n k us) e.0 ≡ count_of us e.0 → get place_cmp o (place (used n k us) e) ≡ Some e.0
  at_count e i c = ap (λ j. get place_cmp o (j, e.1.tick)) c ∙ indexed_at us o es e x (in_removed (same_key k) es e i)

  pub index_kept : forgotten n k us ≡ None → Indexed (used n k us) o (remove_entry (same_key k) es)
  index_kept f = indexed_all (used n k us) o (remove_entry (same_key k) es) (λ e i. at_count e i (count_used n k us long e.0 (inl f) (same_sym k e.0 (stays_apart k es e apart i))))

  pub index_other : (d : SegmentKey) → forgotten n k us ≡ Some d → lookup (same_key d) es ≡ None → Indexed (used n k us) o (remove_entry (same_key k) es)
  index_other d f none = indexed_all (used n k us) o (remove_entry (same_key k) es) (λ e i. at_count e i (count_used n k us long e.0 (inr (d, f, other e i)) (same_sym k e.0 (stays_apart k es e apart i))))
    where
      other : (e : Entry) → In e (remove_entry (same_key k) es) → same_key e.0 d ≡ false
      other e i = go (same_key e.0 d) refl
        where
          go : (b : Bool) → same_key e.0 d ≡ b → same_key e.0 d ≡ false
          go false q = q
          go true q =
              let found : lookup (same_key e.0) es ≡ Some e.1 = in_found es e apart (in_removed (same_key k) es e i) in
              let no : None ≡ Some e.1 = sym none ∙ ap (λ j. lookup (same_key j) es) (sym (key_same e.0 d q)) ∙ found in absurd (cc)

  module _ (m : ℕ) (fall : Falls m es) (p : Order) (d d' : SegmentKey) (h : Held) (f : forgotten n k us ≡ Some d) (there : lookup (same_key d) es ≡ Some h) (same : d' ≡ d) (u : Updates place_cmp o p (0, h.tick) (Some d')) where
    is_lost : (e : Entry) → In e es → h.tick ≡ e.1.tick → e ≡ (d, h)
    is_lost e i t = fall_one m es e (d, h) fall i (found_in d es h there) (sym t)

    pub index_lost : Indexed us p es
    index_lost = indexed_all us p es (λ e i. by e i (is_at (place_cmp (0, h.tick)) (place us e)) refl)
      where
        by : (e : Entry) → In e es → (b : Bool) → is_at (place_cmp (0, h.tick)) (place us e) ≡ b → get place_cmp p (place us e) ≡ Some e.0
        by e i false q = u.2 (place us e) q ∙ indexed_at us o es e x i
        by e i true q =
            let at : (0, h.tick) ≡ place us e = cmp_is (0, h.tick) (place us e) q in
            let key : d ≡ e.0 = ap (λ (y : Entry). y.0) (sym (is_lost e i (ap (λ (r : Place). r.1) at))) in
            ap (get place_cmp p) (sym at) ∙ put_same o p (0, h.tick) (Some d') u ∙ ap Some (same ∙ key)

    pub index_moved : IsDistinct same_key (keys_of us) → Indexed (used n k us) p (remove_entry (same_key k) es)
    index_moved once = indexed_all (used n k us) p (remove_entry (same_key k) es) (λ e i. by e i (same_key e.0 d) refl)
      where
        by : (e : Entry) → In e (remove_entry (same_key k) es) → (b : Bool) → same_key e.0 d ≡ b → get place_cmp p (place (used n k us) e) ≡ Some e.0
        by e i true q =
            let key : e.0 ≡ d = key_same e.0 d q in
            let one : e.1 ≡ h = (let t : Some e.1 ≡ Some h = sym (in_found es e apart (in_removed (same_key k) es e i)) ∙ ap (λ j. lookup (same_key j) es) key ∙ there in cc) in
            let zero_count : count_of (used n k us) e.0 ≡ 0 = ap (count_of (used n k us)) key ∙ count_lost n k us long d f (ap (λ j. same_key j k) (sym key) ∙ same_sym k e.0 (stays_apart k es e apart i)) once in
            ap (get place_cmp p) (λ j. (zero_count j, (ap (λ (g : Held). g.tick) one) j)) ∙ put_same o p (0, h.tick) (Some d') u ∙ ap Some (same ∙ sym key)
        by e i false q =
            let c = count_used n k us long e.0 (inr (d, f, q)) (same_sym k e.0 (stays_apart k es e apart i)) in
            let inside = in_removed (same_key k) es e i in
            put_other o p (0, h.tick) (place (used n k us) e) (Some d') u (λ at.
            let key : e.0 ≡ d = ap (λ (y : Entry). y.0) (is_lost e inside (ap (λ (r : Place). r.1) at)) in
            let yes : same_key e.0 d ≡ true = ap (λ j. same_key j d) key ∙ key_refl d in absurd (cc))
            ∙ at_count e i c

-- ---- a place as new as the front entry's is none of those behind it
pub index_newer : (us : Uses) (o n : Order) (es : List Entry) (m newest : ℕ) (p : Place) → Falls m es → option_map (λ e. e.1.tick) (slice_get es 0) ≡ Some newest → newest ≤ p.1 → Updates place_cmp o n p None → Indexed us o (behind true es) → Indexed us n (behind true es)
index_newer us o n [] m newest p f s l u x = tt
index_newer us o n (e ∷ es) m newest p f s l u x =
    let new : e.1.tick ≡ newest = cc in
    indexed_all us n es (λ d i. put_other o n p (place us d) None u (λ q. let low = fall_low e.1.tick es d f.1 i in let t : p.1 ≡ d.1.tick = ap (λ (r : Place). r.1) q in omega arith) ∙ indexed_at us o es d x i)

same_gets : (o n : Order) (q : Place) → n.entries ≡ o.entries → get place_cmp n q ≡ get place_cmp o q
same_gets o n q e = ap (lookup (is_at (place_cmp q))) e

pub index_same : (us : Uses) (o n : Order) (es : List Entry) → n.entries ≡ o.entries → Indexed us o es → Indexed us n es
index_same us o n es e x = indexed_all us n es (λ d i. same_gets o n (place us d) e ∙ indexed_at us o es d x i)

-- ---- places there are
empty_map : (o : Order) → (0 < length o.entries → ⊥) → o.entries ≡ []
empty_map o f = go o.entries refl
  where
    go : (ps : List (Place × SegmentKey)) → o.entries ≡ ps → o.entries ≡ []
    go [] e = e
    go (p ∷ ps) e = let l = ap length e in absurd (f (omega arith))

pub placed_some : (us : Uses) (o : Order) (es : List Entry) → (0 < length o.entries → ⊥) → Indexed us o (behind true es) → 1 < length es → ⊥
placed_some us o [] f x l = absurd (omega arith)
placed_some us o (e ∷ es) f x l = let none = ap length (no_places us o es (empty_map o f) x) in absurd (omega arith)

pub none_least : (us : Uses) (o : Order) (es : List Entry) (k : SegmentKey) → (0 < length o.entries → ⊥) → Indexed us o es → true ≡ is_least us k (plain es)
none_least us o es k f x = sym (ap (λ ds. is_least us k (plain ds)) (no_places us o es (empty_map o f) x))

-- ---- the entry at the first place goes
pub behind_apart : (es : List Entry) → IsDistinct same_key (keys_of es) → IsDistinct same_key (keys_of (behind true es))
behind_apart [] d = d
behind_apart (e ∷ es) d = IsDistinct-tail same_key e.0 (keys_of es) d

module _ (us : Uses) (newest : ℕ) (p : Place) (k : SegmentKey) (h : Held) (less : p.1 < newest) where
  front_apart : (e : Entry) (es : List Entry) → Some e.1.tick ≡ Some newest → is_place us (e ∷ es) p k ≡ true → lookup (same_key k) (e ∷ es) ≡ Some h → same_key k e.0 ≡ false
  front_apart e es s is there = go (same_key k e.0) refl
    where
      go : (b : Bool) → same_key k e.0 ≡ b → same_key k e.0 ≡ false
      go false q = q
      go true q =
          let found = at_place us (e ∷ es) p k is in
          let tick : found.0.tick ≡ p.1 = ap (λ (r : Place). r.1) found.2 in
          let one : Some e.1 ≡ Some found.0 = rw q at found.1 in
          let same : e.1.tick ≡ found.0.tick = ap (λ (g : Held). g.tick) (let t : e.1 ≡ found.0 = cc in t) in
          let new : e.1.tick ≡ newest = cc in absurd (omega arith)

  pub front_stays : (es : List Entry) → option_map (λ e. e.1.tick) (slice_get es 0) ≡ Some newest → is_place us es p k ≡ true → lookup (same_key k) es ≡ Some h →
      (slice_get (remove_entry (same_key k) es) 0 ≡ slice_get es 0) × (behind true (remove_entry (same_key k) es) ≡ remove_entry (same_key k) (behind true es)) × (lookup (same_key k) (behind true es) ≡ Some h)
  front_stays [] s is there = absurd (cc)
  front_stays (e ∷ es) s is there =
      let apart = front_apart e es s is there in
      let found : lookup (same_key k) es ≡ Some h = rw apart at there in
      (rw apart refl, rw apart refl, found)

-- a key that is no entry's
pub nothing_there : (k : SegmentKey) (us : Uses) (es : List Entry) (p : Place) → is_place us es p k ≡ true → lookup (same_key k) es ≡ None → ⊥
nothing_there k us es p is none = let found = at_place us es p k is in let no : Some found.0 ≡ None = sym found.1 ∙ none in absurd (cc)

-- ---- an entry that comes to the front
pub brought : (c d : LruCache SegmentKey Held) (k k' : SegmentKey) (b : List ℕ) (t : ℕ) (h : Held) → lookup (same_key k) c.entries ≡ Some h → k' ≡ k → b ≡ h.bytes → d ≡ lru_cache (put_entries same_key c k' (held b t)) c.cap →
    (d.entries ≡ (k, held b t) ∷ remove_entry (same_key k) c.entries) × (plain d.entries ≡ promoted (same_key k) (plain c.entries))
brought c d k k' b t h there kis bis dis =
    let f = some_there (same_key k) c.entries (ap is_some there) in
    let key : k ≡ f.0.0 = found_key k c.entries f.0 f.1 in
    let val : f.0.1 ≡ h = (let s : Some f.0.1 ≡ Some h = sym (by_entry (same_key k) c.entries ∙ ap (λ o. option_map_or (λ e. Some e.1) o None) f.1) ∙ there in cc) in
    let put : put_entries same_key c k (held b t) ≡ (f.0.0, held b t) ∷ remove_entry (same_key k) c.entries = rw f.1 refl in
    let now : d.entries ≡ (k, held b t) ∷ remove_entry (same_key k) c.entries =
    ap (λ l. l.entries) dis ∙ ap (λ q. put_entries same_key c q (held b t)) kis ∙ put ∙ ap (λ q. (q, held b t) ∷ remove_entry (same_key k) c.entries) (sym key) in
    let old : lookup_entry (same_key k) (plain c.entries) ≡ Some (bare f.0) = plain-entry (same_key k) c.entries ∙ ap (option_map bare) f.1 in
    let front : promoted (same_key k) (plain c.entries) ≡ bare f.0 ∷ remove_entry (same_key k) (plain c.entries) = rw old refl in
    let bytes : b ≡ f.0.1.bytes = bis ∙ ap (λ (g : Held). g.bytes) (sym val) in (
      now,
      ap plain now ∙ ap (λ ps. (k, b) ∷ ps) (plain-removed (same_key k) c.entries) ∙ (λ i. (key i, bytes i) ∷ remove_entry (same_key k) (plain c.entries)) ∙ sym front,
    )

pub pushed : (c d : LruCache SegmentKey Held) (k : SegmentKey) (b : List ℕ) (t : ℕ) → length c.entries < c.cap → d ≡ lru_cache (put_entries same_key c k (held b t)) c.cap →
    (d.entries ≡ (k, held b t) ∷ remove_entry (same_key k) c.entries) × (plain d.entries ≡ stored k b (plain c.entries))
pushed c d k b t room dis =
    let now : d.entries ≡ (k, held b t) ∷ remove_entry (same_key k) c.entries = ap (λ l. l.entries) dis ∙ put-first c k (held b t) room in
    (now, ap plain now ∙ ap (λ ps. (k, b) ∷ ps) (plain-removed (same_key k) c.entries))

pub absent_now : (k : SegmentKey) (es : List Entry) → is_some (lookup (same_key k) es) ≡ false → (remove_entry (same_key k) es ≡ es) × (None ≡ lookup (same_key k) (plain es)) × (plain es ≡ promoted (same_key k) (plain es))
absent_now k es h =
    let none = none_there (same_key k) es h in
    let old : lookup_entry (same_key k) (plain es) ≡ None = plain-entry (same_key k) es ∙ ap (option_map bare) none in (
      absent_same k es none,
      sym (by_entry (same_key k) (plain es) ∙ ap (λ o. option_map_or (λ e. Some e.1) o None) old),
      sym (ap (λ o. option_map_or (λ e. e ∷ remove_entry (same_key k) (plain es)) o (plain es)) old),
    )

pub fall_front : (t : ℕ) (k : SegmentKey) (b : List ℕ) (es ds : List Entry) → ds ≡ (k, held b t) ∷ remove_entry (same_key k) es → Falls t es → Falls (t + 1) ds
fall_front t k b es ds e f = subst (λ xs. Falls (t + 1) xs) (sym e) (omega arith, fall_removed (same_key k) t es f)

-- ---- the front one beside the rest
pub front_weight : (es ds : List Entry) → slice_get es 0 ≡ slice_get ds 0 → weight (plain es) ≡ weight (take 1 (plain ds)) + weight (plain (behind true es))
front_weight [] [] s = refl
front_weight [] (d ∷ ds) s = absurd (cc)
front_weight (e ∷ es) [] s = absurd (cc)
front_weight (e ∷ es) (d ∷ ds) s = let same : e ≡ d = cc in let l = ap (λ (y : Entry). length y.1.bytes) same in omega arith

pub front_length : (es : List Entry) (n : ℕ) → option_map (λ e. e.1.tick) (slice_get es 0) ≡ Some n → length es ≡ suc (length (plain (behind true es)))
front_length [] n s = absurd (cc)
front_length (e ∷ es) n s = ap suc (sym (plain-length es))

pub some_mapped : {X Y : Type 0} (f : X → Y) (o : Option X) → is_some (option_map f o) ≡ is_some o
some_mapped f None = refl
some_mapped f (Some x) = refl

module _ (test : SegmentKey → Bool) (es : List Entry) (f b : Bool) where
  pub rare_there : is_some (lookup test es) ≡ true → false ≡ (is_none (lookup test (plain es)) && f && b)
  rare_there h = go (lookup test es) refl
    where
      go : (o : Option Held) → lookup test es ≡ o → false ≡ (is_none (lookup test (plain es)) && f && b)
      go None e = let no : false ≡ true = sym (ap is_some e) ∙ h in absurd (cc)
      go (Some x) e = let found : lookup test (plain es) ≡ Some x.bytes = plain-lookup test es ∙ ap (option_map (λ h. h.bytes)) e in rw found refl

  pub rare_none : is_some (lookup test es) ≡ false → (f && b) ≡ (is_none (lookup test (plain es)) && f && b)
  rare_none h = go (lookup test es) refl
    where
      go : (o : Option Held) → lookup test es ≡ o → (f && b) ≡ (is_none (lookup test (plain es)) && f && b)
      go None e = let found : lookup test (plain es) ≡ None = plain-lookup test es ∙ ap (option_map (λ h. h.bytes)) e in rw found refl
      go (Some x) e = let no : true ≡ false = sym (ap is_some e) ∙ h in absurd (cc)

-- what a put leaves
pub rare_is : (q : SegmentEviction) (k : SegmentKey) (v : List ℕ) (b : Bounded) (r room : Bool) (n : ℕ) → q ≡ by.TinyLfu → n ≡ length v
    → room ≡ fits (b.capacity - n) (b.max_entries - 1) b.pairs → r ≡ (is_none (lookup (same_key k) b.pairs) && not room && is_least b.uses k b.pairs)
    → r ≡ is_rare q k v b
rare_is q k v b r room n tiny size roomy is =
    is ∙ ap (λ x. is_none (lookup (same_key k) b.pairs) && not x && is_least b.uses k b.pairs) (roomy ∙ ap (λ m. fits (b.capacity - m) (b.max_entries - 1) b.pairs) size)
    ∙ sym (ap (λ e. is_rare e k v b) tiny)

pub fits_is : (c n w l : ℕ) (es : List Entry) → w ≡ weight (plain es) → l ≡ length es → w ≤ c → nat_le l n ≡ fits c n (plain es)
fits_is c n w l es wis lis light =
    let yes : nat_le (weight (plain es)) c ≡ true = grind (arith, nat_tests) in
    ap (λ m. nat_le m n) (lis ∙ sym (plain-length es)) ∙ sym (ap (λ b. b && nat_le (length (plain es)) n) yes)

kept_front : (us : Uses) (n m t : ℕ) (qs es : List Entry) (k : SegmentKey) (v : List ℕ) → slice_get es 0 ≡ Some (k, held v t)
    → plain (behind true es) ≡ trimmed us (n - (length v + 0)) m (plain (remove_entry (same_key k) qs)) → IsDistinct same_key (keys_of qs)
    → plain es ≡ (k, v) ∷ trimmed us (n - length v) m (without k (plain qs))
kept_front us n m t qs [] k v s p d = absurd (cc)
kept_front us n m t qs (e ∷ es) k v s p d =
    let one : e ≡ (k, held v t) = cc in
    let less : n - (length v + 0) ≡ n - length v = omega arith in
    let apart : IsDistinct same_key (keys_of (plain qs)) = subst (λ ks. IsDistinct same_key ks) (sym (plain-keys qs)) d in
    let rest : plain es ≡ trimmed us (n - length v) m (without k (plain qs)) =
    p ∙ ap (λ c. trimmed us c m (plain (remove_entry (same_key k) qs))) less ∙ ap (trimmed us (n - length v) m) (plain-removed (same_key k) qs ∙ removed-without k (plain qs) apart) in
    λ i. bare (one i) ∷ rest i

pub kept_used : (us : Uses) (n m t : ℕ) (qs ds es : List Entry) (k : SegmentKey) (v : List ℕ) → IsDistinct same_key (keys_of qs)
    → ds ≡ (k, held v t) ∷ remove_entry (same_key k) qs → slice_get es 0 ≡ slice_get ds 0
    → plain (behind true es) ≡ trimmed us (n - weight (take 1 (plain ds))) m (plain (behind true ds))
    → plain es ≡ (k, v) ∷ trimmed us (n - length v) m (without k (plain qs))
kept_used us n m t qs ds es k v d e f p =
    kept_front us n m t qs es k v (f ∙ ap (λ xs. slice_get xs 0) e) (p ∙ (λ i. trimmed us (n - weight (take 1 (plain (e i)))) m (plain (behind true (e i))))) d

pub promoted_none : (test : SegmentKey → Bool) (ps : List Pair) → None ≡ lookup test ps → promoted test ps ≡ ps
promoted_none test ps none = go (lookup_entry test ps) refl
  where
    go : (o : Option Pair) → lookup_entry test ps ≡ o → promoted test ps ≡ ps
    go None e = rw e refl
    go (Some x) e = let no : None ≡ Some x.1 = none ∙ by_entry test ps ∙ ap (λ o. option_map_or (λ e. Some e.1) o None) e in absurd (cc)

pub unused : (k : SegmentKey) (q : SegmentEviction) (n : ℕ) (us : Uses) → q ≡ by.Lru → us ≡ uses_after k q n us
unused k q n us l = sym (ap (λ p. uses_after k p n us) l)

pub not_used : (q : SegmentEviction) → q ≡ by.Lru → q ≡ by.TinyLfu → ⊥
not_used q l u = let no : by.Lru ≡ by.TinyLfu = sym l ∙ u in absurd (cc)
