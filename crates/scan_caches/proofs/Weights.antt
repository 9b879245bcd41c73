-- The weight of a list of pairs, and what fits.
use Rattle.std.proofs.Common.{◌≡◌, ◌⊎◌, inl, inr, ℕ, zero, suc, ◌+◌, ◌-◌, ◌<◌, ◌≤◌, List, [], ◌∷◌, ◌++◌, length, take, Bool, true, false, cond, ◌&&◌, nat_eq, nat_le, Option, Some, None, refl, sym, ap, ◌∙◌, subst, arith}
use Rattle.std.proofs.lemmas.Bool.Decides.{nat_tests, Decides-eqb}
use Rattle.std.specs.List.{slice_get}
use Rattle.std.specs.Cmp.Lexicographic.{pointwise}
use Rattle.std.proofs.lemmas.Slice.Eq.{slice_eq-Decides}
use Rattle.std.specs.Option.{option_map_or}
use Rattle.std.specs.Map.{lookup, lookup_entry, remove_entry}
use Rattle.lru.specs.LruCache.{LruCache, promoted, put_entries, displaced, last_entry}
use Rattle.scan_segments.specs.declared.segment.SegmentKey.{SegmentKey}
use Rattle.scan_segments.specs.Keys.{same_key}
use Rattle.scan_caches.specs.declared.bounded.SegmentEviction.{SegmentEviction}
use Rattle.scan_caches.specs.declared.bounded.SegmentEviction.TheVariants as by
use Rattle.scan_segments.specs.declared.cache.CachePut.TheVariants as put
use Rattle.scan_caches.specs.Bounded.{Pair, Uses, Bounded, bounded, weight, fitted, stored, kept, is_rare, Puts}

module _ (test : SegmentKey → Bool) where
  remove_step : (b : Bool) (x : Pair) (xs : List Pair) (e : Pair) → test x.0 ≡ b → (lookup_entry test xs ≡ Some e → length e.1 + weight (remove_entry test xs) ≡ weight xs) → lookup_entry test (x ∷ xs) ≡ Some e → length e.1 + weight (remove_entry test (x ∷ xs)) ≡ weight (x ∷ xs)
  remove_step true x xs e eq ih found = let same : x ≡ e = (let f : Some x ≡ Some e = rw eq at found in cc) in rw eq (ap (λ (p : Pair). length p.1 + weight xs) (sym same))
  remove_step false x xs e eq ih found = let h = ih (rw eq at found) in rw eq (omega arith)

  pub weight-remove : (es : List Pair) (e : Pair) → lookup_entry test es ≡ Some e → length e.1 + weight (remove_entry test es) ≡ weight es
  weight-remove [] e found = absurd (cc)
  weight-remove (x ∷ xs) e found = remove_step (test x.0) x xs e refl (weight-remove xs e) found

  pub weight-promoted : (es : List Pair) → weight (promoted test es) ≡ weight es
  weight-promoted es = go (lookup_entry test es) refl
    where
      go : (o : Option Pair) → lookup_entry test es ≡ o → weight (promoted test es) ≡ weight es
      go None eq = rw eq refl
      go (Some e) eq = rw eq (weight-remove es e eq)

  count_step : (b : Bool) (x : Pair) (xs : List Pair) (e : Pair) → test x.0 ≡ b → (lookup_entry test xs ≡ Some e → suc (length (remove_entry test xs)) ≡ length xs) → lookup_entry test (x ∷ xs) ≡ Some e → suc (length (remove_entry test (x ∷ xs))) ≡ length (x ∷ xs)
  count_step true x xs e eq ih found = rw eq refl
  count_step false x xs e eq ih found = let h = ih (rw eq at found) in rw eq (omega arith)

  pub length-remove : (es : List Pair) (e : Pair) → lookup_entry test es ≡ Some e → suc (length (remove_entry test es)) ≡ length es
  length-remove [] e found = absurd (cc)
  length-remove (x ∷ xs) e found = count_step (test x.0) x xs e refl (length-remove xs e) found

  pub length-promoted : (es : List Pair) → length (promoted test es) ≡ length es
  length-promoted es = go (lookup_entry test es) refl
    where
      go : (o : Option Pair) → lookup_entry test es ≡ o → length (promoted test es) ≡ length es
      go None eq = rw eq refl
      go (Some e) eq = rw eq (length-remove es e eq)

-- what fits, where all does
pub fitted-all : (c n : ℕ) (es : List Pair) → weight es ≤ c → length es ≤ n → fitted c n es ≡ es
fitted-all c zero [] w l = refl
fitted-all c zero (e ∷ es) w l = absurd (omega arith)
fitted-all c (suc n) [] w l = refl
fitted-all c (suc n) (e ∷ es) w l = let yes : nat_le (length e.1) c ≡ true = grind (arith, nat_tests) in rw yes (ap (λ xs. e ∷ xs) (fitted-all (c - length e.1) n es (omega arith) (omega arith)))

front_step : (b : Bool) (c n : ℕ) (e x : Pair) (es : List Pair) → nat_le (length e.1) c ≡ b → c < weight ((e ∷ es) ++ x ∷ [])
    → (c - length e.1 < weight (es ++ x ∷ []) → fitted (c - length e.1) n (es ++ x ∷ []) ≡ fitted (c - length e.1) n es)
    → fitted c (suc n) ((e ∷ es) ++ x ∷ []) ≡ fitted c (suc n) (e ∷ es)
front_step true c n e x es eq over ih = let le : length e.1 ≤ c = grind (arith, nat_tests) in rw eq (ap (λ xs. e ∷ xs) (ih (omega arith)))
front_step false c n e x es eq over ih = rw eq refl

-- the last pair of a list that is too heavy does not fit
pub fitted-front : (c n : ℕ) (es : List Pair) (x : Pair) → c < weight (es ++ x ∷ []) → fitted c n (es ++ x ∷ []) ≡ fitted c n es
fitted-front c zero es x over = refl
fitted-front c (suc n) [] x over = let no : nat_le (length x.1) c ≡ false = grind (arith, nat_tests) in rw no refl
fitted-front c (suc n) (e ∷ es) x over = front_step (nat_le (length e.1) c) c n e x es refl over (fitted-front (c - length e.1) n es x)

-- the last of more pairs than there may be does not fit
pub fitted-long : (c n : ℕ) (es : List Pair) (x : Pair) → n ≤ length es → fitted c n (es ++ x ∷ []) ≡ fitted c n es
fitted-long c zero es x le = refl
fitted-long c (suc n) [] x le = absurd (omega arith)
fitted-long c (suc n) (e ∷ es) x le = ap (λ xs. cond (nat_le (length e.1) c) (e ∷ xs) []) (fitted-long (c - length e.1) n es x (omega arith))

pub weight-snoc : (es : List Pair) (x : Pair) → weight (es ++ x ∷ []) ≡ weight es + length x.1
weight-snoc [] x = omega arith
weight-snoc (e ∷ es) x = let ih = weight-snoc es x in omega arith

pub split_last : {X : Type 0} (es : List X) (n : ℕ) (x : X) → length es ≡ suc n → slice_get es n ≡ Some x → es ≡ take n es ++ x ∷ []
split_last [] n x len is = absurd (cc)
split_last (y ∷ []) zero x len is = let same : y ≡ x = cc in ap (λ z. z ∷ []) same
split_last (y ∷ z ∷ es) zero x len is = absurd (omega arith)
split_last (y ∷ es) (suc n) x len is = ap (λ xs. y ∷ xs) (split_last es n x (omega arith) is)

-- a list is its front and its last pair
pub front_and_last : (es : List Pair) (x : Pair) → last_entry es ≡ Some x → es ≡ take (length es - 1) es ++ x ∷ []
front_and_last [] x is = absurd (cc)
front_and_last (y ∷ es) x is = let n : length (y ∷ es) - 1 ≡ length es = omega arith in rw n (split_last (y ∷ es) (length es) x refl (rw n at is))

pub get_there : {X : Type 0} (es : List X) (n : ℕ) → slice_get es n ≡ None → length es ≤ n
get_there [] n is = omega arith
get_there (y ∷ es) zero is = absurd (cc)
get_there (y ∷ es) (suc n) is = let ih = get_there es n is in omega arith

pub no_last : (es : List Pair) → last_entry es ≡ None → (weight es ≡ 0) × (length es ≡ 0)
no_last [] is = (refl, refl)
no_last (y ∷ es) is = let h = get_there (y ∷ es) _ is in absurd (omega arith)

get_last : (es : List Pair) (n : ℕ) (d : Pair) → length es ≤ suc n → slice_get es n ≡ Some d → weight (take n es) + length d.1 ≡ weight es
get_last [] n d le is = absurd (cc)
get_last (y ∷ es) zero d le is = let same : y ≡ d = cc in let none : length es ≡ 0 = omega arith in let w = ap (λ (p : Pair). length p.1) same in let e = no_weight es none in omega arith
  where
    no_weight : (xs : List Pair) → length xs ≡ 0 → weight xs ≡ 0
    no_weight [] h = refl
    no_weight (x ∷ xs) h = absurd (omega arith)
get_last (y ∷ es) (suc n) d le is = let ih = get_last es n d (omega arith) is in omega arith

take_whole : (es : List Pair) (n : ℕ) → length es ≤ n → weight (take n es) ≡ weight es
take_whole [] zero le = refl
take_whole [] (suc n) le = refl
take_whole (y ∷ es) zero le = absurd (omega arith)
take_whole (y ∷ es) (suc n) le = let ih = take_whole es n (omega arith) in omega arith

lookup_step : (test : SegmentKey → Bool) (b : Bool) (e : Pair) (es : List Pair) → test e.0 ≡ b → lookup test es ≡ option_map_or (λ p. Some p.1) (lookup_entry test es) None → lookup test (e ∷ es) ≡ option_map_or (λ p. Some p.1) (lookup_entry test (e ∷ es)) None
lookup_step test true e es eq ih = rw eq refl
lookup_step test false e es eq ih = rw eq ih

-- a lookup, by the pair that is found
pub lookup_is : (test : SegmentKey → Bool) (es : List Pair) → lookup test es ≡ option_map_or (λ p. Some p.1) (lookup_entry test es) None
lookup_is test [] = refl
lookup_is test (e ∷ es) = lookup_step test (test e.0) e es refl (lookup_is test es)

-- what a pair weighs, if there is one
abbrev pub gone : Option Pair → ℕ
gone None = 0
gone (Some d) = length d.1

module _ (k : SegmentKey) (v : List ℕ) where
  pub weight-put : (c : LruCache SegmentKey (List ℕ)) → length c.entries ≤ c.cap → 0 < c.cap → weight (put_entries same_key c k v) + gone (displaced same_key c k v) ≡ weight c.entries + length v
  weight-put c le pos = go (lookup_entry (same_key k) c.entries) refl (slice_get c.entries (c.cap - 1)) refl
    where
      go : (o : Option Pair) → lookup_entry (same_key k) c.entries ≡ o → (q : Option Pair) → slice_get c.entries (c.cap - 1) ≡ q → weight (put_entries same_key c k v) + gone (displaced same_key c k v) ≡ weight c.entries + length v
      go (Some e) eq q last = let r = weight-remove (same_key k) c.entries e eq in let l : lookup (same_key k) c.entries ≡ Some e.1 = lookup_is (same_key k) c.entries ∙ ap (λ o. option_map_or (λ p. Some p.1) o None) eq in rw (eq, l) (omega arith)
      go None eq (Some d) last = let r = get_last c.entries (c.cap - 1) d (omega arith) last in let l : lookup (same_key k) c.entries ≡ None = lookup_is (same_key k) c.entries ∙ ap (λ o. option_map_or (λ p. Some p.1) o None) eq in rw (eq, l, last) (omega arith)
      go None eq None last = let r = take_whole c.entries (c.cap - 1) (get_there c.entries (c.cap - 1) last) in let l : lookup (same_key k) c.entries ≡ None = lookup_is (same_key k) c.entries ∙ ap (λ o. option_map_or (λ p. Some p.1) o None) eq in rw (eq, l, last) (omega arith)

length_snoc : (es : List Pair) (x : Pair) → length (es ++ x ∷ []) ≡ suc (length es)
length_snoc [] x = refl
length_snoc (e ∷ es) x = ap suc (length_snoc es x)

front_fits : (c n : ℕ) (es : List Pair) (x : Pair) → (c < weight (es ++ x ∷ [])) ⊎ (n < length (es ++ x ∷ [])) → fitted c n (es ++ x ∷ []) ≡ fitted c n es
front_fits c n es x (inl heavy) = fitted-front c n es x heavy
front_fits c n es x (inr long) = let s = length_snoc es x in fitted-long c n es x (omega arith)

-- the last pair goes from a list that is too heavy or too long
pub popped : (c n : ℕ) (es : List Pair) (x : Pair) → last_entry es ≡ Some x → (c < weight es) ⊎ (n < length es) → (fitted c n (take (length es - 1) es) ≡ fitted c n es) × (weight (take (length es - 1) es) + length x.1 ≡ weight es)
popped c n es x last over =
    let front : List Pair = take (length es - 1) es in
    let whole = front_and_last es x last in
    let there : (c < weight (front ++ x ∷ [])) ⊎ (n < length (front ++ x ∷ [])) = subst (λ xs. (c < weight xs) ⊎ (n < length xs)) whole over in
    (sym (front_fits c n front x there) ∙ sym (ap (fitted c n) whole), sym (weight-snoc front x) ∙ sym (ap weight whole))

both : (a b : Bool) → (a && b) ≡ true → (a ≡ true) × (b ≡ true)
both true b h = (refl, h)
both false b h = absurd (cc)

bytes_same : (xs ys : List ℕ) → pointwise nat_eq xs ys ≡ true → xs ≡ ys
bytes_same xs ys h = (slice_eq-Decides {E = nat_eq} (λ a b. Decides-eqb a b) xs ys (pointwise nat_eq xs ys) refl).0 h

pub key_same : (k l : SegmentKey) → same_key k l ≡ true → k ≡ l
key_same k l h =
    let p = both (pointwise nat_eq k.source_id l.source_id) (nat_eq k.segment l.segment) h in
    let a : k.source_id ≡ l.source_id = bytes_same k.source_id l.source_id p.0 in
    let b : k.segment ≡ l.segment = (Decides-eqb k.segment l.segment).0 p.1 in
    λ i. record { source_id = a i; segment = b i }

module _ {V : Type 0} where
  key_step : (b : Bool) (k : SegmentKey) (x : SegmentKey × V) (xs : List (SegmentKey × V)) (e : SegmentKey × V) → same_key k x.0 ≡ b → (lookup_entry (same_key k) xs ≡ Some e → k ≡ e.0) → lookup_entry (same_key k) (x ∷ xs) ≡ Some e → k ≡ e.0
  key_step true k x xs e eq ih found = let same : x ≡ e = (let f : Some x ≡ Some e = rw eq at found in cc) in key_same k x.0 eq ∙ ap (λ (p : SegmentKey × V). p.0) same
  key_step false k x xs e eq ih found = ih (rw eq at found)

  -- the key that is found is the key
  pub found_key : (k : SegmentKey) (es : List (SegmentKey × V)) (e : SegmentKey × V) → lookup_entry (same_key k) es ≡ Some e → k ≡ e.0
  found_key k [] e found = absurd (cc)
  found_key k (x ∷ xs) e found = key_step (same_key k x.0) k x xs e refl (found_key k xs e) found

  absent_step : (b : Bool) (k : SegmentKey) (x : SegmentKey × V) (xs : List (SegmentKey × V)) → same_key k x.0 ≡ b → (lookup_entry (same_key k) xs ≡ None → remove_entry (same_key k) xs ≡ xs) → lookup_entry (same_key k) (x ∷ xs) ≡ None → remove_entry (same_key k) (x ∷ xs) ≡ x ∷ xs
  absent_step true k x xs eq ih none = let f : Some x ≡ None = rw eq at none in absurd (cc)
  absent_step false k x xs eq ih none = rw eq (ap (λ ys. x ∷ ys) (ih (rw eq at none)))

  pub absent_same : (k : SegmentKey) (es : List (SegmentKey × V)) → lookup_entry (same_key k) es ≡ None → remove_entry (same_key k) es ≡ es
  absent_same k [] none = refl
  absent_same k (x ∷ xs) none = absent_step (same_key k x.0) k x xs refl (absent_same k xs) none

  pub take_all : (n : ℕ) (es : List (SegmentKey × V)) → length es ≤ n → take n es ≡ es
  take_all zero [] le = refl
  take_all zero (e ∷ es) le = absurd (omega arith)
  take_all (suc n) [] le = refl
  take_all (suc n) (e ∷ es) le = ap (λ xs. e ∷ xs) (take_all n es (omega arith))

  -- what a put leaves where there is room
  pub put-first : (c : LruCache SegmentKey V) (k : SegmentKey) (v : V) → length c.entries < c.cap → put_entries same_key c k v ≡ (k, v) ∷ remove_entry (same_key k) c.entries
  put-first c k v room = go (lookup_entry (same_key k) c.entries) refl
    where
      go : (o : Option (SegmentKey × V)) → lookup_entry (same_key k) c.entries ≡ o → put_entries same_key c k v ≡ (k, v) ∷ remove_entry (same_key k) c.entries
      go (Some e) eq = let same : k ≡ e.0 = found_key k c.entries e eq in rw eq (ap (λ q. (q, v) ∷ remove_entry (same_key k) c.entries) (sym same))
      go None eq = rw eq (ap (λ es. (k, v) ∷ es) (take_all (c.cap - 1) c.entries (omega arith) ∙ sym (absent_same k c.entries eq)))

fitted_long_step : (b : Bool) (c n : ℕ) (e : Pair) (es : List Pair) → nat_le (length e.1) c ≡ b → length (fitted (c - length e.1) n es) ≤ n → length (fitted c (suc n) (e ∷ es)) ≤ suc n
fitted_long_step true c n e es eq h = rw eq (omega arith)
fitted_long_step false c n e es eq h = rw eq (omega arith)

pub length-fitted : (c n : ℕ) (es : List Pair) → length (fitted c n es) ≤ n
length-fitted c zero es = omega arith
length-fitted c (suc n) [] = omega arith
length-fitted c (suc n) (e ∷ es) = fitted_long_step (nat_le (length e.1) c) c n e es refl (length-fitted (c - length e.1) n es)

-- what a put leaves under Lru, from what its steps leave
pub puts_last : (n m : ℕ) (us : Uses) (q : SegmentEviction) (ps ds es : List Pair) (k : SegmentKey) (v : List ℕ) → q ≡ by.Lru → length v ≤ n → ds ≡ stored k v ps → es ≡ fitted n m ds → Puts k v (bounded ps us n m q) (bounded es us n m q) put.Stored
puts_last n m us q ps ds es k v last light dis eis =
    let b : Bounded = bounded ps us n m q in
    let pairs : es ≡ kept q k v b = eis ∙ ap (fitted n m) dis ∙ sym (ap (λ p. kept p k v b) last) in
    (light, ap (λ p. is_rare p k v b) last, ap (λ es. bounded es us n m q) pairs)
