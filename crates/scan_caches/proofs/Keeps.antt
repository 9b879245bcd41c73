-- What a get and a put leave, as maps.
use Rattle.std.proofs.Common.{◌≡◌, ◌⊎◌, ℕ, zero, suc, ◌-◌, List, [], ◌∷◌, length, Bool, true, false, cond, nat_le, Option, Some, None, refl, sym, ap, subst, ◌∙◌, inl, inr}
use Rattle.std.specs.Map.{lookup_entry, remove_entry}
use Rattle.lru.specs.LruCache.{promoted}
use Rattle.scan_segments.specs.declared.segment.SegmentKey.{SegmentKey}
use Rattle.scan_segments.specs.declared.cache.CacheGet.{CacheGet}
use Rattle.scan_segments.specs.declared.cache.CacheGet.TheVariants as get
use Rattle.scan_segments.specs.declared.cache.CachePut.{CachePut}
use Rattle.scan_segments.specs.declared.cache.CachePut.TheVariants as put
use Rattle.scan_segments.specs.Keys.{same_key}
use Rattle.scan_caches.specs.declared.bounded.SegmentEviction.{SegmentEviction}
use Rattle.scan_caches.specs.declared.bounded.SegmentEviction.TheVariants as by
use Rattle.scan_caches.specs.Bounded.{Pair, Uses, Bounded, at, with_pairs, fitted, stored, least, fits, without, evicted, kept, Gets, Puts, keyed_state}
use Rattle.scan_segments.specs.Cached.{IsGot, IsPut}
use Rattle.std.proofs.Math.Nat.{le_refl}
use Rattle.scan_segments.specs.Cache.{Loses, Stores}
use Rattle.std.specs.Option.{option_map_or}
use Rattle.scan_caches.proofs.Weights.{key_same, found_key, lookup_is}
use Rattle.scan_caches.proofs.Evictions.{absent-without}

fitted_step : (b : Bool) (c n : ℕ) (e : Pair) (es : List Pair) (k : SegmentKey) (v : List ℕ) → nat_le (length e.1) c ≡ b → (at (fitted (c - length e.1) n es) k ≡ Some v → at es k ≡ Some v) → at (fitted c (suc n) (e ∷ es)) k ≡ Some v → at (e ∷ es) k ≡ Some v
fitted_step true c n e es k v eq ih is = go (same_key k e.0) refl (rw eq at is)
  where
    go : (b : Bool) → same_key k e.0 ≡ b → cond (same_key k e.0) (Some e.1) (at (fitted (c - length e.1) n es) k) ≡ Some v → at (e ∷ es) k ≡ Some v
    go true q h = rw q (rw q at h)
    go false q h = rw q (ih (rw q at h))
fitted_step false c n e es k v eq ih is = let h : None ≡ Some v = rw eq at is in absurd (cc)

fitted_at : (c n : ℕ) (es : List Pair) (k : SegmentKey) (v : List ℕ) → at (fitted c n es) k ≡ Some v → at es k ≡ Some v
fitted_at c zero es k v is = absurd (cc)
fitted_at c (suc n) [] k v is = absurd (cc)
fitted_at c (suc n) (e ∷ es) k v is = fitted_step (nat_le (length e.1) c) c n e es k v refl (fitted_at (c - length e.1) n es k v) is

removed_step : (b : Bool) (key k : SegmentKey) (e : Pair) (es : List Pair) → same_key key e.0 ≡ b → same_key k key ≡ false → at (remove_entry (same_key key) es) k ≡ at es k → at (remove_entry (same_key key) (e ∷ es)) k ≡ at (e ∷ es) k
removed_step true key k e es eq apart ih = let other : same_key k e.0 ≡ false = ap (same_key k) (sym (key_same key e.0 eq)) ∙ apart in rw (eq, other) refl
removed_step false key k e es eq apart ih = rw eq (ap (cond (same_key k e.0) (Some e.1)) ih)

removed_at : (key k : SegmentKey) (es : List Pair) → same_key k key ≡ false → at (remove_entry (same_key key) es) k ≡ at es k
removed_at key k [] apart = refl
removed_at key k (e ∷ es) apart = removed_step (same_key key e.0) key k e es refl apart (removed_at key k es apart)

stored_at : (key : SegmentKey) (buffer : List ℕ) (es : List Pair) (k : SegmentKey) (v : List ℕ) → at (stored key buffer es) k ≡ Some v → (at es k ≡ Some v) ⊎ ((k ≡ key) × (v ≡ buffer))
stored_at key buffer es k v is = go (same_key k key) refl
  where
    go : (b : Bool) → same_key k key ≡ b → (at es k ≡ Some v) ⊎ ((k ≡ key) × (v ≡ buffer))
    go true q = let h : Some buffer ≡ Some v = rw q at is in inr (key_same k key q, cc)
    go false q = inl (sym (removed_at key k es q) ∙ (rw q at is))

at_none : (j : SegmentKey) (es : List Pair) → at (without j es) j ≡ None
at_none j es = lookup_is (same_key j) (without j es) ∙ ap (λ o. option_map_or (λ (p : Pair). Some p.1) o None) (absent-without j es)

without_step : (b : Bool) (j : SegmentKey) (e : Pair) (es : List Pair) (k : SegmentKey) (v : List ℕ) → same_key j e.0 ≡ b → (at (without j es) k ≡ Some v → at es k ≡ Some v) → at (without j (e ∷ es)) k ≡ Some v → at (e ∷ es) k ≡ Some v
without_step true j e es k v eq ih is = let h : at (without j es) k ≡ Some v = rw eq at is in go (same_key k e.0) refl h
  where
    go : (b : Bool) → same_key k e.0 ≡ b → at (without j es) k ≡ Some v → at (e ∷ es) k ≡ Some v
    go true q h = let same : j ≡ k = key_same j e.0 eq ∙ sym (key_same k e.0 q) in let none = subst (λ x. at (without j es) x ≡ None) same (at_none j es) in let f : None ≡ Some v = sym none ∙ h in absurd (cc)
    go false q h = rw q (ih h)
without_step false j e es k v eq ih is = let h : at (e ∷ without j es) k ≡ Some v = rw eq at is in go (same_key k e.0) refl h
  where
    go : (b : Bool) → same_key k e.0 ≡ b → cond (same_key k e.0) (Some e.1) (at (without j es) k) ≡ Some v → at (e ∷ es) k ≡ Some v
    go true q h = rw q (rw q at h)
    go false q h = rw q (ih (rw q at h))

without_at : (j : SegmentKey) (es : List Pair) (k : SegmentKey) (v : List ℕ) → at (without j es) k ≡ Some v → at es k ≡ Some v
without_at j [] k v is = is
without_at j (e ∷ es) k v is = without_step (same_key j e.0) j e es k v refl (without_at j es k v) is

evicted_step : (b : Bool) (es xs : List Pair) (k : SegmentKey) (v : List ℕ) → (at xs k ≡ Some v → at es k ≡ Some v) → at (cond b es xs) k ≡ Some v → at es k ≡ Some v
evicted_step true es xs k v ih is = is
evicted_step false es xs k v ih is = ih is

evicted_at : (us : Uses) (c n m : ℕ) (es : List Pair) (k : SegmentKey) (v : List ℕ) → at (evicted us c n m es) k ≡ Some v → at es k ≡ Some v
evicted_at us c n zero es k v is = is
evicted_at us c n (suc m) [] k v is = is
evicted_at us c n (suc m) (e ∷ es) k v is =
    let l = least us e.0 es in
    evicted_step (fits c n (e ∷ es)) (e ∷ es) (evicted us c n m (without l (e ∷ es))) k v (λ h. without_at l (e ∷ es) k v (evicted_at us c n m (without l (e ∷ es)) k v h)) is

kept_at : (q : SegmentEviction) (key : SegmentKey) (buffer : List ℕ) (c : Bounded) (k : SegmentKey) (v : List ℕ) → at (kept q key buffer c) k ≡ Some v → (at c.pairs k ≡ Some v) ⊎ ((k ≡ key) × (v ≡ buffer))
kept_at by.Lru key buffer c k v is = stored_at key buffer c.pairs k v (fitted_at c.capacity c.max_entries (stored key buffer c.pairs) k v is)
kept_at by.TinyLfu key buffer c k v is = go (same_key k key) refl
  where
    go : (b : Bool) → same_key k key ≡ b → (at c.pairs k ≡ Some v) ⊎ ((k ≡ key) × (v ≡ buffer))
    go true q = let h : Some buffer ≡ Some v = rw q at is in inr (key_same k key q, cc)
    go false q = inl (without_at key c.pairs k v (evicted_at c.uses (c.capacity - length buffer) (c.max_entries - 1) (length (without key c.pairs)) (without key c.pairs) k v (rw q at is)))

found_at : (key : SegmentKey) (es : List Pair) (e : Pair) → lookup_entry (same_key key) es ≡ Some e → at es key ≡ Some e.1
found_at key [] e is = absurd (cc)
found_at key (x ∷ xs) e is = go (same_key key x.0) refl (found_at key xs e) is
  where
    go : (b : Bool) → same_key key x.0 ≡ b → (lookup_entry (same_key key) xs ≡ Some e → at xs key ≡ Some e.1) → cond (same_key key x.0) (Some x) (lookup_entry (same_key key) xs) ≡ Some e → at (x ∷ xs) key ≡ Some e.1
    go true q ih h = let s : Some x ≡ Some e = rw q at h in rw q (ap (λ o. Some o) (ap (λ (p : Pair). p.1) (let t : x ≡ e = cc in t)))
    go false q ih h = rw q (ih (rw q at h))

promoted_at : (key : SegmentKey) (es : List Pair) (k : SegmentKey) (v : List ℕ) → at (promoted (same_key key) es) k ≡ Some v → at es k ≡ Some v
promoted_at key es k v is = go (lookup_entry (same_key key) es) refl
  where
    front : (e : Pair) → lookup_entry (same_key key) es ≡ Some e → (b : Bool) → same_key k e.0 ≡ b → cond (same_key k e.0) (Some e.1) (at (remove_entry (same_key key) es) k) ≡ Some v → at es k ≡ Some v
    front e eq true q h = let same : k ≡ key = key_same k e.0 q ∙ sym (found_key key es e eq) in ap (at es) same ∙ found_at key es e eq ∙ (let s : Some e.1 ≡ Some v = rw q at h in s)
    front e eq false q h = sym (removed_at key k es (ap (same_key k) (found_key key es e eq) ∙ q)) ∙ (rw q at h)

    go : (o : Option Pair) → lookup_entry (same_key key) es ≡ o → at es k ≡ Some v
    go None eq = rw eq at is
    go (Some e) eq = front e eq (same_key k e.0) refl (rw eq at is)

loses : (key : SegmentKey) (c d : Bounded) (r : CacheGet) → Gets key c d r → Loses (at c.pairs) (at d.pairs)
loses key c d (get.Hit b) g k v is = promoted_at key c.pairs k v (sym (ap (λ (x : Bounded). at x.pairs k) g.1) ∙ is)
loses key c d get.Miss g k v is = sym (ap (λ (x : Bounded). at x.pairs k) g.1) ∙ is
loses key c d get.NoMemory g k v is = sym (ap (λ (x : Bounded). at x.pairs k) g) ∙ is
loses key c d get.Pending g k v is = absurd g
loses key c d get.Failed g k v is = absurd g

stores : (key : SegmentKey) (buffer : List ℕ) (c d : Bounded) → d ≡ with_pairs (kept c.eviction key buffer c) c → Stores key buffer (at c.pairs) (at d.pairs)
stores key buffer c d p k v is = kept_at c.eviction key buffer c k v (sym (ap (λ (x : Bounded). at x.pairs k) p) ∙ is)

same : (c d : Bounded) → d ≡ c → Loses (at c.pairs) (at d.pairs)
same c d p k v is = sym (ap (λ (x : Bounded). at x.pairs k) p) ∙ is

-- what a get of a bounded cache does, as a cache of many files
pub is_got : (key : SegmentKey) (c d : Bounded) (r : CacheGet) → Gets key c d r → IsGot key (keyed_state c) (keyed_state d) r
is_got key c d (get.Hit b) g = (record { entries = loses key c d (get.Hit b) g; ended_is = refl; short = refl; faults = le_refl 0; turns = le_refl 0 }, g.0)
is_got key c d get.Miss g = (record { entries = loses key c d get.Miss g; ended_is = refl; short = refl; faults = le_refl 0; turns = le_refl 0 }, g.0)
is_got key c d get.NoMemory g = record { entries = loses key c d get.NoMemory g; ended_is = refl; short = refl; faults = le_refl 0; turns = le_refl 0 }
is_got key c d get.Pending g = absurd g
is_got key c d get.Failed g = absurd g

-- what a put of a bounded cache does, as a cache of many files
pub is_put : (key : SegmentKey) (buffer : List ℕ) (c d : Bounded) (r : CachePut) → Puts key buffer c d r → IsPut key buffer (keyed_state c) (keyed_state d) r
is_put key buffer c d put.Stored p = record { entries = stores key buffer c d p.2; ended_is = refl; short = refl; faults = le_refl 0; turns = le_refl 0 }
is_put key buffer c d put.Passed p = record { entries = same c d p.1; ended_is = refl; short = refl; faults = le_refl 0; turns = le_refl 0 }
is_put key buffer c d put.NoMemory p = record { entries = same c d p; ended_is = refl; short = tt; faults = le_refl 0; turns = le_refl 0 }
is_put key buffer c d put.Pending p = absurd p
is_put key buffer c d put.Failed p = absurd p
