-- The pairs that entries are, before and after each step.
use Rattle.std.proofs.Common.{◌≡◌, ℕ, zero, suc, ◌-◌, List, [], ◌∷◌, length, take, Bool, true, false, Option, Some, None, refl, sym, ap, ◌∙◌}
use Rattle.std.specs.Prelude.{option_map}
use Rattle.std.specs.List.{slice_get}
use Rattle.std.specs.Map.{keys_of, lookup, lookup_entry, remove_entry}
use Rattle.lru.specs.LruCache.{LruCache, lru_cache, promoted, put_entries, displaced, last_entry}
use Rattle.scan_segments.specs.declared.segment.SegmentKey.{SegmentKey}
use Rattle.scan_caches.specs.declared.use_counts.Held.{Held}
use Rattle.scan_segments.specs.Keys.{same_key}
use Rattle.scan_caches.specs.Bounded.{Pair}
use Rattle.scan_caches.specs.UseOrder.{Entry, plain}

abbrev pub bare : Entry → Pair
bare e = (e.0, e.1.bytes)

pub plain-length : (es : List Entry) → length (plain es) ≡ length es
plain-length [] = refl
plain-length (e ∷ es) = ap suc (plain-length es)

pub plain-keys : (es : List Entry) → keys_of (plain es) ≡ keys_of es
plain-keys [] = refl
plain-keys (e ∷ es) = ap (λ ks. e.0 ∷ ks) (plain-keys es)

pub plain-take : (n : ℕ) (es : List Entry) → plain (take n es) ≡ take n (plain es)
plain-take zero es = refl
plain-take (suc n) [] = refl
plain-take (suc n) (e ∷ es) = ap (λ ps. bare e ∷ ps) (plain-take n es)

pub plain-get : (es : List Entry) (n : ℕ) → slice_get (plain es) n ≡ option_map bare (slice_get es n)
plain-get [] n = refl
plain-get (e ∷ es) zero = refl
plain-get (e ∷ es) (suc n) = plain-get es n

module _ (test : SegmentKey → Bool) where
  entry_step : (b : Bool) (e : Entry) (es : List Entry) → test e.0 ≡ b → lookup_entry test (plain es) ≡ option_map bare (lookup_entry test es) → lookup_entry test (plain (e ∷ es)) ≡ option_map bare (lookup_entry test (e ∷ es))
  entry_step true e es eq ih = rw eq refl
  entry_step false e es eq ih = rw eq ih

  pub plain-entry : (es : List Entry) → lookup_entry test (plain es) ≡ option_map bare (lookup_entry test es)
  plain-entry [] = refl
  plain-entry (e ∷ es) = entry_step (test e.0) e es refl (plain-entry es)

  lookup_step : (b : Bool) (e : Entry) (es : List Entry) → test e.0 ≡ b → lookup test (plain es) ≡ option_map (λ h. h.bytes) (lookup test es) → lookup test (plain (e ∷ es)) ≡ option_map (λ h. h.bytes) (lookup test (e ∷ es))
  lookup_step true e es eq ih = rw eq refl
  lookup_step false e es eq ih = rw eq ih

  pub plain-lookup : (es : List Entry) → lookup test (plain es) ≡ option_map (λ h. h.bytes) (lookup test es)
  plain-lookup [] = refl
  plain-lookup (e ∷ es) = lookup_step (test e.0) e es refl (plain-lookup es)

  removed_step : (b : Bool) (e : Entry) (es : List Entry) → test e.0 ≡ b → plain (remove_entry test es) ≡ remove_entry test (plain es) → plain (remove_entry test (e ∷ es)) ≡ remove_entry test (plain (e ∷ es))
  removed_step true e es eq ih = rw eq refl
  removed_step false e es eq ih = rw eq (ap (λ ps. bare e ∷ ps) ih)

  pub plain-removed : (es : List Entry) → plain (remove_entry test es) ≡ remove_entry test (plain es)
  plain-removed [] = refl
  plain-removed (e ∷ es) = removed_step (test e.0) e es refl (plain-removed es)

  pub plain-promoted : (es : List Entry) → plain (promoted test es) ≡ promoted test (plain es)
  plain-promoted es = go (lookup_entry test es) refl
    where
      go : (o : Option Entry) → lookup_entry test es ≡ o → plain (promoted test es) ≡ promoted test (plain es)
      go None eq = let p : lookup_entry test (plain es) ≡ None = plain-entry es ∙ ap (option_map bare) eq in rw (eq, p) refl
      go (Some e) eq = let p : lookup_entry test (plain es) ≡ Some (bare e) = plain-entry es ∙ ap (option_map bare) eq in rw (eq, p) (ap (λ ps. bare e ∷ ps) (plain-removed es))

pub plain-put : (c : LruCache SegmentKey Held) (k : SegmentKey) (h : Held) → plain (put_entries same_key c k h) ≡ put_entries same_key (lru_cache (plain c.entries) c.cap) k h.bytes
plain-put c k h = go (lookup_entry (same_key k) c.entries) refl
  where
    go : (o : Option Entry) → lookup_entry (same_key k) c.entries ≡ o → plain (put_entries same_key c k h) ≡ put_entries same_key (lru_cache (plain c.entries) c.cap) k h.bytes
    go None eq =
        let p : lookup_entry (same_key k) (plain c.entries) ≡ None = plain-entry (same_key k) c.entries ∙ ap (option_map bare) eq in
        rw (eq, p) (ap (λ ps. (k, h.bytes) ∷ ps) (plain-take (c.cap - 1) c.entries))
    go (Some e) eq =
        let p : lookup_entry (same_key k) (plain c.entries) ≡ Some (bare e) = plain-entry (same_key k) c.entries ∙ ap (option_map bare) eq in
        rw (eq, p) (ap (λ ps. (e.0, h.bytes) ∷ ps) (plain-removed (same_key k) c.entries))

pub plain-displaced : (c : LruCache SegmentKey Held) (k : SegmentKey) (h : Held) → displaced same_key (lru_cache (plain c.entries) c.cap) k h.bytes ≡ option_map bare (displaced same_key c k h)
plain-displaced c k h = go (lookup (same_key k) c.entries) refl
  where
    go : (o : Option Held) → lookup (same_key k) c.entries ≡ o → displaced same_key (lru_cache (plain c.entries) c.cap) k h.bytes ≡ option_map bare (displaced same_key c k h)
    go None eq = let p : lookup (same_key k) (plain c.entries) ≡ None = plain-lookup (same_key k) c.entries ∙ ap (option_map (λ h. h.bytes)) eq in rw (eq, p) (plain-get c.entries (c.cap - 1))
    go (Some old) eq = let p : lookup (same_key k) (plain c.entries) ≡ Some old.bytes = plain-lookup (same_key k) c.entries ∙ ap (option_map (λ h. h.bytes)) eq in rw (eq, p) refl

pub plain-last : (es : List Entry) → last_entry (plain es) ≡ option_map bare (last_entry es)
plain-last es = ap (λ n. slice_get (plain es) (n - 1)) (plain-length es) ∙ plain-get es (length es - 1)

pub plain-front : (es : List Entry) → plain (take (length es - 1) es) ≡ take (length (plain es) - 1) (plain es)
plain-front es = plain-take (length es - 1) es ∙ ap (λ n. take (n - 1) (plain es)) (sym (plain-length es))
