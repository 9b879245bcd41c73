-- How often a key stands in lists of keys and of events, and puts after lookups.
use Rattle.std.proofs.Common.{◌≡◌, ℕ, ◌+◌, List, [], ◌∷◌, ◌++◌, Bool, true, false, ◌&&◌, ◌||◌, not, cond, nat_eq, refl, ap, ◌∙◌, arith}
use Rattle.std.specs.Cmp.Lexicographic.{pointwise}
use Rattle.std.proofs.lemmas.Bool.Decides.{nat_tests}
use Rattle.scan_segments.specs.Keys.{same_key}
use Rattle.scan_segments.specs.Events.{missed_keys, found_keys, offered_keys, times, puts_follow_misses}
use Rattle.scan_segments.specs.declared.cache.CacheEvent.{CacheEvent}
use Rattle.scan_segments.specs.declared.cache.CacheEvent.TheVariants.{Missed, Found, Offered}
use Rattle.scan_segments.specs.declared.segment.SegmentKey.{SegmentKey}
use Rattle.scan_drive.specs.Ledger.{open_after}

abbrev pub Events : Type 0
Events = List (CacheEvent SegmentKey)

-- ---- lists of keys
pub times_cons : (k x : SegmentKey) (xs : List SegmentKey) → times k (x ∷ xs) ≡ cond (same_key k x) 1 0 + times k xs
times_cons k x xs = go (same_key k x) refl where
  go : (b : Bool) → same_key k x ≡ b → times k (x ∷ xs) ≡ cond (same_key k x) 1 0 + times k xs
  go true is = rw is (omega arith)
  go false is = rw is (omega arith)

pub times_append : (k : SegmentKey) (xs ys : List SegmentKey) → times k (xs ++ ys) ≡ times k xs + times k ys
times_append k [] ys = omega arith
times_append k (x ∷ xs) ys = let ih = times_append k xs ys in omega (arith, times_cons k x (xs ++ ys), times_cons k x xs)

-- ---- keys that are the same
pub names_same : (a b : List ℕ) → pointwise nat_eq a b ≡ true → a ≡ b
names_same [] [] h = refl
names_same [] (y ∷ ys) h = absurd cc
names_same (x ∷ xs) [] h = absurd cc
names_same (x ∷ xs) (y ∷ ys) h = go (nat_eq x y) refl h (names_same xs ys) where
  go : (b : Bool) → nat_eq x y ≡ b → (b && pointwise nat_eq xs ys) ≡ true → (pointwise nat_eq xs ys ≡ true → xs ≡ ys) → (x ∷ xs) ≡ (y ∷ ys)
  go true is h ih = let same : x ≡ y = grind (arith, nat_tests) in λ i. same i ∷ ih h i
  go false is h ih = absurd cc

pub names_self : (a : List ℕ) → pointwise nat_eq a a ≡ true
names_self [] = refl
names_self (x ∷ xs) = let on : nat_eq x x ≡ true = grind (arith, nat_tests) in rw on (names_self xs)

both : (a b : Bool) → (a && b) ≡ true → (a ≡ true) × (b ≡ true)
both true b h = (refl, h)
both false b h = absurd cc

pub key_same : (k l : SegmentKey) → same_key k l ≡ true → k ≡ l
key_same k l h =
    let parts = both (pointwise nat_eq k.source_id l.source_id) (nat_eq k.segment l.segment) h in
    let names : k.source_id ≡ l.source_id = names_same k.source_id l.source_id parts.0 in
    let on : nat_eq k.segment l.segment ≡ true = parts.1 in
    let ids : k.segment ≡ l.segment = grind (arith, nat_tests) in
    λ i. record { source_id = names i; segment = ids i }

pub key_self : (k : SegmentKey) → same_key k k ≡ true
key_self k = let on : nat_eq k.segment k.segment ≡ true = grind (arith, nat_tests) in rw (names_self k.source_id) on

-- ---- lists of events
pub missed_append : (a b : Events) → missed_keys (a ++ b) ≡ missed_keys a ++ missed_keys b
missed_append [] b = refl
missed_append (Missed k ∷ a) b = ap (λ l. k ∷ l) (missed_append a b)
missed_append (Found k ∷ a) b = missed_append a b
missed_append (Offered k ∷ a) b = missed_append a b

pub found_append : (a b : Events) → found_keys (a ++ b) ≡ found_keys a ++ found_keys b
found_append [] b = refl
found_append (Missed k ∷ a) b = found_append a b
found_append (Found k ∷ a) b = ap (λ l. k ∷ l) (found_append a b)
found_append (Offered k ∷ a) b = found_append a b

pub offered_append : (a b : Events) → offered_keys (a ++ b) ≡ offered_keys a ++ offered_keys b
offered_append [] b = refl
offered_append (Missed k ∷ a) b = offered_append a b
offered_append (Found k ∷ a) b = offered_append a b
offered_append (Offered k ∷ a) b = ap (λ l. k ∷ l) (offered_append a b)

-- ---- puts after lookups
follow_none : (k : SegmentKey) (m : Bool) (es : Events) → offered_keys es ≡ [] → puts_follow_misses k m es ≡ true
follow_none k m [] h = refl
follow_none k m (Missed x ∷ es) h = follow_none k (same_key k x || m) es h
follow_none k m (Found x ∷ es) h = follow_none k m es h
follow_none k m (Offered x ∷ es) h = absurd cc

open_none : (k : SegmentKey) (m : Bool) (es : Events) → offered_keys es ≡ [] → m ≡ true → open_after k m es ≡ true
open_none k m [] h on = on
open_none k m (Missed x ∷ es) h on = open_none k (same_key k x || m) es h (ap (λ b. same_key k x || b) on ∙ or_true (same_key k x)) where
  or_true : (b : Bool) → (b || true) ≡ true
  or_true true = refl
  or_true false = refl
open_none k m (Found x ∷ es) h on = open_none k m es h on
open_none k m (Offered x ∷ es) h on = absurd cc

-- lookups after what is there
pub follow_more : (k : SegmentKey) (m : Bool) (es more : Events) → offered_keys more ≡ [] → puts_follow_misses k m es ≡ true → puts_follow_misses k m (es ++ more) ≡ true
follow_more k m [] more none h = follow_none k m more none
follow_more k m (Missed x ∷ es) more none h = follow_more k (same_key k x || m) es more none h
follow_more k m (Found x ∷ es) more none h = follow_more k m es more none h
follow_more k m (Offered x ∷ es) more none h = go (same_key k x) m (follow_more k false es more none) (follow_more k m es more none) h where
  go : (b m : Bool) → (puts_follow_misses k false es ≡ true → puts_follow_misses k false (es ++ more) ≡ true) → (puts_follow_misses k m es ≡ true → puts_follow_misses k m (es ++ more) ≡ true)
      → cond b (m && puts_follow_misses k false es) (puts_follow_misses k m es) ≡ true → cond b (m && puts_follow_misses k false (es ++ more)) (puts_follow_misses k m (es ++ more)) ≡ true
  go true true off on h = off h
  go true false off on h = absurd cc
  go false m off on h = on h

pub open_more : (k : SegmentKey) (m : Bool) (es more : Events) → offered_keys more ≡ [] → open_after k m es ≡ true → open_after k m (es ++ more) ≡ true
open_more k m [] more none h = open_none k m more none h
open_more k m (Missed x ∷ es) more none h = open_more k (same_key k x || m) es more none h
open_more k m (Found x ∷ es) more none h = open_more k m es more none h
open_more k m (Offered x ∷ es) more none h = open_more k (m && not (same_key k x)) es more none h

-- a lookup of the key that missed
pub open_missed : (k : SegmentKey) (m : Bool) (es : Events) (x : SegmentKey) → same_key k x ≡ true → open_after k m (es ++ Missed x ∷ []) ≡ true
open_missed k m [] x h = rw h refl
open_missed k m (Missed y ∷ es) x h = open_missed k (same_key k y || m) es x h
open_missed k m (Found y ∷ es) x h = open_missed k m es x h
open_missed k m (Offered y ∷ es) x h = open_missed k (m && not (same_key k y)) es x h

-- a put of another key
pub open_put : (k : SegmentKey) (m : Bool) (es : Events) (x : SegmentKey) → same_key k x ≡ false → open_after k m es ≡ true → open_after k m (es ++ Offered x ∷ []) ≡ true
open_put k m [] x off h = rw (off, h) refl
open_put k m (Missed y ∷ es) x off h = open_put k (same_key k y || m) es x off h
open_put k m (Found y ∷ es) x off h = open_put k m es x off h
open_put k m (Offered y ∷ es) x off h = open_put k (m && not (same_key k y)) es x off h

-- a put while a lookup that missed stands open, or of another key
pub follow_put : (k : SegmentKey) (m : Bool) (es : Events) (x : SegmentKey) → (same_key k x ≡ true → open_after k m es ≡ true) → puts_follow_misses k m es ≡ true → puts_follow_misses k m (es ++ Offered x ∷ []) ≡ true
follow_put k m [] x on h = go (same_key k x) refl where
  go : (b : Bool) → same_key k x ≡ b → cond (same_key k x) (m && true) true ≡ true
  go true is = rw (is, on is) refl
  go false is = rw is refl
follow_put k m (Missed y ∷ es) x on h = follow_put k (same_key k y || m) es x on h
follow_put k m (Found y ∷ es) x on h = follow_put k m es x on h
follow_put k m (Offered y ∷ es) x on h = go (same_key k y) m (follow_put k false es x) (follow_put k m es x) on h where
  go : (b m : Bool) → ((same_key k x ≡ true → open_after k false es ≡ true) → puts_follow_misses k false es ≡ true → puts_follow_misses k false (es ++ Offered x ∷ []) ≡ true)
      → ((same_key k x ≡ true → open_after k m es ≡ true) → puts_follow_misses k m es ≡ true → puts_follow_misses k m (es ++ Offered x ∷ []) ≡ true) → (same_key k x ≡ true → open_after k (m && not b) es ≡ true)
      → cond b (m && puts_follow_misses k false es) (puts_follow_misses k m es) ≡ true → cond b (m && puts_follow_misses k false (es ++ Offered x ∷ [])) (puts_follow_misses k m (es ++ Offered x ∷ [])) ≡ true
  go true true off on o h = off o h
  go true false off on o h = absurd cc
  go false true off on o h = on o h
  go false false off on o h = on o h
