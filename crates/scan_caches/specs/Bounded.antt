-- The bounded cache: its pairs, the most recently used first, its use counts, and what a lookup and a put leave.
use Rattle.std.specs.Prelude.{◌≡◌, ◌⊎◌, ℕ, zero, suc, ◌+◌, ◌-◌, ◌*◌, ◌<◌, ◌≤◌, nat_le, min, Bool, true, false, not, ◌&&◌, cond, filter, List, [], ◌∷◌, length, Option, Some, None, is_none}
use Rattle.std.specs.List.{list_all}
use Rattle.std.specs.Option.{option_map_or}
use Rattle.std.specs.Map.{lookup, remove_entry}
use Rattle.scan_segments.specs.declared.segment.SegmentKey.{SegmentKey}
use Rattle.scan_segments.specs.Keys.{same_key}
use Rattle.scan_caches.specs.declared.bounded.SegmentEviction.{SegmentEviction}
use Rattle.scan_caches.specs.declared.bounded.SegmentEviction.TheVariants as by
use Rattle.scan_segments.specs.declared.cache.CacheGet.{CacheGet}
use Rattle.scan_segments.specs.declared.cache.CacheGet.TheVariants as get
use Rattle.scan_segments.specs.declared.cache.CachePut.{CachePut}
use Rattle.scan_segments.specs.declared.cache.CachePut.TheVariants as put
use Rattle.scan_segments.specs.Cache.{CacheState}
use Rattle.lru.specs.LruCache.{lru_cache, promoted, put_entries}

abbrev pub Pair : Type 0
Pair = SegmentKey × List ℕ

-- keys with how often each was looked up, the last looked up first
abbrev pub Uses : Type 0
Uses = List (SegmentKey × ℕ)

abbrev pub weight : List Pair → ℕ
weight [] = 0
weight (e ∷ es) = length e.1 + weight es

-- the pairs from the front on, as far as weight and number fit
abbrev pub fitted : ℕ → ℕ → List Pair → List Pair
fitted capacity zero es = []
fitted capacity (suc n) [] = []
fitted capacity (suc n) (e ∷ es) = cond (nat_le (length e.1) capacity) (e ∷ fitted (capacity - length e.1) n es) []

-- the pair stands at the front, in place of one that was there under its key
abbrev pub stored : SegmentKey → List ℕ → List Pair → List Pair
stored k v es = (k, v) ∷ remove_entry (same_key k) es

-- how often a key was looked up, as far as it is remembered
abbrev pub count_of : Uses → SegmentKey → ℕ
count_of uses k = option_map_or (λ n. n) (lookup (same_key k) uses) 0

-- one more use of a key, where so many keys are remembered
abbrev pub used : ℕ → SegmentKey → Uses → Uses
used n k uses = put_entries same_key (lru_cache uses n) k (min (count_of uses k + 1) 18446744073709551615)

-- the key of the least count among k and the pairs behind it, and of equal counts the last
abbrev pub least : Uses → SegmentKey → List Pair → SegmentKey
least uses k [] = k
least uses k (e ∷ es) = least uses (cond (nat_le (count_of uses e.0) (count_of uses k)) e.0 k) es

-- the key of the least count among pairs, and of equal counts the last
abbrev pub least_used : Uses → List Pair → Option SegmentKey
least_used uses [] = None
least_used uses (e ∷ es) = Some (least uses e.0 es)

-- no pair was looked up less often than this key
abbrev pub is_least : Uses → SegmentKey → List Pair → Bool
is_least uses k es = list_all (λ e. nat_le (count_of uses k) (count_of uses e.0)) es

-- the pairs weigh no more than this, and are no more than so many
abbrev pub fits : ℕ → ℕ → List Pair → Bool
fits capacity n es = nat_le (weight es) capacity && nat_le (length es) n

-- the pairs under other keys
abbrev pub without : SegmentKey → List Pair → List Pair
without k es = filter (λ e. not (same_key k e.0)) es

-- the pair of the least count goes, at most so many times, until the rest fits
abbrev pub evicted : Uses → ℕ → ℕ → ℕ → List Pair → List Pair
evicted uses capacity n zero es = es
evicted uses capacity n (suc turns) [] = []
evicted uses capacity n (suc turns) (e ∷ es) = cond (fits capacity n (e ∷ es)) (e ∷ es) (evicted uses capacity n turns (without (least uses e.0 es) (e ∷ es)))

-- the pairs that stay where those of the least count go until the rest fits
abbrev pub trimmed : Uses → ℕ → ℕ → List Pair → List Pair
trimmed uses capacity n es = evicted uses capacity n (length es) es

-- what contracts see of a bounded cache
pub record Bounded : Type 0 where
  pub pairs : List Pair
  pub capacity : ℕ
  pub max_entries : ℕ
  pub eviction : SegmentEviction
  -- the use counts of the last 4 * max_entries keys looked up, under TinyLfu
  pub uses : Uses

abbrev pub bounded : List Pair → Uses → ℕ → ℕ → SegmentEviction → Bounded
bounded es us n m by = record { pairs = es; capacity = n; max_entries = m; eviction = by; uses = us }

abbrev pub with_both : List Pair → Uses → Bounded → Bounded
with_both es us c = bounded es us c.capacity c.max_entries c.eviction

abbrev pub with_pairs : List Pair → Bounded → Bounded
with_pairs es c = with_both es c.uses c

-- the use counts after a lookup of this key, where so many are remembered
abbrev pub uses_after : SegmentKey → SegmentEviction → ℕ → Uses → Uses
uses_after k by.Lru n us = us
uses_after k by.TinyLfu n us = used n k us

-- a lookup leaves these pairs, and counts under TinyLfu
abbrev pub looked_up : SegmentKey → List Pair → Bounded → Bounded
looked_up k es c = with_both es (uses_after k c.eviction (4 * c.max_entries) c.uses) c

-- a hit is the entry, which comes to the front
abbrev pub Gets : SegmentKey → Bounded → Bounded → CacheGet → Type 0
Gets k c d (get.Hit b) = (lookup (same_key k) c.pairs ≡ Some b) × (d ≡ looked_up k (promoted (same_key k) c.pairs) c)
Gets k c d get.Miss = (lookup (same_key k) c.pairs ≡ None) × (d ≡ looked_up k c.pairs c)
Gets k c d get.NoMemory = d ≡ c
Gets k c d get.Pending = ⊥
Gets k c d get.Failed = ⊥

-- under TinyLfu: the key is no entry, does not fit beside the entries, and none of them was looked up less often
abbrev pub is_rare : SegmentEviction → SegmentKey → List ℕ → Bounded → Bool
is_rare by.Lru k v c = false
is_rare by.TinyLfu k v c = is_none (lookup (same_key k) c.pairs) && not (fits (c.capacity - length v) (c.max_entries - 1) c.pairs) && is_least c.uses k c.pairs

-- the pairs after a put that stores: the last go under Lru, those looked up least often under TinyLfu
abbrev pub kept : SegmentEviction → SegmentKey → List ℕ → Bounded → List Pair
kept by.Lru k v c = fitted c.capacity c.max_entries (stored k v c.pairs)
kept by.TinyLfu k v c = (k, v) ∷ trimmed c.uses (c.capacity - length v) (c.max_entries - 1) (without k c.pairs)

-- a segment that is heavier than the capacity passes, and so does a rare one; any other stands at the front
abbrev pub Puts : SegmentKey → List ℕ → Bounded → Bounded → CachePut → Type 0
Puts k v c d put.Stored = (length v ≤ c.capacity) × (is_rare c.eviction k v c ≡ false) × (d ≡ with_pairs (kept c.eviction k v c) c)
Puts k v c d put.Passed = ((c.capacity < length v) ⊎ (is_rare c.eviction k v c ≡ true)) × (d ≡ c)
Puts k v c d put.NoMemory = d ≡ c
Puts k v c d put.Pending = ⊥
Puts k v c d put.Failed = ⊥

-- the bytes at a key
abbrev pub at : List Pair → SegmentKey → Option (List ℕ)
at es k = lookup (same_key k) es

-- the cache as one of many files: it tells its entries
abbrev pub keyed_state : Bounded → CacheState SegmentKey
keyed_state c = record { entries = Some (at c.pairs); ended = None; short = None; faults = 0; turns = 0 }

-- the cache as one of the file with this source id
abbrev pub file_state : List ℕ → Bounded → CacheState ℕ
file_state source_id c = record {
  entries = Some (λ id. at c.pairs (record { source_id = source_id; segment = id }));
  ended = None;
  short = None;
  faults = 0;
  turns = 0;
}
