-- What the events of a cache say of its keys.
use Rattle.std.specs.Prelude.{ℕ, List, [], ◌∷◌, Bool, true, false, ◌&&◌, ◌||◌, cond, filter, length}
use Rattle.scan_segments.specs.declared.cache.CacheEvent.{CacheEvent}
use Rattle.scan_segments.specs.declared.cache.CacheEvent.TheVariants.{Missed, Found, Offered}
use Rattle.scan_segments.specs.declared.segment.SegmentKey.{SegmentKey}
use Rattle.scan_segments.specs.Keys.{same_key}

module _ {K : Type 0} where
  -- the keys of the lookups that gave nothing, in order
  abbrev pub missed_keys : List (CacheEvent K) → List K
  missed_keys [] = []
  missed_keys (Missed k ∷ es) = k ∷ missed_keys es
  missed_keys (Found k ∷ es) = missed_keys es
  missed_keys (Offered k ∷ es) = missed_keys es

  -- the keys of the lookups that gave bytes
  abbrev pub found_keys : List (CacheEvent K) → List K
  found_keys [] = []
  found_keys (Missed k ∷ es) = found_keys es
  found_keys (Found k ∷ es) = k ∷ found_keys es
  found_keys (Offered k ∷ es) = found_keys es

  -- the keys of the puts
  abbrev pub offered_keys : List (CacheEvent K) → List K
  offered_keys [] = []
  offered_keys (Missed k ∷ es) = offered_keys es
  offered_keys (Found k ∷ es) = offered_keys es
  offered_keys (Offered k ∷ es) = k ∷ offered_keys es

-- how often a key stands among these
abbrev pub times : SegmentKey → List SegmentKey → ℕ
times k keys = length (filter (same_key k) keys)

-- Each put of the key has a lookup of it that missed before it, and after the put before. `missed` says whether such a lookup stands open at the start.
abbrev pub puts_follow_misses : SegmentKey → Bool → List (CacheEvent SegmentKey) → Bool
puts_follow_misses k missed [] = true
puts_follow_misses k missed (Missed key ∷ es) = puts_follow_misses k (same_key k key || missed) es
puts_follow_misses k missed (Found key ∷ es) = puts_follow_misses k missed es
puts_follow_misses k missed (Offered key ∷ es) = cond (same_key k key) (missed && puts_follow_misses k false es) (puts_follow_misses k missed es)
