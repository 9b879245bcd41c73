-- A cache in memory, as contracts see it.
use Rattle.std.specs.Prelude.{◌≡◌, ℕ, List, [], ◌∷◌, ◌++◌, None, Some, cond}
use Rattle.scan_segments.specs.Faults.{one_more}
use Rattle.scan_segments.specs.Script.{ScriptState, turns_left}
use Rattle.scan_segments.specs.MemorySource.{stepped}
use Rattle.scan_segments.specs.Outcomes.{outcome_of}
use Rattle.scan_segments.specs.Keys.{same_key}
use Rattle.scan_caches.specs.Bounded.{Pair, at}
use Rattle.scan_segments.specs.Cache.{CacheState}
use Rattle.scan_segments.specs.declared.segment.SegmentKey.{SegmentKey}
use Rattle.scan_segments.specs.declared.script.Outcome.TheVariants.{Goes, Waits, Fails}
use Rattle.scan_segments.specs.declared.cache.CacheEvent.{CacheEvent}
use Rattle.scan_segments.specs.declared.cache.CacheEvent.TheVariants.{Missed, Found, Offered}
use Rattle.scan_segments.specs.declared.cache.CacheGet.{CacheGet}
use Rattle.scan_segments.specs.declared.cache.CacheGet.TheVariants as get
use Rattle.scan_segments.specs.declared.cache.CachePut.{CachePut}
use Rattle.scan_segments.specs.declared.cache.CachePut.TheVariants as put

-- the pairs by rising keys, and what happened
pub record KeptCache : Type 0 where
  pub entries : List Pair
  pub script : ScriptState
  pub ended : List (CacheEvent SegmentKey)
  pub short : ℕ
  pub faults : ℕ

-- it tells its entries, what ended, and how many puts found no memory
abbrev pub cache_state : KeptCache → CacheState SegmentKey
cache_state c = record { entries = Some (at c.entries); ended = Some c.ended; short = Some c.short; faults = c.faults; turns = turns_left c.script }

-- one more call has its number
abbrev pub called : KeptCache → KeptCache
called c = record c { script = stepped c.script }

-- and this happened in it
abbrev pub noted : CacheEvent SegmentKey → KeptCache → KeptCache
noted e c = record c { script = stepped c.script; ended = c.ended ++ e ∷ [] }

-- a lookup among these pairs, and what it notes
abbrev pub LooksUp : SegmentKey → List Pair → List (CacheEvent SegmentKey) → List (CacheEvent SegmentKey) → CacheGet → Type 0
LooksUp k es old new (get.Hit b) = (at es k ≡ Some b) × (new ≡ old ++ Found k ∷ [])
LooksUp k es old new get.Miss = (at es k ≡ None) × (new ≡ old ++ Missed k ∷ [])
LooksUp k es old new get.NoMemory = new ≡ old
LooksUp k es old new get.Pending = ⊥
LooksUp k es old new get.Failed = ⊥

-- the bytes stand at the key, and other keys keep theirs
abbrev pub IsKept : SegmentKey → List ℕ → List Pair → List Pair → Type 0
IsKept k b old new = (q : SegmentKey) → at new q ≡ cond (same_key k q) (Some b) (at old q)

-- a lookup fails or waits exactly where the script says so, and else finds the entry
abbrev pub GetsMemory : SegmentKey → KeptCache → KeptCache → CacheGet → Type 0
GetsMemory k old new (get.Hit b) = (outcome_of old.script ≡ Goes) × (at old.entries k ≡ Some b) × (new ≡ noted (Found k) old)
GetsMemory k old new get.Miss = (outcome_of old.script ≡ Goes) × (at old.entries k ≡ None) × (new ≡ noted (Missed k) old)
GetsMemory k old new get.Failed = (outcome_of old.script ≡ Fails) × (new ≡ record (noted (Missed k) old) { faults = one_more old.faults })
GetsMemory k old new get.Pending = (outcome_of old.script ≡ Waits) × (new ≡ called old)
GetsMemory k old new get.NoMemory = (outcome_of old.script ≡ Waits → ⊥) × (new ≡ called old)

-- a put fails or waits exactly where the script says so, and else stores
abbrev pub PutsMemory : SegmentKey → List ℕ → KeptCache → KeptCache → CachePut → Type 0
PutsMemory k b old new put.Stored = (outcome_of old.script ≡ Goes) × IsKept k b old.entries new.entries
    × (new ≡ record (noted (Offered k) old) { entries = new.entries })
PutsMemory k b old new put.Failed = (outcome_of old.script ≡ Fails) × (new ≡ record (noted (Offered k) old) { faults = one_more old.faults })
PutsMemory k b old new put.Pending = (outcome_of old.script ≡ Waits) × (new ≡ called old)
PutsMemory k b old new put.NoMemory = (outcome_of old.script ≡ Waits → ⊥) × (new ≡ record (called old) { short = one_more old.short })
PutsMemory k b old new put.Passed = ⊥
