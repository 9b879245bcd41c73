-- What a scan asks of its sources and its cache, and how it counts that.
use Rattle.std.specs.Prelude.{◌≡◌, ◌⊎◌, ℕ, ◌+◌, ◌≤◌, ◌<◌, ◌^◌, ◌-◌, List, [], ◌∷◌, ◌++◌, Bool, true, false, Option, None, Some, IfSome, IsSome, All, Contains, map, drop, length, filter, get_or, is_some, nat_eq, option_map, option_and_then}
use Rattle.std.specs.Cmp.Lexicographic.{pointwise}
use Rattle.scan_segments.specs.Faults.{capped, one_more}
use Rattle.scan_segments.specs.Source.{SourceState, TellsBytes}
use Rattle.scan_segments.specs.Cache.{CacheState, Both}
use Rattle.scan_segments.specs.Events.{missed_keys, found_keys, offered_keys, times, puts_follow_misses}
use Rattle.scan_segments.specs.declared.cache.CacheEvent.{CacheEvent}
use Rattle.scan_segments.specs.declared.segment.SegmentKey.{SegmentKey}
use Rattle.scan_drive.specs.declared.files.ScanFile.{ScanFile}
use Rattle.scan_drive.specs.declared.report.ScanReport.{ScanReport}

-- a segment of the source of this name
abbrev pub key_of : List ℕ → ℕ → SegmentKey
key_of name id = record { source_id = name; segment = id }

-- this id was asked in the call
pub record WasAsked (id : ℕ) (old new : SourceState) : Type 0 where
  pub ids : List ℕ
  pub asked : new.asked ≡ old.asked ++ ids
  pub among : Contains ids id

-- the ids that a source was asked for since
abbrev pub asked_since : SourceState → SourceState → List ℕ
asked_since old new = drop (length old.asked) new.asked

-- the events of a cache since, where it tells
abbrev pub ended_since : CacheState SegmentKey → CacheState SegmentKey → Option (List (CacheEvent SegmentKey))
ended_since old new = option_and_then (λ before. option_map (drop (length before)) new.ended) old.ended

-- a count that may be told, up to the greatest u64, did not fall
abbrev pub Grows : Option ℕ → Option ℕ → Type 0
Grows None None = Unit {0}
Grows None (Some now) = ⊥
Grows (Some before) None = ⊥
Grows (Some before) (Some now) = capped before ≤ now

-- the report of so many wants that were found in the cache, that were shared with a request before, and that were asked for
abbrev pub capped_report : ℕ → ℕ → ℕ → ScanReport
capped_report hits shared asks = record { wants = capped (hits + shared + asks); hits = capped hits; shared = capped shared; asks = capped asks }

-- the counts with one more want that the cache has
abbrev pub with_hit : ScanReport → ScanReport
with_hit r = record { wants = one_more r.wants; hits = one_more r.hits; shared = r.shared; asks = r.asks }

-- the counts with one more want that the cache does not have
abbrev pub with_miss : Bool → ScanReport → ScanReport
with_miss true r = record { wants = one_more r.wants; hits = r.hits; shared = r.shared; asks = one_more r.asks }
with_miss false r = record { wants = one_more r.wants; hits = r.hits; shared = one_more r.shared; asks = r.asks }

-- A report of so many asks. Where the cache tells its events, each want that it found is a hit, and each other one was shared or asked for.
pub record IsReport (asks : ℕ) (events : Option (List (CacheEvent SegmentKey))) (report : ScanReport) : Type 0 where
  pub hits : ℕ
  pub shared : ℕ
  pub are : report ≡ capped_report hits shared asks
  pub found : IfSome events (λ es. length (found_keys es) ≡ hits)
  pub missed : IfSome events (λ es. length (missed_keys es) ≡ shared + asks)

module _ {O S : Type 0} (source : S → SourceState) where
  -- the keys that the sources were asked for since, file by file
  abbrev pub asked_keys : List (ScanFile O S) → List (ScanFile O S) → List SegmentKey
  asked_keys [] now = []
  asked_keys (f ∷ fs) [] = []
  asked_keys (f ∷ fs) (g ∷ gs) = map (key_of f.source_id) (asked_since (source f.source) (source g.source)) ++ asked_keys fs gs

  -- how many of the segments that a file was asked for its source holds
  abbrev pub held_of : ScanFile O S → ScanFile O S → ℕ
  held_of f g = length (filter (λ id. is_some (option_and_then (λ store. store id) (source f.source).holds)) (asked_since (source f.source) (source g.source)))

  -- the same of all files together
  abbrev pub held_asks : List (ScanFile O S) → List (ScanFile O S) → ℕ
  held_asks [] now = 0
  held_asks (f ∷ fs) [] = 0
  held_asks (f ∷ fs) (g ∷ gs) = held_of f g + held_asks fs gs

  -- how many files have this source name
  abbrev pub named_so : List ℕ → List (ScanFile O S) → ℕ
  named_so name files = length (filter (λ f. pointwise nat_eq name f.source_id) files)

  -- No key is asked for more often than a lookup of it missed. Each put of a key whose name one file alone has comes
  -- after a lookup of it that missed, and after the put before.
  pub record LooksUpFirst (old new : List (ScanFile O S)) (events : List (CacheEvent SegmentKey)) : Type 0 where
    pub missed : (k : SegmentKey) → times k (asked_keys old new) ≤ times k (missed_keys events)
    pub follow : (k : SegmentKey) → named_so k.source_id old ≤ 1 → puts_follow_misses k false events ≡ true

  -- No key is put more often than it was asked for. Where all sources tell, and while the count of puts without
  -- memory is below its greatest value, what was asked for and is there was put.
  pub record PutsWhatItAsked (old new : List (ScanFile O S)) (c d : CacheState SegmentKey) (events : List (CacheEvent SegmentKey)) : Type 0 where
    pub each : (k : SegmentKey) → times k (offered_keys events) ≤ times k (asked_keys old new)
    pub all : All (λ f. IsSome (source f.source).holds) old
        → IfSome c.short (λ before. IfSome d.short
        (λ now. now < 2 ^ 64 - 1 → held_asks old new + before ≡ length (offered_keys events) + now))

  -- bytes of a segment that a file of this name was asked for, as its source tells them
  pub record IsFedBy (old new : List (ScanFile O S)) (k : SegmentKey) (bytes : List ℕ) : Type 0 where
    pub place : ℕ
    pub there : place < length old
    pub name : (f : ScanFile O S) → (get_or old place f).source_id ≡ k.source_id
    pub asked : (f : ScanFile O S) → WasAsked k.segment (source (get_or old place f).source) (source (get_or new place f).source)
    pub told : (f : ScanFile O S) → TellsBytes (source (get_or old place f).source) k.segment bytes

  -- A cache after a scan. Its entries only went, but for those that the files' sources gave; its events were added to, and its counts did not fall.
  pub record CacheMoves (old new : List (ScanFile O S)) (c d : CacheState SegmentKey) : Type 0 where
    pub entries : Both c.entries d.entries (λ m n. (k : SegmentKey) (b : List ℕ) → n k ≡ Some b → (m k ≡ Some b) ⊎ IsFedBy old new k b)
    pub events : List (CacheEvent SegmentKey)
    pub ended : d.ended ≡ option_map (λ es. es ++ events) c.ended
    pub short : Grows c.short d.short
    pub faults : c.faults ≤ d.faults
    pub turns : d.turns ≤ c.turns
