-- What a cache keeps of the segments of sources.
use Rattle.std.specs.Prelude.{◌≡◌, ℕ, List, Some, IfSome, IsSome}
use Rattle.scan_segments.specs.Source.{SourceState}
use Rattle.scan_segments.specs.Cache.{CacheState}
use Rattle.scan_segments.specs.declared.segment.SegmentKey.{SegmentKey}
use Rattle.scan_drive.specs.Traffic.{key_of}

-- as far as the cache tells, it keeps the key
abbrev pub IsKept : CacheState SegmentKey → SegmentKey → Type 0
IsKept cache k = IfSome cache.entries (λ m. IsSome (m k))

-- what a cache keeps under a name is what a source holds, as far as both tell
abbrev pub KeepsContent : List ℕ → CacheState SegmentKey → SourceState → Type 0
KeepsContent name cache source = IfSome cache.entries
    (λ m. IfSome source.holds (λ store. (id : ℕ) → IfSome (m (key_of name id)) (λ bytes. store id ≡ Some bytes)))
