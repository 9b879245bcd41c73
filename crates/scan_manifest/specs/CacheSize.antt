-- How large a cache of a manifest is.
use Rattle.std.specs.Prelude.{ℕ}
use Rattle.scan_caches.specs.declared.bounded.SegmentEviction.{SegmentEviction}

-- the most bytes and entries that it keeps, and what it drops first
pub record CacheSize : Type 0 where
  pub bytes : ℕ
  pub entries : ℕ
  pub eviction : SegmentEviction
