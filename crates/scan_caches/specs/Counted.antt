-- A cache whose answers are counted.
use Rattle.std.specs.Prelude.{◌≡◌, ℕ}
use Rattle.scan_segments.specs.Faults.{one_more}
use Rattle.scan_segments.specs.declared.cache.CacheGet.{CacheGet}
use Rattle.scan_segments.specs.declared.cache.CacheGet.TheVariants as get
use Rattle.scan_segments.specs.declared.cache.CachePut.{CachePut}
use Rattle.scan_segments.specs.declared.cache.CachePut.TheVariants as put

pub record Counted (C : Type 0) : Type 0 where
  pub cache : C
  pub hits : ℕ
  pub misses : ℕ
  pub stores : ℕ

-- the counts after an answer, in this order
pub record HasCounts {C : Type 0} (hits misses stores : ℕ) (s : Counted C) : Type 0 where
  pub hits_are : s.hits ≡ hits
  pub misses_are : s.misses ≡ misses
  pub stores_are : s.stores ≡ stores

module _ {C : Type 0} where
  -- a hit is counted, and a lookup that missed or failed
  abbrev pub CountsGet : CacheGet → Counted C → Counted C → Type 0
  CountsGet (get.Hit b) old new = HasCounts (one_more old.hits) old.misses old.stores new
  CountsGet get.Miss old new = HasCounts old.hits (one_more old.misses) old.stores new
  CountsGet get.Failed old new = HasCounts old.hits (one_more old.misses) old.stores new
  CountsGet get.Pending old new = HasCounts old.hits old.misses old.stores new
  CountsGet get.NoMemory old new = HasCounts old.hits old.misses old.stores new

  -- a put that stored is counted
  abbrev pub CountsPut : CachePut → Counted C → Counted C → Type 0
  CountsPut put.Stored old new = HasCounts old.hits old.misses (one_more old.stores) new
  CountsPut put.Passed old new = HasCounts old.hits old.misses old.stores new
  CountsPut put.Failed old new = HasCounts old.hits old.misses old.stores new
  CountsPut put.Pending old new = HasCounts old.hits old.misses old.stores new
  CountsPut put.NoMemory old new = HasCounts old.hits old.misses old.stores new
