-- What a lookup and a put may answer.
use Rattle.std.specs.Prelude.{◌≡◌, ◌⊎◌, ℕ, ◌<◌, ◌≤◌, List, Option, None, Some, IfSome}
use Rattle.scan_segments.specs.declared.cache.CacheEvent.{CacheEvent}
use Rattle.scan_segments.specs.declared.cache.CacheEvent.TheVariants.{Missed, Found, Offered}
use Rattle.scan_segments.specs.declared.cache.CacheGet.{CacheGet}
use Rattle.scan_segments.specs.declared.cache.CacheGet.TheVariants as get
use Rattle.scan_segments.specs.declared.cache.CachePut.{CachePut}
use Rattle.scan_segments.specs.declared.cache.CachePut.TheVariants as put
use Rattle.scan_segments.specs.Cache.{Entries, CacheState, Loses, Stores, Both, happened}
use Rattle.scan_segments.specs.Faults.{Rose, RaisedByOne}

module _ {K : Type 0} where
  -- a call after which entries stand in this relation to those before, these events have happened, and no put found too little memory
  pub record Moves (change : Entries K → Entries K → Type 0) (ended : Option (List (CacheEvent K))) (old new : CacheState K) : Type 0 where
    pub entries : Both old.entries new.entries change
    pub ended_is : new.ended ≡ ended
    pub short : new.short ≡ old.short
    pub faults : old.faults ≤ new.faults
    pub turns : new.turns ≤ old.turns

  -- a put that found no memory
  pub record FallsShort (old new : CacheState K) : Type 0 where
    pub entries : Both old.entries new.entries Loses
    pub ended_is : new.ended ≡ old.ended
    pub short : RaisedByOne old.short new.short
    pub faults : old.faults ≤ new.faults
    pub turns : new.turns ≤ old.turns

  abbrev pub IsGot : K → CacheState K → CacheState K → CacheGet → Type 0
  IsGot k old new get.Pending = Moves Loses old.ended old new × (new.turns < old.turns)
  IsGot k old new (get.Hit bytes) = Moves Loses (happened (Found k) old.ended) old new × IfSome old.entries (λ m. m k ≡ Some bytes)
  IsGot k old new get.Miss = Moves Loses (happened (Missed k) old.ended) old new × IfSome old.entries (λ m. m k ≡ None)
  IsGot k old new get.Failed = Moves Loses (happened (Missed k) old.ended) old new × Rose old.faults new.faults
  IsGot k old new get.NoMemory = Moves Loses old.ended old new

  abbrev pub IsPut : K → List ℕ → CacheState K → CacheState K → CachePut → Type 0
  IsPut k bytes old new put.Pending = Moves Loses old.ended old new × (new.turns < old.turns)
  IsPut k bytes old new put.Stored = Moves (Stores k bytes) (happened (Offered k) old.ended) old new
  IsPut k bytes old new put.Passed = Moves Loses (happened (Offered k) old.ended) old new
  IsPut k bytes old new put.Failed = Moves Loses (happened (Offered k) old.ended) old new × Rose old.faults new.faults
  IsPut k bytes old new put.NoMemory = FallsShort old new

  -- a put that was polled to its end
  pub record Offers (k : K) (bytes : List ℕ) (old new : CacheState K) : Type 0 where
    pub entries : Both old.entries new.entries (Stores k bytes)
    pub noted : ((new.ended ≡ happened (Offered k) old.ended) × (new.short ≡ old.short)) ⊎ ((new.ended ≡ old.ended) × RaisedByOne old.short new.short)
    pub faults : old.faults ≤ new.faults
    pub turns : new.turns ≤ old.turns
