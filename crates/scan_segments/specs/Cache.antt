-- What a cache of segments is. The key is a segment's id, or with many files a source's name and the id.
use Rattle.std.specs.Prelude.{◌≡◌, ◌⊎◌, ℕ, List, [], ◌∷◌, ◌++◌, Option, None, Some, option_map}
use Rattle.scan_segments.specs.declared.cache.CacheEvent.{CacheEvent}

-- the bytes at each key that there is
abbrev pub Entries : Type 0 → Type 0
Entries K = K → Option (List ℕ)

-- what a cache is, as far as contracts see it
pub record CacheState (K : Type 0) : Type 0 where
  -- what it keeps, where it tells
  pub entries : Option (Entries K)
  -- what ended, in order, where it tells
  pub ended : Option (List (CacheEvent K))
  -- how many puts found no memory, where it tells
  pub short : Option ℕ
  pub faults : ℕ
  pub turns : ℕ

module _ {K : Type 0} where
  -- a cache that tells that it keeps nothing
  abbrev pub empty_cache : CacheState K
  empty_cache = record { entries = Some (λ k. None); ended = None; short = None; faults = 0; turns = 0 }

  -- entries only go
  abbrev pub Loses : Entries K → Entries K → Type 0
  Loses old new = (k : K) (b : List ℕ) → new k ≡ Some b → old k ≡ Some b

  -- entries only go, but for the pair that was put
  abbrev pub Stores : K → List ℕ → Entries K → Entries K → Type 0
  Stores key bytes old new = (k : K) (b : List ℕ) → new k ≡ Some b → (old k ≡ Some b) ⊎ ((k ≡ key) × (b ≡ bytes))

  -- told entries, before and after
  abbrev pub Both : Option (Entries K) → Option (Entries K) → (Entries K → Entries K → Type 0) → Type 0
  Both None new P = new ≡ None
  Both (Some old) None P = ⊥
  Both (Some old) (Some new) P = P old new

  abbrev pub happened : CacheEvent K → Option (List (CacheEvent K)) → Option (List (CacheEvent K))
  happened e ended = option_map (λ es. es ++ e ∷ []) ended
