-- A source over a cache and an inner source: what it is, and what its calls do to both.
use Rattle.std.specs.Prelude.{◌≡◌, ◌⊎◌, ℕ, ◌+◌, List, Bool, true, false, nat_eq, Option, None, Some, is_some}
use Rattle.std.specs.Ordering.{nat_cmp}
use Rattle.std.specs.BTreeMap.{is_at}
use Rattle.std.specs.Map.{lookup}
use Rattle.scan_caches.specs.declared.adapter.Stage.{Stage}
use Rattle.scan_caches.specs.declared.adapter.Stage.TheVariants as stage
use Rattle.scan_caches.specs.declared.adapter.Looked.{Looked}
use Rattle.scan_caches.specs.declared.adapter.Looked.TheVariants as looked
use Rattle.scan_segments.specs.declared.cache.CacheGet.{CacheGet}
use Rattle.scan_segments.specs.declared.cache.CacheGet.TheVariants as get
use Rattle.scan_segments.specs.declared.source.Polled.{Polled}
use Rattle.scan_segments.specs.declared.source.Polled.TheVariants.{Pending, Bytes, Missing, Failed, NoMemory}
use Rattle.scan_segments.specs.Source.{Store, SourceState, without_live, Begins, Stays, Ends}
use Rattle.scan_segments.specs.Polled.{IsPolled}
use Rattle.scan_segments.specs.Cache.{Entries, CacheState}
use Rattle.scan_segments.specs.Cached.{IsGot, Offers}

-- the cache and the source, what was asked, and the stage of each live id
pub record Adapted (C S : Type 0) : Type 0 where
  pub cache : C
  pub source : S
  pub asked : List ℕ
  pub stages : List (ℕ × Stage)

-- the stage of an id that is live
abbrev pub stage_at : List (ℕ × Stage) → ℕ → Option Stage
stage_at stages id = lookup (is_at (nat_cmp id)) stages

-- an id is live where it has a stage
abbrev pub has_stage : List (ℕ × Stage) → ℕ → Bool
has_stage stages id = is_some (stage_at stages id)

-- as a source it does not tell what it holds; its faults are the inner source's, which alone can fail, and its turns those of both
abbrev pub adapted : {C S : Type 0} → (C → CacheState ℕ) → (S → SourceState) → Adapted C S → SourceState
adapted cache source a = record {
  holds = None;
  asked = a.asked;
  live = has_stage a.stages;
  faults = (source a.source).faults;
  turns = (cache a.cache).turns + (source a.source).turns;
  can_fail = (source a.source).can_fail;
}

abbrev pub is_asked : Option Stage → Bool
is_asked None = false
is_asked (Some stage.Looking) = false
is_asked (Some (stage.Found b)) = false
is_asked (Some stage.Asked) = true

-- the ids that were asked of the inner source are those that are live there
abbrev pub IsLinked : (ℕ → Bool) → List (ℕ × Stage) → Type 0
IsLinked inner stages = (id : ℕ) → inner id ≡ is_asked (stage_at stages id)

-- the other ids keep their stages
abbrev pub KeepsStages : ℕ → List (ℕ × Stage) → List (ℕ × Stage) → Type 0
KeepsStages id old new = (q : ℕ) → nat_eq id q ≡ false → stage_at new q ≡ stage_at old q

-- the stage of an id after its request
abbrev pub stage_of : Looked → Option Stage
stage_of looked.Pending = Some stage.Looking
stage_of (looked.Hit b) = Some (stage.Found b)
stage_of looked.Asked = Some stage.Asked
stage_of looked.NoMemory = None

-- the stage of an id after a poll of the inner source
abbrev pub asked_after : Polled → Option Stage
asked_after Pending = Some stage.Asked
asked_after NoMemory = Some stage.Asked
asked_after (Bytes b) = None
asked_after Missing = None
asked_after Failed = None

-- the live ids after a poll
abbrev pub live_after : Polled → ℕ → (ℕ → Bool) → ℕ → Bool
live_after Pending id live = live
live_after NoMemory id live = live
live_after (Bytes b) id live = without_live id live
live_after Missing id live = without_live id live
live_after Failed id live = without_live id live

-- the lookups of a cache and the polls of a source, by what they show and by what their types do
module _ {C S : Type 0} (cache : C → CacheState ℕ) (gets : C → ℕ → C → CacheGet → Type 0) (source : S → SourceState) where
  -- one lookup, which ends so
  abbrev pub LooksUp : ℕ → C → C → CacheGet → Type 0
  LooksUp id c d r = IsGot id (cache c) (cache d) r × gets c id d r

  -- one lookup, which ends without bytes
  abbrev pub IsMissed : ℕ → C → C → Type 0
  IsMissed id c d = LooksUp id c d get.Miss ⊎ LooksUp id c d get.Failed

  -- one lookup: only where it missed or failed is the source asked
  abbrev pub Looks : ℕ → C → C → S → S → Looked → Type 0
  Looks id c d s t looked.Pending = LooksUp id c d get.Pending × (t ≡ s)
  Looks id c d s t (looked.Hit b) = LooksUp id c d (get.Hit b) × (t ≡ s)
  Looks id c d s t looked.Asked = IsMissed id c d × Begins id (source s) (source t)
  Looks id c d s t looked.NoMemory = (LooksUp id c d get.NoMemory × (t ≡ s)) ⊎ (IsMissed id c d × Stays (source s) (source t))

  -- a request looks up once
  pub record LooksFirst (id : ℕ) (c d : C) (s t : S) (after : Option Stage) : Type 0 where
    pub way : Looked
    pub looks : Looks id c d s t way
    pub stage : after ≡ stage_of way

  module _ (polls : S → ℕ → S → Polled → Type 0) (fits : ℕ → List ℕ → Type 0) where
    -- one poll of the inner source, which answers this
    abbrev pub PollsOnce : ℕ → S → S → Polled → Type 0
    PollsOnce id s t r = IsPolled fits id (source s) (source t) r × polls s id t r

    -- one poll of the inner source: bytes that come from it are put
    abbrev pub PollsSource : ℕ → C → C → S → S → Polled → Type 0
    PollsSource id c d s t Pending = PollsOnce id s t Pending × (d ≡ c)
    PollsSource id c d s t (Bytes b) = PollsOnce id s t (Bytes b) × Offers id b (cache c) (cache d)
    PollsSource id c d s t Missing = PollsOnce id s t Missing × (d ≡ c)
    PollsSource id c d s t Failed = PollsOnce id s t Failed × (d ≡ c)
    PollsSource id c d s t NoMemory = PollsOnce id s t NoMemory × (d ≡ c)

    -- how a poll goes on after its lookup
    abbrev pub GoesOn : ℕ → C → C → S → S → Polled → Option Stage → Looked → Type 0
    GoesOn id c d s t r after looked.Pending = (r ≡ Pending) × (d ≡ c) × (t ≡ s) × (after ≡ Some stage.Looking)
    GoesOn id c d s t r after (looked.Hit b) = (r ≡ Bytes b) × (d ≡ c) × (t ≡ s) × (after ≡ None)
    GoesOn id c d s t r after looked.Asked = PollsSource id c d s t r × (after ≡ asked_after r)
    GoesOn id c d s t r after looked.NoMemory = (r ≡ NoMemory) × (d ≡ c) × (t ≡ s) × (after ≡ Some stage.Looking)

    -- a poll whose lookup is pending looks up once, and only where that asks the source polls it, once
    pub record LooksAgain (id : ℕ) (c d : C) (s t : S) (r : Polled) (after : Option Stage) : Type 0 where
      pub between : C
      pub asked : S
      pub way : Looked
      pub looks : Looks id c between s asked way
      pub goes_on : GoesOn id between d asked t r after way

    -- the bytes that a lookup found are given, where there is memory to share them
    abbrev pub GivesFound : List ℕ → C → C → S → S → Polled → Option Stage → Type 0
    GivesFound b c d s t r after = (d ≡ c) × (t ≡ s) × (((r ≡ Bytes b) × (after ≡ None)) ⊎ ((r ≡ NoMemory) × (after ≡ Some (stage.Found b))))

    -- one poll of the adapter, by the stage of the id
    abbrev pub PollsBoth : ℕ → C → C → S → S → Polled → Option Stage → Option Stage → Type 0
    PollsBoth id c d s t r after None = ⊥
    PollsBoth id c d s t r after (Some stage.Looking) = LooksAgain id c d s t r after
    PollsBoth id c d s t r after (Some (stage.Found b)) = GivesFound b c d s t r after
    PollsBoth id c d s t r after (Some stage.Asked) = PollsSource id c d s t r × (after ≡ asked_after r)

-- a store has all that a cache tells and that lookups have found
pub record IsFaithful (store : Store) (c : CacheState ℕ) (s : SourceState) (stages : List (ℕ × Stage)) : Type 0 where
  pub source : s.holds ≡ Some store
  pub entries : Entries ℕ
  pub told : c.entries ≡ Some entries
  pub kept : (id : ℕ) (b : List ℕ) → entries id ≡ Some b → store id ≡ Some b
  pub found : (id : ℕ) (b : List ℕ) → stage_at stages id ≡ Some (stage.Found b) → store id ≡ Some b

-- an answer that tells what a store has
abbrev pub GivesContent : Store → ℕ → Polled → Type 0
GivesContent store id (Bytes b) = store id ≡ Some b
GivesContent store id Missing = store id ≡ None
GivesContent store id Pending = Unit {0}
GivesContent store id Failed = Unit {0}
GivesContent store id NoMemory = Unit {0}

-- the calls of an adapter, over all that it is
module _ {C S : Type 0} (cache : C → CacheState ℕ) (source : S → SourceState) where
  -- a store has all that the adapter's cache tells and that its lookups have found
  abbrev pub Trusts : Store → Adapted C S → Type 0
  Trusts store a = IsFaithful store (cache a.cache) (source a.source) a.stages

  -- a store that it trusted is trusted still
  abbrev pub KeepsTrust : Adapted C S → Adapted C S → Type 0
  KeepsTrust a b = (store : Store) → Trusts store a → Trusts store b

  -- nothing was looked up or asked
  abbrev pub KeepsOut : ℕ → Adapted C S → Adapted C S → Type 0
  KeepsOut id a b = (b.cache ≡ a.cache) × (b.source ≡ a.source) × (stage_at b.stages id ≡ None)

  -- a request looks up once, or finds no memory before
  abbrev pub Requests : (C → ℕ → C → CacheGet → Type 0) → ℕ → Adapted C S → Adapted C S → Type 0
  Requests gets id a b = LooksFirst cache gets source id a.cache b.cache a.source b.source (stage_at b.stages id) ⊎ KeepsOut id a b

  -- one poll, by the stage of the id before
  abbrev pub PollsAdapted : (C → ℕ → C → CacheGet → Type 0) → (S → ℕ → S → Polled → Type 0) → (ℕ → List ℕ → Type 0) → ℕ → Adapted C S → Adapted C S → Polled → Type 0
  PollsAdapted gets polls fits id a b r = PollsBoth cache gets source polls fits id a.cache b.cache a.source b.source r (stage_at b.stages id) (stage_at a.stages id)

  -- what a store has is what is given, and the store is trusted still
  abbrev pub GivesTrusted : ℕ → Polled → Adapted C S → Adapted C S → Type 0
  GivesTrusted id r a b = (store : Store) → Trusts store a → Trusts store b × GivesContent store id r

  -- the cache stays, and a request of the source ends or nothing happens to it
  abbrev pub DropsAdapted : ℕ → Adapted C S → Adapted C S → Type 0
  DropsAdapted id a b = (b.cache ≡ a.cache) × (Stays (source a.source) (source b.source) ⊎ Ends id (source a.source) (source b.source))
