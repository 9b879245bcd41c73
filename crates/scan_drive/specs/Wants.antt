-- Wants of segments: each is looked up in a cache, and what is not there waits at the desk of its file.
use Rattle.std.specs.Prelude.{◌≡◌, ℕ, List, [], ◌++◌, Bool, true, false, None, Some, is_some, option_map}
use Rattle.scan_segments.specs.Cache.{CacheState, Loses, Both, happened}
use Rattle.scan_segments.specs.Cached.{Moves, IsGot, Offers}
use Rattle.scan_segments.specs.Events.{offered_keys}
use Rattle.scan_segments.specs.Source.{SourceState, Stays}
use Rattle.scan_segments.specs.declared.cache.CacheEvent.{CacheEvent}
use Rattle.scan_segments.specs.declared.cache.CacheEvent.TheVariants.{Missed}
use Rattle.scan_segments.specs.declared.cache.CacheGet.TheVariants as get
use Rattle.scan_segments.specs.declared.segment.SegmentKey.{SegmentKey}
use Rattle.scan_splits.specs.declared.inbox.Arrival.TheVariants as arrival
use Rattle.scan_drive.specs.Desks.{Waiters, waiters_at, added, Stay, Asks}
use Rattle.scan_drive.specs.Desks as desk
use Rattle.scan_drive.specs.Traffic.{with_hit, with_miss}
use Rattle.scan_drive.specs.declared.cached.Looked.{Looked}
use Rattle.scan_drive.specs.declared.cached.Looked.TheVariants as looked
use Rattle.scan_drive.specs.declared.cached.Wanted.{Wanted}
use Rattle.scan_drive.specs.declared.cached.Wanted.TheVariants as wanted
use Rattle.scan_drive.specs.declared.desk.Reply.{Reply}
use Rattle.scan_drive.specs.declared.desk.Reply.TheVariants as reply
use Rattle.scan_drive.specs.declared.report.ScanReport.{ScanReport}

-- a cache of the segments of many files, as contracts see it
abbrev pub Cache : Type 0
Cache = CacheState SegmentKey

-- entries only went
abbrev pub OnlyLoses : Cache → Cache → Type 0
OnlyLoses c d = Both c.entries d.entries Loses

-- how a lookup that was polled to its end went
abbrev pub IsLookedUp : SegmentKey → Cache → Cache → Looked → Type 0
IsLookedUp k c d (looked.Hit bytes) = IsGot k c d (get.Hit bytes)
IsLookedUp k c d looked.Missed = Moves Loses (happened (Missed k) c.ended) c d
IsLookedUp k c d looked.NoMemory = Moves Loses c.ended c d

-- a cache after lookups
pub record LooksUp (c d : Cache) : Type 0 where
  pub events : List (CacheEvent SegmentKey)
  pub no_puts : offered_keys events ≡ []
  pub moves : Moves Loses (option_map (λ es. es ++ events) c.ended) c d

-- a want that the cache has: nothing is asked, and no place waits
pub record IsHit (key : SegmentKey) (bytes : List ℕ) (c d : Cache) (s t : SourceState) (old new : Waiters) : Type 0 where
  -- a lookup found these bytes
  pub got : IsGot key c d (get.Hit bytes)
  pub source : t ≡ s
  pub desk : new ≡ old

-- a want that the cache does not have
pub record IsMiss (key : SegmentKey) (place : ℕ) (c d : Cache) (s t : SourceState) (old new : Waiters) : Type 0 where
  -- a lookup found nothing, or failed
  pub looked : Moves Loses (happened (Missed key) c.ended) c d
  -- the source is asked, unless the id was live
  pub source : Asks (waiters_at old key.segment) key.segment s t
  -- the place waits for the id
  pub desk : desk.Moves key.segment (Some (added place (waiters_at old key.segment))) old new

-- how a want of a place ended
abbrev pub IsWanted : SegmentKey → ℕ → Cache → Cache → SourceState → SourceState → Waiters → Waiters → Wanted → Type 0
IsWanted key place c d s t old new (wanted.Hit bytes) = IsHit key bytes c d s t old new
IsWanted key place c d s t old new wanted.Shared = IsMiss key place c d s t old new × (is_some (waiters_at old key.segment) ≡ true)
IsWanted key place c d s t old new wanted.Asked = IsMiss key place c d s t old new × (waiters_at old key.segment ≡ None)

-- how a want that the cache does not have ended, by whether its id was live
abbrev pub missed_by : Bool → Wanted
missed_by true = wanted.Shared
missed_by false = wanted.Asked

-- a want for which memory is short: nothing is asked, and no place waits that did not
pub record IsUnwanted (c d : Cache) (s t : SourceState) (old new : Waiters) : Type 0 where
  pub cache : LooksUp c d
  pub source : Stays s t
  pub desk : Stay old new

-- what came is put into the cache, where bytes came
abbrev pub PutsWhatCame : SegmentKey → Cache → Cache → Reply → Type 0
PutsWhatCame key c d (reply.Came (arrival.Bytes bytes) places) = Offers key bytes c d
PutsWhatCame key c d (reply.Came arrival.Missing places) = d ≡ c
PutsWhatCame key c d reply.Pending = d ≡ c
PutsWhatCame key c d (reply.Failed places) = d ≡ c
PutsWhatCame key c d reply.NoMemory = d ≡ c

-- the counts with one more want that ended so
abbrev pub counted : Wanted → ScanReport → ScanReport
counted (wanted.Hit bytes) r = with_hit r
counted wanted.Shared r = with_miss false r
counted wanted.Asked r = with_miss true r
