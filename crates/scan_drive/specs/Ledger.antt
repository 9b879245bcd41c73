-- The books of a scan of many files: what was asked of each, what of that has not ended, and what the events of the cache say of it.
use Rattle.std.specs.Prelude.{◌≡◌, ◌⊎◌, ℕ, zero, suc, ◌+◌, ◌-◌, ◌^◌, ◌<◌, ◌≤◌, List, [], ◌∷◌, ◌++◌, Bool, true, false, ◌&&◌, ◌||◌, not, cond, map, length, filter, Option, Some, IfSome, IsSome, is_some, option_map, option_and_then}
use Rattle.scan_values.specs.Selections.{is_among}
use Rattle.scan_segments.specs.Source.{SourceState, Store, TellsBytes}
use Rattle.scan_segments.specs.Cache.{Entries, Both}
use Rattle.scan_segments.specs.Events.{missed_keys, found_keys, offered_keys, times, puts_follow_misses}
use Rattle.scan_segments.specs.Keys.{same_key}
use Rattle.scan_segments.specs.declared.cache.CacheEvent.{CacheEvent}
use Rattle.scan_segments.specs.declared.cache.CacheEvent.TheVariants.{Missed, Found, Offered}
use Rattle.scan_segments.specs.declared.segment.SegmentKey.{SegmentKey}
use Rattle.scan_drive.specs.Traffic.{key_of, asked_since, Grows, capped_report}
use Rattle.scan_drive.specs.Wants.{Cache, counted}
use Rattle.scan_drive.specs.declared.cached.Wanted.{Wanted}
use Rattle.scan_drive.specs.declared.desk.Reply.{Reply}
use Rattle.scan_drive.specs.declared.desk.Reply.TheVariants as reply
use Rattle.scan_drive.specs.declared.files.ScanFile.{ScanFile}
use Rattle.scan_drive.specs.declared.report.ScanReport.{ScanReport}

-- a file in the books: the name of its source, and the source as it was at first and as it is now
pub record Book : Type 0 where
  pub name : List ℕ
  pub first : SourceState
  pub now : SourceState

-- of ids that were asked for one after the other, those whose last request is live
abbrev pub open_among : (ℕ → Bool) → List ℕ → List ℕ
open_among live [] = []
open_among live (id ∷ ids) = cond (live id && not (is_among ids id)) (id ∷ open_among live ids) (open_among live ids)

-- the ids that were asked for since
abbrev pub new_ids : Book → List ℕ
new_ids b = asked_since b.first b.now

-- those of them whose requests have not ended
abbrev pub open_ids : Book → List ℕ
open_ids b = open_among b.now.live (new_ids b)

-- how many of these ids a source holds
abbrev pub count_held : Option Store → List ℕ → ℕ
count_held holds ids = length (filter (λ id. is_some (option_and_then (λ store. store id) holds)) ids)

-- how often a key was asked for
abbrev pub asks : SegmentKey → Book → ℕ
asks k b = times k (map (key_of b.name) (new_ids b))

-- how often a key was asked for by requests that have not ended
abbrev pub opens : SegmentKey → Book → ℕ
opens k b = times k (map (key_of b.name) (open_ids b))

-- how many ids were asked for
abbrev pub ask_count : Book → ℕ
ask_count b = length (new_ids b)

-- how many of those that were asked for the source holds
abbrev pub held_asked : Book → ℕ
held_asked b = count_held b.first.holds (new_ids b)

-- how many of those that it holds have requests that have not ended
abbrev pub held_open : Book → ℕ
held_open b = count_held b.first.holds (open_ids b)

-- a sum over books
abbrev pub total : (Book → ℕ) → List Book → ℕ
total f [] = 0
total f (b ∷ bs) = f b + total f bs

-- this is so of each book
abbrev pub Each : (Book → Type 0) → List Book → Type 0
Each P [] = Unit {0}
Each P (b ∷ bs) = P b × Each P bs

-- the book at a place is of this name, and its source is this now
abbrev pub IsAt : ℕ → List ℕ → SourceState → List Book → Type 0
IsAt k name s [] = ⊥
IsAt zero name s (b ∷ bs) = (b.name ≡ name) × (b.now ≡ s)
IsAt (suc k) name s (b ∷ bs) = IsAt k name s bs

-- the source of the book at a place is another now
abbrev pub moved : ℕ → SourceState → List Book → List Book
moved k s [] = []
moved zero s (b ∷ bs) = record b { now = s } ∷ bs
moved (suc k) s (b ∷ bs) = b ∷ moved k s bs

-- a source holds what it held, was asked for more, and only what it was asked for is live
pub record IsKept (b : Book) : Type 0 where
  pub holds : b.now.holds ≡ b.first.holds
  pub ids : List ℕ
  pub asked : b.now.asked ≡ b.first.asked ++ ids
  pub live : (id : ℕ) → b.now.live id ≡ true → is_among ids id ≡ true

-- a book of this name has this id live
abbrev pub IsLive : SegmentKey → List Book → Type 0
IsLive k [] = ⊥
IsLive k (b ∷ bs) = ((b.name ≡ k.source_id) × (b.now.live k.segment ≡ true)) ⊎ IsLive k bs

-- no book has this name
abbrev pub Lacks : List ℕ → List Book → Type 0
Lacks name bs = Each (λ b. b.name ≡ name → ⊥) bs

-- at most one book has this name
abbrev pub IsAlone : List ℕ → List Book → Type 0
IsAlone name [] = Unit {0}
IsAlone name (b ∷ bs) = ((b.name ≡ name) × Lacks name bs) ⊎ ((b.name ≡ name → ⊥) × IsAlone name bs)

-- a lookup of the key that missed has come after the last put of it; `missed` says whether one stands open at the start
abbrev pub open_after : SegmentKey → Bool → List (CacheEvent SegmentKey) → Bool
open_after k missed [] = missed
open_after k missed (Missed key ∷ es) = open_after k (same_key k key || missed) es
open_after k missed (Found key ∷ es) = open_after k missed es
open_after k missed (Offered key ∷ es) = open_after k (missed && not (same_key k key)) es

-- bytes of a segment that a book of its name was asked for, as its source tells them
abbrev pub IsFedIn : List Book → SegmentKey → List ℕ → Type 0
IsFedIn [] k bytes = ⊥
IsFedIn (b ∷ bs) k bytes = ((b.name ≡ k.source_id) × (is_among (new_ids b) k.segment ≡ true) × TellsBytes b.first k.segment bytes) ⊎ IsFedIn bs k bytes

-- entries only go, but for those that the sources gave
abbrev pub Feeds : List Book → Entries SegmentKey → Entries SegmentKey → Type 0
Feeds books m n = (k : SegmentKey) (bytes : List ℕ) → n k ≡ Some bytes → (m k ≡ Some bytes) ⊎ IsFedIn books k bytes

-- What the books and the events of a cache since its first state say together.
pub record Ledger (books : List Book) (c d : Cache) : Type 0 where
  pub kept : Each IsKept books
  pub events : List (CacheEvent SegmentKey)
  pub ended : d.ended ≡ option_map (λ es. es ++ events) c.ended
  pub short : Grows c.short d.short
  pub faults : c.faults ≤ d.faults
  pub turns : d.turns ≤ c.turns
  pub entries : Both c.entries d.entries (Feeds books)
  -- no key is asked for more often than a lookup of it missed
  pub missed : (k : SegmentKey) → total (asks k) books ≤ times k (missed_keys events)
  -- no key is put more often than requests of it have ended
  pub each : (k : SegmentKey) → times k (offered_keys events) + total (opens k) books ≤ total (asks k) books
  -- each put of a key whose name one book alone has comes after a lookup of it that missed, and after the put before
  pub follow : (k : SegmentKey) → IsAlone k.source_id books → puts_follow_misses k false events ≡ true
  -- while such a key is live, a lookup of it that missed has come after the last put
  pub pending : (k : SegmentKey) → IsAlone k.source_id books → IsLive k books → open_after k false events ≡ true

-- What the report counts, and what was put of that which was asked for. `lost` says whether a request was given up, or failed.
pub record Totals (books : List Book) (c d : Cache) (events : List (CacheEvent SegmentKey)) (report : ScanReport) (lost : Bool) : Type 0 where
  pub shared : ℕ
  pub counts : report ≡ capped_report (length (found_keys events)) shared (total ask_count books)
  pub lookups : length (missed_keys events) ≡ shared + total ask_count books
  pub puts : lost ≡ false → Each (λ b. IsSome b.first.holds) books
      → IfSome c.short (λ before. IfSome d.short
      (λ now. now < 2 ^ 64 - 1 → total held_asked books + before ≡ length
      (offered_keys events) + now + total held_open books))

-- A ledger, and the counts over its events.
pub record Balance (books : List Book) (c d : Cache) (report : ScanReport) (lost : Bool) : Type 0 where
  pub ledger : Ledger books c d
  pub totals : Totals books c d ledger.events report lost

-- calls of a file's source and of a cache keep the ledger, whatever stands in the books of other files
abbrev pub KeepsLedger : List ℕ → SourceState → SourceState → Cache → Cache → Type 0
KeepsLedger name s t c d = (k : ℕ) (books : List Book) (first : Cache) → IsAt k name s books → Ledger books first c → Ledger (moved k t books) first d

-- they keep the counts too
abbrev pub KeepsBalance : List ℕ → SourceState → SourceState → Cache → Cache → ScanReport → ScanReport → Bool → Bool → Type 0
KeepsBalance name s t c d report after lost gone = (k : ℕ) (books : List Book) (first : Cache) → IsAt k name s books
    → Balance books first c report lost → Balance (moved k t books) first d after gone

-- they keep both, and no request is lost
abbrev pub KeepsReport : List ℕ → SourceState → SourceState → Cache → Cache → ScanReport → ScanReport → Type 0
KeepsReport name s t c d report after = (lost : Bool) → KeepsBalance name s t c d report after lost lost

-- they keep it by a want that ended so, which is counted
abbrev pub KeepsWant : List ℕ → SourceState → SourceState → Cache → Cache → Wanted → Type 0
KeepsWant name s t c d w = (report : ScanReport) (lost : Bool) → KeepsBalance name s t c d report (counted w report) lost lost

-- a request failed
abbrev pub fails : Reply → Bool
fails reply.Pending = false
fails (reply.Came a places) = false
fails (reply.Failed places) = true
fails reply.NoMemory = false

-- they keep it by a poll that was answered so
abbrev pub KeepsReply : List ℕ → SourceState → SourceState → Cache → Cache → Reply → Type 0
KeepsReply name s t c d r = (report : ScanReport) (lost : Bool) → KeepsBalance name s t c d report report lost (fails r || lost)

module _ {O S : Type 0} (source : S → SourceState) where
  -- the books of files, as they were and as they are
  abbrev pub books_of : List (ScanFile O S) → List (ScanFile O S) → List Book
  books_of [] now = []
  books_of (f ∷ fs) [] = []
  books_of (f ∷ fs) (g ∷ gs) = record { name = g.source_id; first = source f.source; now = source g.source } ∷ books_of fs gs

  -- calls of the sources of files and of a cache keep the ledger, whatever files and cache were at first
  abbrev pub FilesKeepLedger : List (ScanFile O S) → List (ScanFile O S) → Cache → Cache → Type 0
  FilesKeepLedger old new c d =
      (first : List (ScanFile O S)) (cache : Cache) → length old ≡ length first → Ledger (books_of first old) cache c → Ledger (books_of first new) cache d

  -- they keep the counts too
  abbrev pub FilesKeepBalance : List (ScanFile O S) → List (ScanFile O S) → Cache → Cache → ScanReport → ScanReport → Bool → Bool → Type 0
  FilesKeepBalance old new c d report after lost gone =
      (first : List (ScanFile O S)) (cache : Cache) → length old ≡ length first
      → Balance (books_of first old) cache c report lost → Balance (books_of first new) cache d after gone

  -- they keep both, and no request is lost
  abbrev pub FilesKeepReport : List (ScanFile O S) → List (ScanFile O S) → Cache → Cache → ScanReport → ScanReport → Type 0
  FilesKeepReport old new c d report after = (lost : Bool) → FilesKeepBalance old new c d report after lost lost

  -- calls of the sources alone keep them, whatever they are
  abbrev pub KeepsAllBalance : List (ScanFile O S) → List (ScanFile O S) → Type 0
  KeepsAllBalance old new = (c : Cache) (report : ScanReport) (lost : Bool) → FilesKeepBalance old new c c report report lost lost
