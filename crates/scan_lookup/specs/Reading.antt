-- What reading rows of files by places does to their sources and to the cache, what it gives, and why it fails.
use Rattle.std.specs.Prelude.{◌≡◌, ◌≢◌, ◌⊎◌, ℕ, ◌<◌, ◌≤◌, ◌++◌, List, [], ◌∷◌, true, false, Option, Some, All, get_or, length, map, option_and_then}
use Rattle.std.specs.List.{slice_get}
use Rattle.std.specs.declared.vec.Vec.{Vec}
use Rattle.std.specs.declared.alloc.Global.{Global}
use Rattle.scan_values.specs.Selections.{is_among}
use Rattle.scan_values.specs.Val.{Val, marked}
use Rattle.scan_values.specs.Values.{val_of}
use Rattle.scan_values.specs.declared.value.Value.{Value}
use Rattle.scan_segments.specs.Source.{SourceState, Store, none_live}
use Rattle.scan_splits.specs.Wanted.{no_repeats}
use Rattle.scan_drive.specs.Drivings.{CameOf, IsKeptIn, SourceFailed}
use Rattle.scan_drive.specs.Ledger.{FilesKeepReport}
use Rattle.scan_drive.specs.Trades.{CacheAgrees, FilesTrade}
use Rattle.scan_drive.specs.Traffic.{WasAsked}
use Rattle.scan_drive.specs.Wants.{Cache}
use Rattle.scan_drive.specs.declared.files.ScanFile.{ScanFile}
use Rattle.scan_drive.specs.declared.report.ScanReport.{ScanReport}
use Rattle.scan_seek.specs.KeptData.{KeptData}
use Rattle.scan_seek.specs.Keeps.{HasRow, IsRead}
use Rattle.scan_seek.specs.Reads.{values_of, any_overflows, any_spoils, any_touches}
use Rattle.scan_seek.specs.declared.reading.SeekFault.{SeekFault}
use Rattle.scan_places.specs.Walks.{kept_at, files_of}
use Rattle.scan_places.specs.declared.place.Place.{Place}
use Rattle.scan_lookup.specs.Asked.{rows_at}
use Rattle.scan_lookup.specs.Faults.{of_seek}
use Rattle.scan_lookup.specs.declared.fault.LookupFault.{LookupFault}
use Rattle.scan_lookup.specs.declared.fault.LookupFault.TheVariants as fault
use Rattle.scan_lookup.specs.declared.groups.Group.{Group}
use Rattle.scan_lookup.specs.declared.groups.Slot.{Slot}

-- a fault of reading rows of the file of a number, with its cause
pub record IsSeekFault (file : ℕ) (P : SeekFault → Type 0) (u : LookupFault) : Type 0 where
  pub why : SeekFault
  pub is : u ≡ of_seek file why
  pub cause : P why

-- no two groups are of one file
abbrev pub AreApart : List Group → Type 0
AreApart gs = (i j : ℕ) (g h : Group) → slice_get gs i ≡ Some g → slice_get gs j ≡ Some h → g.file ≡ h.file → i ≡ j

-- ---- values by groups
abbrev pub Values : Type 0
Values = Vec Value Global

-- the value in a slot
abbrev pub slot_value : List Values → Slot → Option Val
slot_value vss s = option_and_then (λ (vs : Values). slice_get (map val_of vs.items) s.place) (slice_get vss s.group)

-- there is one
pub record HasValue (vss : List Values) (s : Slot) : Type 0 where
  pub own : Values
  pub there : slice_get vss s.group ≡ Some own
  pub below : s.place < length own.items

module _ {O S : Type 0} where
  -- a group's file is listed and is read, and has the group's rows
  pub record IsReadable (files : List (ScanFile O S)) (kept : List KeptData) (g : Group) : Type 0 where
    pub listed : g.file < length files
    pub read : IsRead (kept_at kept g.file)
    pub rows : All (HasRow (kept_at kept g.file)) g.rows.items

  -- the opener of a file and the name of its source stay
  pub record KeepsOthers (old new : ScanFile O S) : Type 0 where
    pub opener : new.opener ≡ old.opener
    pub name : new.source_id ≡ old.source_id

  module _ (source : S → SourceState) where
    -- Rows of what is kept of a file are read: what that leaves of the file, where this is so of the cache.
    pub record ReadsFile (agrees : Type 0) (k : KeptData) (rows : List ℕ) (f g : ScanFile O S) : Type 0 where
      pub keeps : KeepsOthers f g
      pub holds : (source g.source).holds ≡ (source f.source).holds
      pub faults : (source f.source).faults ≤ (source g.source).faults
      pub turns : (source g.source).turns ≤ (source f.source).turns
      pub can_fail : (source g.source).can_fail ≡ (source f.source).can_fail
      pub live : (source g.source).live ≡ (source f.source).live
      pub ids : List ℕ
      pub asked : (source g.source).asked ≡ (source f.source).asked ++ ids
      pub once : no_repeats ids ≡ true
      pub touched : agrees → (store : Store) → (source f.source).holds ≡ Some store → (id : ℕ) → is_among ids id ≡ true → any_touches k rows store id ≡ true

    -- a file has the source name that it had, and its source was asked for more
    pub record AsksMore (f g : ScanFile O S) : Type 0 where
      pub name : g.source_id ≡ f.source_id
      pub ids : List ℕ
      pub asked : (source g.source).asked ≡ (source f.source).asked ++ ids

    -- the counts over the ledger are kept, whatever they were
    abbrev pub KeepsFileCounts : List (ScanFile O S) → List (ScanFile O S) → Cache → Cache → Type 0
    KeepsFileCounts old new c d = (report : ScanReport) → (after : ScanReport) × FilesKeepReport source old new c d report after

    module _ (kept : List KeptData) (old new : List (ScanFile O S)) (c d : Cache) where
      -- rows of files are read: all files are idle, and what the cache keeps is as before or what their sources have
      pub record Reads : Type 0 where
        pub count : length new ≡ length old
        pub idle : All (λ (f : ScanFile O S). (source f.source).live ≡ none_live) new
        pub more : (k : ℕ) (f : ScanFile O S) → AsksMore (get_or old k f) (get_or new k f)
        pub trade : FilesTrade source old new c d

      -- those of one group
      pub record ReadsGroup (g : Group) : Type 0 where
        pub reads : Reads
        pub own : (f : ScanFile O S) → ReadsFile (CacheAgrees source old c) (kept_at kept g.file) g.rows.items (get_or old g.file f) (get_or new g.file f)
        pub others : (k : ℕ) → k ≢ g.file → (f : ScanFile O S) → get_or new k f ≡ get_or old k f

      -- those of groups: the files of others stay
      pub record ReadsGroups (gs : List Group) : Type 0 where
        pub reads : Reads
        pub each : (n : ℕ) (g : Group) → slice_get gs n ≡ Some g → (f : ScanFile O S)
            → ReadsFile (CacheAgrees source old c) (kept_at kept g.file) g.rows.items (get_or old g.file f) (get_or new g.file f)
        pub others : (k : ℕ) → ((n : ℕ) (g : Group) → slice_get gs n ≡ Some g → g.file ≡ k → ⊥) → (f : ScanFile O S) → get_or new k f ≡ get_or old k f

      -- those that places name
      pub record ReadsPlaces (places : List Place) : Type 0 where
        pub reads : Reads
        pub each : (k : ℕ) (f : ScanFile O S) → ReadsFile (CacheAgrees source old c) (kept_at kept k) (rows_at k places) (get_or old k f) (get_or new k f)
        pub unnamed : (k : ℕ) → is_among (files_of places) k ≡ false → (f : ScanFile O S) → get_or new k f ≡ get_or old k f

    -- over a cache that agrees and a store that is told, this is so of the file of a number
    abbrev pub OverStore : List (ScanFile O S) → Cache → ℕ → (Store → Type 0) → Type 0
    OverStore files c file P = CacheAgrees source files c → (f : ScanFile O S) (store : Store) → (source (get_or files file f).source).holds ≡ Some store → P store

    module _ (kept : List KeptData) (files : List (ScanFile O S)) (c : Cache) where
      -- the values of a group's rows, at none of which the expression overflows
      pub record GroupIsRead (g : Group) (vs : List Val) : Type 0 where
        pub count : length vs ≡ length g.rows.items
        pub values : OverStore files c g.file (λ store. map marked vs ≡ values_of (kept_at kept g.file) store g.rows.items)
        pub no_overflow : OverStore files c g.file (λ store. All (λ (row : ℕ). any_overflows (kept_at kept g.file) store row ≡ false) g.rows.items)

      -- those of each group
      pub record AllAreRead (gs : List Group) (vss : List Values) : Type 0 where
        pub count : length vss ≡ length gs
        pub each : (n : ℕ) (g : Group) (vs : Values) → slice_get gs n ≡ Some g → slice_get vss n ≡ Some vs → GroupIsRead g (map val_of vs.items)

      -- the value at a place, at which the expression does not overflow
      pub record IsValue (p : Place) (v : Val) : Type 0 where
        pub value : OverStore files c p.file (λ store. marked v ∷ [] ≡ values_of (kept_at kept p.file) store (p.row ∷ []))
        pub no_overflow : OverStore files c p.file (λ store. any_overflows (kept_at kept p.file) store p.row ≡ false)

      -- those at places, one by one
      abbrev pub AreValues : List Place → List Val → Type 0
      AreValues [] [] = Unit {0}
      AreValues [] (v ∷ vs) = ⊥
      AreValues (p ∷ ps) [] = ⊥
      AreValues (p ∷ ps) (v ∷ vs) = IsValue p v × AreValues ps vs

    -- ---- why they are not read
    module _ (kept : List KeptData) (old new : List (ScanFile O S)) (c : Cache) where
      -- the bytes of a segment of the file of a number came: it was asked for, or the cache kept it at first
      abbrev pub CameAt : ℕ → ℕ → Type 0
      CameAt k id = ((f : ScanFile O S) → WasAsked id (source (get_or old k f).source) (source (get_or new k f).source))
          ⊎ ((f : ScanFile O S) → IsKeptIn c (get_or old k f).source_id id)

      -- so, or another file of its source name was asked for it
      abbrev pub CameUnder : ℕ → ℕ → Type 0
      CameUnder k id = (f : ScanFile O S) → CameOf source c old new (get_or old k f).source_id id

      -- why rows of the file of a number are not read, where this is so of segments that came
      abbrev pub FailsRows : (ℕ → ℕ → Type 0) → ℕ → List ℕ → LookupFault → Type 0
      FailsRows Comes file rows fault.NoMemory = Unit {0}
      FailsRows Comes file rows (fault.Source k id) = (k ≡ file)
          × ((f : ScanFile O S) → SourceFailed (source (get_or old k f).source) (source (get_or new k f).source))
          × ((f : ScanFile O S) → WasAsked id (source (get_or old k f).source) (source (get_or new k f).source))
      FailsRows Comes file rows (fault.Corrupt k id) = (k ≡ file)
          × OverStore old c k (λ store. any_spoils (kept_at kept k) rows store id ≡ true) × Comes k id
      FailsRows Comes file rows (fault.Overflow k row) = (k ≡ file) × (is_among rows row ≡ true)
          × OverStore old c k (λ store. any_overflows (kept_at kept k) store row ≡ true)
      FailsRows Comes file rows _ = ⊥

      -- why those of a group are not
      abbrev pub FailsGroup : Group → LookupFault → Type 0
      FailsGroup g u = FailsRows CameAt g.file g.rows.items u

      -- why those of one of some groups are not
      pub record FailsOne (gs : List Group) (u : LookupFault) : Type 0 where
        pub number : ℕ
        pub group : Group
        pub there : slice_get gs number ≡ Some group
        pub fails : FailsRows CameUnder group.file group.rows.items u

      -- or memory is short
      abbrev pub FailsGroups : List Group → LookupFault → Type 0
      FailsGroups gs u = (u ≡ fault.NoMemory) ⊎ FailsOne gs u

      -- why those of a file that places name are not
      pub record FailsNamed (places : List Place) (u : LookupFault) : Type 0 where
        pub file : ℕ
        pub named : is_among (files_of places) file ≡ true
        pub fails : FailsRows CameUnder file (rows_at file places) u

      -- or memory is short
      abbrev pub FailsReads : List Place → LookupFault → Type 0
      FailsReads places u = (u ≡ fault.NoMemory) ⊎ FailsNamed places u
