-- What one call over all files does: which files were admitted, how late openers were polled, and why it stops.
use Rattle.std.specs.Prelude.{◌≡◌, ◌≢◌, ◌<◌, ◌≤◌, ◌+◌, ◌-◌, ◌^◌, ◌++◌, ◌⊎◌, ℕ, Bool, true, false, List, [], Option, IfSome, IsSome, All, length, take, slice_index_or}
use Rattle.scan_segments.specs.Faults.{Rose}
use Rattle.scan_segments.specs.Source.{SourceState}
use Rattle.scan_drive.specs.Chunks.{given, Fits}
use Rattle.scan_drive.specs.Files.{Group, Told, answer, count, IfTold}
use Rattle.scan_drive.specs.Grants.{AreSame}
use Rattle.scan_drive.specs.Line.{GivesSome}
use Rattle.scan_drive.specs.Moves.{tell, tells}
use Rattle.scan_drive.specs.Openers.{OpenerState, IsRefused, IsAdmitted}
use Rattle.scan_drive.specs.Rounds.{IsLawful}
use Rattle.scan_drive.specs.Trades.{CacheAgrees}
use Rattle.scan_drive.specs.Traffic.{key_of, WasAsked}
use Rattle.scan_drive.specs.Turns.{rows_of}
use Rattle.scan_drive.specs.Wants.{Cache}
use Rattle.scan_drive.specs.declared.delivery.Chunk.{Chunk}
use Rattle.scan_drive.specs.declared.delivery.DriveFault.TheVariants as fault
use Rattle.scan_drive.specs.declared.files.ScanFile.{ScanFile}
use Rattle.scan_drive.specs.declared.settling.RoundFault.{RoundFault}
use Rattle.scan_drive.specs.declared.settling.RoundFault.TheVariants as why

-- a source's count of faults rose, and it can fail
abbrev pub SourceFailed : SourceState → SourceState → Type 0
SourceFailed old new = Rose old.faults new.faults × (old.can_fail ≡ true)

-- as far as the cache tells, it keeps a segment of the source of this name
abbrev pub IsKeptIn : Cache → List ℕ → ℕ → Type 0
IsKeptIn c name id = IfSome c.entries (λ m. IsSome (m (key_of name id)))

module _ {O S : Type 0} (source : S → SourceState) where
  -- a file of this source name was asked for the segment
  pub record IsAskedUnder (name : List ℕ) (id : ℕ) (old new : List (ScanFile O S)) : Type 0 where
    pub place : ℕ
    pub there : place < length old
    pub named : (f : ScanFile O S) → (slice_index_or old place f).source_id ≡ name
    pub asked : (f : ScanFile O S) → WasAsked id (source (slice_index_or old place f).source) (source (slice_index_or new place f).source)

  -- the bytes of a segment may have come: a file of its source name was asked for it, or the cache kept it at first
  abbrev pub CameOf : Cache → List (ScanFile O S) → List (ScanFile O S) → List ℕ → ℕ → Type 0
  CameOf c old new name id = IsAskedUnder name id old new ⊎ IsKeptIn c name id

  -- no segment was asked of a file
  abbrev pub NoneAsked : ScanFile O S → ScanFile O S → Type 0
  NoneAsked f g = (source g.source).asked ≡ (source f.source).asked

module _ {O S W I : Type 0} (state : O → OpenerState I) (polls : O → O → Type 0) (admits : O → O → List W → Type 0) where
  -- one of the polls of a file's opener gave its splits
  abbrev pub WasAdmitted : ScanFile O S → ScanFile O S → Type 0
  WasAdmitted f g = (ws : List W) × IsAdmitted state polls admits f.opener g.opener ws

  -- and there was one
  abbrev pub HasSplits : ScanFile O S → ScanFile O S → Type 0
  HasSplits f g = (ws : List W) × IsAdmitted state polls admits f.opener g.opener ws × (ws ≢ [])

module _ {R I : Type 0} (items : R → List I) where
  -- all rows of the first files were given, perhaps others after them or in no order, and there was room for more
  pub record GivesBefore (ordered : Bool) (limit : Option ℕ) (tale : List (Told I)) (k : ℕ) : Type 0 where
    pub chunks : List (Chunk R)
    pub more : List (Group I)
    pub groups : AreSame ordered (given items chunks) (answer (take k tale) ++ more)
    pub room : Fits (count (given items chunks)) limit

module _ {O S R I : Type 0} (state : O → OpenerState I) (source : S → SourceState) (items : R → List I) where
  -- the count of polls of a file's opener rose
  abbrev pub WasPolled : ScanFile O S → ScanFile O S → Type 0
  WasPolled f g = (state f.opener).polled < (state g.opener).polled

  -- How often openers were polled: no more than they put off an answer, and once. Those that were are of the first files, as
  -- far as their counts can rise. Over lawful objects a file's opener was polled only when the rows of the files before it,
  -- but for as many as there are workers, had been given, and there was room for more; in no order, those of so many of the
  -- files up to it.
  pub record PollsEnd (limit : Option ℕ) (ordered : Bool) (workers : ℕ) (c : Cache) (old new : List (ScanFile O S)) : Type 0 where
    pub grows : (k : ℕ) (f : ScanFile O S) → (state (slice_index_or old k f).opener).polled ≤ (state (slice_index_or new k f).opener).polled
    pub most : (k : ℕ) (f : ScanFile O S) →
        (state (slice_index_or new k f).opener).polled + (state (slice_index_or new k f).opener).turns
        ≤ (state (slice_index_or old k f).opener).polled + (state (slice_index_or old k f).opener).turns + 1
    pub first : (i j : ℕ) (f : ScanFile O S) → i < j → j < length old → WasPolled (slice_index_or old j f) (slice_index_or new j f) →
        Rose (state (slice_index_or old i f).opener).polled (state (slice_index_or new i f).opener).polled
    pub late : ordered ≡ true → IsLawful state source old c → (k : ℕ) (f : ScanFile O S) → WasPolled (slice_index_or old k f) (slice_index_or new k f) →
        GivesBefore items true limit (tells state source old) (k + 1 - workers)
    pub some : ordered ≡ false → IsLawful state source old c → (k : ℕ) (f : ScanFile O S) → WasPolled (slice_index_or old k f) (slice_index_or new k f) →
        GivesSome items limit (tells state source old) k (k + 1 - workers)

module _ {O S W R I F : Type 0} (state : O → OpenerState I) (polls : O → O → Type 0) (refuses : O → O → F → Type 0) (admits : O → O → List W → Type 0)
    (source : S → SourceState) (items : R → List I) (limit : Option ℕ) (ordered : Bool) (c : Cache) (old new : List (ScanFile O S)) where
  -- The fault is of the file at this place: it is there, and this holds of it, as it was and as it is. Over lawful objects
  -- all rows of the files before it were given, if files are read in order, and there was room for more.
  pub record IsFaultOf (k : ℕ) (P : ScanFile O S → ScanFile O S → Type 0) : Type 0 where
    pub there : k < length old
    pub fact : (f : ScanFile O S) → P (slice_index_or old k f) (slice_index_or new k f)
    pub before : ordered ≡ true → IsLawful state source old c → GivesBefore items true limit (tells state source old) k

  -- a source failed over a segment: its count rose, the segment was asked, and its file has splits
  pub record StopsSource (id : ℕ) (f g : ScanFile O S) : Type 0 where
    pub failed : SourceFailed (source f.source) (source g.source)
    pub asked : WasAsked id (source f.source) (source g.source)
    pub admitted : HasSplits state polls admits f g

  -- a segment is no good where the file is told, its bytes may have come, and its file has splits
  pub record StopsCorrupt (id : ℕ) (f g : ScanFile O S) : Type 0 where
    pub bad : CacheAgrees source old c → IfTold (tell state source f) (λ p store. p.bad store id ≡ true)
    pub came : CameOf source c old new f.source_id id
    pub admitted : HasSplits state polls admits f g

  -- an evaluation overflows where the file is told
  abbrev pub StopsOverflow : ScanFile O S → ScanFile O S → Type 0
  StopsOverflow f g = CacheAgrees source old c → IfTold (tell state source f) (λ p store. p.overflow store ≡ true)

  -- why a file is not read, of which no segment was asked
  abbrev pub StopsRefused : F → ScanFile O S → ScanFile O S → Type 0
  StopsRefused e f g = NoneAsked source f g × IsRefused state polls refuses f.opener g.opener e

  -- a file was admitted that has rows, as far as its opener tells, and no segment of it was asked
  pub record StopsUnread (f g : ScanFile O S) : Type 0 where
    pub none : NoneAsked source f g
    pub admitted : WasAdmitted state polls admits f g
    pub rows : IfSome (state f.opener).gives (λ p. 0 < p.row_count)

  -- as far as the openers tell, the rows of the files up to one reach 2 ^ 64, or in no order those of all files
  abbrev pub AreTooMany : Bool → ℕ → Type 0
  AreTooMany true k = All (λ f. IsSome (state f.opener).gives) old → 2 ^ 64 ≤ rows_of (take (k + 1) (tells state source old))
  AreTooMany false k = All (λ f. IsSome (state f.opener).gives) old → 2 ^ 64 ≤ rows_of (tells state source old)

  -- why a drive ends without all rows
  abbrev pub StopsDrive : RoundFault F → Type 0
  StopsDrive (why.Split fault.NoMemory) = Unit {0}
  StopsDrive (why.Split (fault.Source k id)) = IsFaultOf k (StopsSource id)
  StopsDrive (why.Split (fault.Corrupt k id)) = IsFaultOf k (StopsCorrupt id)
  StopsDrive (why.Split (fault.Overflow k)) = IsFaultOf k StopsOverflow
  StopsDrive (why.TooManyRows k) = IsFaultOf k StopsUnread × AreTooMany ordered k
  StopsDrive (why.Refused k e) = IsFaultOf k (StopsRefused e)
