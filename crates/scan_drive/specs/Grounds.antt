-- What a drive keeps, traced back to what was done to its files and its cache since these were first.
use Rattle.std.specs.Prelude.{◌≡◌, ◌<◌, ◌≤◌, ◌+◌, ◌^◌, ◌⊎◌, ℕ, true, All, List, None, IfSome, take, slice_index_or, length}
use Rattle.scan_segments.specs.Source.{SourceState}
use Rattle.scan_drive.specs.Chunks.{IsOf}
use Rattle.scan_drive.specs.Drives.{NoneOf}
use Rattle.scan_drive.specs.Drivings.{SourceFailed, IsKeptIn, CameOf, NoneAsked, WasAdmitted, HasSplits}
use Rattle.scan_drive.specs.Files.{Told, AllGive}
use Rattle.scan_drive.specs.Filling.{AreCounted}
use Rattle.scan_drive.specs.Ledger.{Ledger, books_of}
use Rattle.scan_drive.specs.Lost.{has_come, IsLost, EachFollows, StopsOver}
use Rattle.scan_drive.specs.Measures.{is_there}
use Rattle.scan_drive.specs.Moves.{EachMoves, tells}
use Rattle.scan_drive.specs.Openers.{OpenerState}
use Rattle.scan_drive.specs.Phases.{phase_at, has_left, IsQueued, AllRowsOk}
use Rattle.scan_drive.specs.Slots.{slot_at}
use Rattle.scan_drive.specs.Traffic.{WasAsked}
use Rattle.scan_drive.specs.Turns.{IsTally, IsTooMany, rows_of}
use Rattle.scan_drive.specs.Wants.{Cache}
use Rattle.scan_drive.specs.declared.delivery.DriveFault.{DriveFault}
use Rattle.scan_drive.specs.declared.delivery.DriveFault.TheVariants as fault
use Rattle.scan_drive.specs.declared.files.ScanFile.{ScanFile}
use Rattle.scan_drive.specs.declared.phase.Phase.TheVariants as phase
use Rattle.scan_drive.specs.declared.phase.Tally.{Tally}
use Rattle.scan_drive.specs.declared.round.Drive.{Drive}
use Rattle.scan_drive.specs.declared.rounds.Round.{Round}
use Rattle.scan_drive.specs.declared.rounds.Round.TheVariants as round
use Rattle.scan_drive.specs.declared.settling.RoundFault.{RoundFault}
use Rattle.scan_drive.specs.declared.settling.RoundFault.TheVariants as why
use Rattle.scan_drive.specs.declared.slot.Halt.{Halt}
use Rattle.scan_drive.specs.declared.slot.Halt.TheVariants as halt
use Rattle.scan_drive.specs.declared.slot.Slot.{Slot}

-- the request of an id was live, or it was asked since
abbrev pub WasOpen : ℕ → SourceState → SourceState → Type 0
WasOpen id old new = (old.live id ≡ true) ⊎ WasAsked id old new

-- a source failed, and the request of an id was live, or was asked since
pub record FailedAt (id : ℕ) (old new : SourceState) : Type 0 where
  pub failed : SourceFailed old new
  pub was : WasOpen id old new

-- what came to slots while a source was polled may have come, and it failed where they failed
abbrev pub SourceFollows : {W R : Type 0} → SourceState → SourceState → List (Slot W R) → List (Slot W R) → Type 0
SourceFollows s t old new = EachFollows (λ k id. WasOpen id s t) (λ k id. FailedAt id s t) old new

module _ {O S : Type 0} (source : S → SourceState) where
  -- bytes of an id may have come to splits of a file: its request was open, or the cache kept them
  abbrev pub MayCome : Cache → List (ScanFile O S) → List (ScanFile O S) → ℕ → ℕ → Type 0
  MayCome c old new k id = (f : ScanFile O S) → WasOpen id (source (slice_index_or old k f).source)
      (source (slice_index_or new k f).source) ⊎ IsKeptIn c (slice_index_or old k f).source_id id

  -- the source of a file failed at an id
  abbrev pub MayFail : List (ScanFile O S) → List (ScanFile O S) → ℕ → ℕ → Type 0
  MayFail old new k id = (f : ScanFile O S) → FailedAt id (source (slice_index_or old k f).source) (source (slice_index_or new k f).source)

  -- what came to the slots meanwhile may have come, and what failed them may have failed
  abbrev pub SlotsFollow : {W R : Type 0} → Cache → List (ScanFile O S) → List (ScanFile O S) → List (Slot W R) → List (Slot W R) → Type 0
  SlotsFollow c files files' old new = EachFollows (MayCome c files files') (MayFail files files') old new

module _ {W R : Type 0} where
  -- splits were polled, after which one of them is why a drive stops
  pub record PolledStops (old : List (Slot W R)) (e : DriveFault) : Type 0 where
    pub mid : List (Slot W R)
    pub follows : EachFollows NoneOf NoneOf old mid
    pub stops : StopsOver mid e

module _ {W R F : Type 0} where
  -- how many rows the open files have, and how many are counted, is what their openers tell
  pub record IsRowCount {I : Type 0} (tale : List (Told I)) (v : Drive W R F) : Type 0 where
    pub rows : AllRowsOk tale v.phases.items
    pub tally : IsTally tale v.tally

  -- why a drive stops at its splits, or at the first file that has splits left
  abbrev pub SettlesBy : Drive W R F → RoundFault F → Type 0
  SettlesBy old (why.Split e) = PolledStops old.active.slots.items e
  SettlesBy old (why.TooManyRows file) = (file ≡ old.first) × IsTooMany file old.tally (phase_at old.phases.items file)
  SettlesBy old (why.Refused file f) = (file ≡ old.first) × (phase_at old.phases.items file ≡ phase.Held f)

-- where all openers tell, the rows up to this file are too many
abbrev pub ArePast : {I : Type 0} → List (Told I) → ℕ → Type 0
ArePast tale k = AllGive tale → 2 ^ 64 ≤ rows_of (take (k + 1) tale)

module _ {O S : Type 0} (first files : List (ScanFile O S)) where
  -- this holds of the file at a place, as it was first and as it is
  abbrev pub At : (ScanFile O S → ScanFile O S → Type 0) → ℕ → Type 0
  At P k = (f : ScanFile O S) → P (slice_index_or first k f) (slice_index_or files k f)

  -- it does, and the file is there
  pub record IsThere (P : ScanFile O S → ScanFile O S → Type 0) (k : ℕ) : Type 0 where
    pub there : k < length first
    pub fact : At P k

module _ {O S : Type 0} (source : S → SourceState) (first files : List (ScanFile O S)) (c : Cache) where
  -- the bytes of a segment of a file may have come
  abbrev pub Came : ℕ → ℕ → Type 0
  Came k id = At first files (λ f g. CameOf source c first files f.source_id id) k

  -- the source of a file failed, and was asked for the segment
  abbrev pub Failed : ℕ → ℕ → Type 0
  Failed k id = At first files (λ f g. SourceFailed (source f.source) (source g.source) × WasAsked id (source f.source) (source g.source)) k

  -- why a split of a file is given up
  abbrev pub IsReason : ℕ → Halt → Type 0
  IsReason k (halt.Source id) = Failed k id
  IsReason k (halt.Corrupt id) = Came k id
  IsReason k halt.Overflow = Unit {0}
  IsReason k halt.NoMemory = Unit {0}

module _ {O S W R I : Type 0} (state : O → OpenerState I) (polls : O → O → Type 0) (admits : O → O → List W → Type 0) (source : S → SourceState)
    (first files : List (ScanFile O S)) (c : Cache) where
  -- A slot with a split: its file is counted and was admitted with splits, what has arrived may have come, and it is given up
  -- for a reason.
  pub record IsSlotGrounded (t : Tally) (s : Slot W R) : Type 0 where
    pub counted : s.file < t.files
    pub some : At first files (HasSplits state polls admits) s.file
    pub came : (id : ℕ) → has_come s.stage id ≡ true → Came source first files c s.file id
    pub lost : (h : Halt) → IsLost h s.stage → IsReason source first files c s.file h

module _ {O S W R I F : Type 0} (state : O → OpenerState I) (polls : O → O → Type 0) (admits : O → O → List W → Type 0) (source : S → SourceState)
    (first files : List (ScanFile O S)) (c : Cache) where
  -- The drive, with the cache as it is now: open files were admitted, nothing was asked or given of those that are not counted,
  -- and so it is with each slot.
  pub record Grounded (d : Cache) (v : Drive W R F) : Type 0 where
    pub moves : EachMoves state polls source ⊥ first files
    pub ledger : Ledger (books_of source first files) c d
    pub admitted : (k : ℕ) → IsQueued (phase_at v.phases.items k) → At first files (WasAdmitted state polls admits) k
    pub some : (k : ℕ) → has_left (phase_at v.phases.items k) ≡ true → At first files (HasSplits state polls admits) k
    pub counted : AreCounted v.first v.tally v.phases.items
    pub quiet : (k : ℕ) → v.tally.files ≤ k → At first files (NoneAsked source) k
    pub rows : IsRowCount (tells state source first) v
    pub given : All (IsOf v.tally.files) v.chunks.items
    pub slots : (place : ℕ) → is_there (slot_at v.active.slots.items place).stage ≡ true
        → IsSlotGrounded state polls admits source first files c v.tally (slot_at v.active.slots.items place)

module _ {O S W I : Type 0} (state : O → OpenerState I) (polls : O → O → Type 0) (admits : O → O → List W → Type 0) (source : S → SourceState)
    (first files : List (ScanFile O S)) (c : Cache) where
  -- a split of the file failed at its source
  abbrev pub LostSource : ℕ → ScanFile O S → ScanFile O S → Type 0
  LostSource id f g = SourceFailed (source f.source) (source g.source) × WasAsked id (source f.source) (source g.source) × HasSplits state polls admits f g

  -- what came for a split of the file was no good
  abbrev pub LostCorrupt : ℕ → ScanFile O S → ScanFile O S → Type 0
  LostCorrupt id f g = CameOf source c first files f.source_id id × HasSplits state polls admits f g

  -- the file was admitted and has rows, as far as its opener tells, and nothing was asked of it
  abbrev pub Unread : ScanFile O S → ScanFile O S → Type 0
  Unread f g = NoneAsked source f g × WasAdmitted state polls admits f g × IfSome (state f.opener).gives (λ p. 0 < p.row_count)

  -- what was done to a file for which a drive ends without all rows
  abbrev pub IsGround : {F : Type 0} → RoundFault F → Type 0
  IsGround (why.Split fault.NoMemory) = Unit {0}
  IsGround (why.Split (fault.Source k id)) = IsThere first files (LostSource id) k
  IsGround (why.Split (fault.Corrupt k id)) = IsThere first files (LostCorrupt id) k
  IsGround (why.Split (fault.Overflow k)) = k < length first
  IsGround (why.TooManyRows k) = IsThere first files Unread k × ArePast (tells state source first) k
  IsGround (why.Refused k e) = IsThere first files (NoneAsked source) k

module _ {O S W R I F : Type 0} (state : O → OpenerState I) (polls : O → O → Type 0) (admits : O → O → List W → Type 0) (source : S → SourceState) where
  -- a drive that was grounded still is
  abbrev pub KeepsGrounds : List (ScanFile O S) → List (ScanFile O S) → Cache → Cache → Drive W R F → Drive W R F → Type 0
  KeepsGrounds files files' c d old new =
      (first : List (ScanFile O S)) (before : Cache) → Grounded state polls admits source first files before c old
      → Grounded state polls admits source first files' before d new

  -- without a limit, all files were admitted
  abbrev pub AdmitsAll : List (ScanFile O S) → List (ScanFile O S) → Cache → Drive W R F → Type 0
  AdmitsAll files files' c old =
      (first : List (ScanFile O S)) (before : Cache) → Grounded state polls admits source first files before c old → old.left ≡ None
      → (k : ℕ) → k < length first → At first files' (WasAdmitted state polls admits) k

  -- what a round keeps, or has come to
  abbrev pub RoundGrounds : Round → List (ScanFile O S) → List (ScanFile O S) → Cache → Cache → Drive W R F → Drive W R F → Type 0
  RoundGrounds round.More files files' c d old new = KeepsGrounds files files' c d old new
  RoundGrounds round.Opened files files' c d old new = KeepsGrounds files files' c d old new
  RoundGrounds round.Done files files' c d old new = AdmitsAll files files' c old

  -- why a drive that was grounded ends without all rows
  abbrev pub EndsGrounded : List (ScanFile O S) → List (ScanFile O S) → Cache → Drive W R F → RoundFault F → Type 0
  EndsGrounded files files' c old e =
      (first : List (ScanFile O S)) (before : Cache) → Grounded state polls admits source first files before c old
      → IsGround state polls admits source first files' before e
