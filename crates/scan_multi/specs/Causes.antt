-- Why a scan may be refused.
use Rattle.std.specs.Prelude.{◌≡◌, ◌⊎◌, ℕ, ◌<◌, ◌≤◌, ◌+◌, ◌^◌, List, Bool, true, false, Some, None, length, get_or, take}
use Rattle.scan_values.specs.DataType.{DataType}
use Rattle.scan_expr.specs.declared.request.ScanRequest.{ScanRequest}
use Rattle.scan_segments.specs.Source.{SourceState}
use Rattle.scan_segments.specs.Cache.{CacheState}
use Rattle.scan_segments.specs.declared.segment.SegmentKey.{SegmentKey}
use Rattle.scan_opener.specs.Opener.{OpenerState, OpenerFailed, Given}
use Rattle.scan_multi.specs.Answer.{ToldFile}
use Rattle.scan_multi.specs.Before.{ReachesFile}
use Rattle.scan_multi.specs.Checks.{IsRead, IsOfOtherType, IsIllFormed, EndsPast, rows_in}
use Rattle.scan_multi.specs.Damaged.{IsDamaged}
use Rattle.scan_drive.specs.Drivings.{SourceFailed}
use Rattle.scan_multi.specs.Lawful.{told, told_file, IsLawful, AllGive, Gives}
use Rattle.scan_multi.specs.Moves.{NoneAsked}
use Rattle.scan_multi.specs.Overflow.{OverflowsIn}
use Rattle.scan_drive.specs.Traffic.{WasAsked, key_of}
use Rattle.scan_multi.specs.Request.{first_request_fault}
use Rattle.scan_multi.specs.Traffic.{IsKept}
use Rattle.scan_drive.specs.declared.files.ScanFile.{ScanFile}
use Rattle.scan_multi.specs.declared.scan.fault.RangeFault.TheVariants.{Reversed, Past}
use Rattle.scan_multi.specs.declared.scan.fault.ScanFault.{ScanFault}
use Rattle.scan_multi.specs.declared.scan.fault.ScanFault.TheVariants as fault

-- the files that count for the rows up to one: in an ordered scan those up to it, else all
abbrev pub counted : Bool → ℕ → List ToldFile → List ToldFile
counted true place files = take (place + 1) files
counted false place files = files

module _ {O S : Type 0} (opener : O → OpenerState) (source : S → SourceState) where
  -- some file of this source name was asked for the segment
  pub record IsAskedUnder (name : List ℕ) (id : ℕ) (old new : List (ScanFile O S)) : Type 0 where
    pub place : ℕ
    pub there : place < length old
    pub named : (f : ScanFile O S) → (get_or old place f).source_id ≡ name
    pub asked : (f : ScanFile O S) → WasAsked id (source (get_or old place f).source) (source (get_or new place f).source)

  -- the bytes of a segment may have come: some file of its source name was asked for it, or the cache kept it before
  abbrev pub MayHaveCome : CacheState SegmentKey → List (ScanFile O S) → List (ScanFile O S) → ℕ → ScanFile O S → Type 0
  MayHaveCome cache old new id f = IsAskedUnder f.source_id id old new ⊎ IsKept cache (key_of f.source_id id)

  module _ (workers : ℕ) (d : DataType) (request : ScanRequest) (cache : CacheState SegmentKey) (old new : List (ScanFile O S)) where
    -- The fault is of the file at this place: the request has none, and this holds of the file, as it was and as it is.
    -- In an ordered scan of lawful objects the files before it leave the scan to go on.
    pub record IsOfFile (place : ℕ) (P : ScanFile O S → ScanFile O S → Type 0) : Type 0 where
      pub late : first_request_fault workers d request ≡ None
      pub there : place < length old
      pub fact : (f : ScanFile O S) → P (get_or old place f) (get_or new place f)
      pub before : request.ordered ≡ true → IsLawful opener source old cache → ReachesFile d request (told opener source old) place

    -- over lawful objects, this holds of what a file tells
    abbrev pub IfLawful : (ToldFile → Type 0) → ScanFile O S → Type 0
    IfLawful P f = IsLawful opener source old cache → P (told_file opener source f)

    -- no segment was asked of a file, which gives this
    abbrev pub Stops : (Given → Type 0) → ScanFile O S → ScanFile O S → Type 0
    Stops P f g = NoneAsked opener source f g × Gives opener source P f

    -- as far as the openers tell, the rows of the files reach 2 ^ 64
    abbrev pub AreTooMany : ℕ → Type 0
    AreTooMany place = AllGive opener source old → 2 ^ 64 ≤ rows_in (counted request.ordered place (told opener source old))

    -- why a source may fail over a segment: its count rose, its file is read, and the segment was asked
    pub record IsSourceCause (id : ℕ) (f g : ScanFile O S) : Type 0 where
      pub failed : SourceFailed (source f.source) (source g.source)
      pub read : Gives opener source (IsRead d request) f
      pub asked : WasAsked id (source f.source) (source g.source)

    -- why a segment may be corrupt: over lawful objects it is, its file is read, and its bytes may have come
    pub record IsCorruptCause (id : ℕ) (f g : ScanFile O S) : Type 0 where
      pub damaged : IfLawful (λ t. IsDamaged d request t id) f
      pub read : Gives opener source (IsRead d request) f
      pub came : MayHaveCome cache old new id f

    -- the cause of each fault
    abbrev pub HasCause : ScanFault → Type 0
    HasCause fault.NoMemory = Unit {0}
    HasCause fault.Concurrency = first_request_fault workers d request ≡ Some fault.Concurrency
    HasCause fault.Partitions = first_request_fault workers d request ≡ Some fault.Partitions
    HasCause (fault.RowRange Reversed) = first_request_fault workers d request ≡ Some (fault.RowRange Reversed)
    HasCause (fault.Bind f) = first_request_fault workers d request ≡ Some (fault.Bind f)
    HasCause (fault.Opener place) = IsOfFile place (λ f g. OpenerFailed (opener f.opener) (opener g.opener))
    HasCause (fault.DTypeMismatch place) = IsOfFile place (Stops (IsOfOtherType d))
    HasCause (fault.Layout place l) = IsOfFile place (Stops (IsIllFormed d l))
    HasCause (fault.RowRange (Past place)) = IsOfFile place (Stops (EndsPast d request))
    HasCause (fault.TooManyRows place) = IsOfFile place (Stops (IsRead d request)) × AreTooMany place
    HasCause (fault.Source place id) = IsOfFile place (IsSourceCause id)
    HasCause (fault.Corrupt place id) = IsOfFile place (IsCorruptCause id)
    HasCause (fault.Overflow place) = IsOfFile place (λ f g. IfLawful (λ t. OverflowsIn d request t.given t.store) f)
