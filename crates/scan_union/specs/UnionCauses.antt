-- Why a scan over a union may be refused.
use Rattle.std.specs.Prelude.{◌≡◌, ◌≢◌, ℕ, ◌<◌, ◌+◌, List, true, None, Some, All, length, get_or, take, filter_map}
use Rattle.scan_values.specs.DataType.{DataType}
use Rattle.scan_expr.specs.declared.request.ScanRequest.{ScanRequest}
use Rattle.scan_segments.specs.Source.{SourceState}
use Rattle.scan_opener.specs.Opener.{OpenerState, OpenerFailed}
use Rattle.scan_drive.specs.Drivings.{SourceFailed}
use Rattle.scan_drive.specs.Traffic.{WasAsked}
use Rattle.scan_drive.specs.declared.files.ScanFile.{ScanFile}
use Rattle.scan_multi.specs.Answer.{ToldFile}
use Rattle.scan_multi.specs.Before.{GoesOn}
use Rattle.scan_multi.specs.Damaged.{IsDamaged}
use Rattle.scan_multi.specs.Lawful.{told, told_file, Tells, AllGive}
use Rattle.scan_multi.specs.Moves.{NoneAsked}
use Rattle.scan_multi.specs.Named.{named}
use Rattle.scan_multi.specs.Overflow.{OverflowsIn}
use Rattle.scan_multi.specs.Request.{first_request_fault}
use Rattle.scan_multi.specs.declared.scan.fault.RangeFault.TheVariants.{Reversed, Past}
use Rattle.scan_multi.specs.declared.scan.fault.ScanFault.TheVariants as scan
use Rattle.scan_widened.specs.Identity.{inner_of}
use Rattle.scan_union.specs.Under.{behind_of, file_under, first_file_fault}
use Rattle.scan_union.specs.UnionAnswer.{union_answer}
use Rattle.scan_union.specs.declared.fault.UnionFault.{UnionFault}
use Rattle.scan_union.specs.declared.fault.UnionFault.TheVariants as fault

-- the segments of a file behind those that may be asked of it under the dtype
abbrev pub named_behind : DataType → ScanRequest → ToldFile → List ℕ
named_behind d request f = filter_map (inner_of (behind_of d f.given)) (named d request (file_under d f).given (file_under d f).store)

-- a segment of a file stands behind one that may be asked under the dtype, and that is missing there, does not decode, or
-- holds a bad offset
pub record IsDamagedBehind (d : DataType) (request : ScanRequest) (f : ToldFile) (id : ℕ) : Type 0 where
  pub segment : ℕ
  pub stands : inner_of (behind_of d f.given) segment ≡ Some id
  pub damaged : IsDamaged d request (file_under d f) segment

-- an expression of the request overflows on a widened value that is read
abbrev pub OverflowsUnder : DataType → ScanRequest → ToldFile → Type 0
OverflowsUnder d request f = OverflowsIn d request (file_under d f).given (file_under d f).store

module _ {O S : Type 0} (opener : O → OpenerState) (source : S → SourceState) (workers : ℕ) (d : DataType) (request : ScanRequest) (old new : List (ScanFile O S)) where
  -- The fault is of the file at this place: the request has none and its limit is not 0, and this holds of the file, as it
  -- was and as it is.
  pub record IsOfUnionFile (place : ℕ) (P : ScanFile O S → ScanFile O S → Type 0) : Type 0 where
    pub late : first_request_fault workers d request ≡ None
    pub room : request.limit ≢ Some 0
    pub there : place < length old
    pub fact : (f : ScanFile O S) → P (get_or old place f) (get_or new place f)

  -- An opener failed. As far as openers tell, no file before it has a fault.
  pub record IsOpenerCause (place : ℕ) : Type 0 where
    pub file : IsOfUnionFile place (λ f g. OpenerFailed (opener f.opener) (opener g.opener))
    pub first : AllGive opener source (take place old) → first_file_fault d request (told opener source (take place old)) ≡ None

  -- A file can't be read under the dtype, by this fault. As far as openers tell, it is the first fault of the files up to
  -- this place. No segment of any file was asked.
  pub record IsUnreadCause (place : ℕ) (e : UnionFault) : Type 0 where
    pub file : IsOfUnionFile place (NoneAsked opener source)
    pub none : (k : ℕ) (f : ScanFile O S) → NoneAsked opener source (get_or old k f) (get_or new k f)
    pub first : AllGive opener source (take (place + 1) old) → first_file_fault d request (told opener source (take (place + 1) old)) ≡ Some e

  -- The rows of a file are not all read. As far as openers tell, no file has a fault. In an ordered scan of objects that
  -- tell, the rows of the files before it leave the scan to go on.
  pub record IsReadCause (place : ℕ) (P : ScanFile O S → ScanFile O S → Type 0) : Type 0 where
    pub file : IsOfUnionFile place P
    pub good : AllGive opener source old → first_file_fault d request (told opener source old) ≡ None
    pub before : request.ordered ≡ true → All (Tells opener source) old → GoesOn request.limit (union_answer d request (take place (told opener source old)))

  -- a source failed over a segment of its file: its count rose, and the segment was asked
  pub record IsUnionSource (id : ℕ) (f g : ScanFile O S) : Type 0 where
    pub failed : SourceFailed (source f.source) (source g.source)
    pub asked : WasAsked id (source f.source) (source g.source)

  -- a segment of the file is damaged, where all objects tell, and it was asked
  pub record IsUnionCorrupt (id : ℕ) (f g : ScanFile O S) : Type 0 where
    pub damaged : All (Tells opener source) old → IsDamagedBehind d request (told_file opener source f) id
    pub asked : WasAsked id (source f.source) (source g.source)

  -- the cause of each fault
  abbrev pub HasUnionCause : UnionFault → Type 0
  HasUnionCause fault.NoMemory = Unit {0}
  HasUnionCause (fault.TooManySegments place) = IsUnreadCause place (fault.TooManySegments place)
  HasUnionCause (fault.Scan scan.NoMemory) = ⊥
  HasUnionCause (fault.Scan scan.Concurrency) = first_request_fault workers d request ≡ Some scan.Concurrency
  HasUnionCause (fault.Scan scan.Partitions) = first_request_fault workers d request ≡ Some scan.Partitions
  HasUnionCause (fault.Scan (scan.RowRange Reversed)) = first_request_fault workers d request ≡ Some (scan.RowRange Reversed)
  HasUnionCause (fault.Scan (scan.Bind f)) = first_request_fault workers d request ≡ Some (scan.Bind f)
  HasUnionCause (fault.Scan (scan.Opener place)) = IsOpenerCause place
  HasUnionCause (fault.Scan (scan.DTypeMismatch place)) = IsUnreadCause place (fault.Scan (scan.DTypeMismatch place))
  HasUnionCause (fault.Scan (scan.Layout place l)) = IsUnreadCause place (fault.Scan (scan.Layout place l))
  HasUnionCause (fault.Scan (scan.RowRange (Past place))) = IsUnreadCause place (fault.Scan (scan.RowRange (Past place)))
  HasUnionCause (fault.Scan (scan.TooManyRows place)) = IsUnreadCause place (fault.Scan (scan.TooManyRows place))
  HasUnionCause (fault.Scan (scan.Source place id)) = IsReadCause place (IsUnionSource id)
  HasUnionCause (fault.Scan (scan.Corrupt place id)) = IsReadCause place (IsUnionCorrupt id)
  HasUnionCause (fault.Scan (scan.Overflow place)) = IsReadCause place (λ f g. All (Tells opener source) old → OverflowsUnder d request (told_file opener source f))
