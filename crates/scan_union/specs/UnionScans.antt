-- What a scan over a union does: what an answer of it means, why it is refused, and what it leaves.
use Rattle.std.specs.Prelude.{◌≡◌, ◌≢◌, ℕ, ◌<◌, List, None, Some, IfSome, All, Contains, length, get_or}
use Rattle.scan_values.specs.DataType.{DataType}
use Rattle.scan_expr.specs.declared.request.ScanRequest.{ScanRequest}
use Rattle.scan_segments.specs.Faults.{Rose}
use Rattle.scan_segments.specs.Source.{SourceState}
use Rattle.scan_opener.specs.Opener.{OpenerState, OpenerFailed}
use Rattle.scan_drive.specs.Traffic.{asked_since}
use Rattle.scan_drive.specs.declared.files.ScanFile.{ScanFile}
use Rattle.scan_multi.specs.Answer.{ToldFile}
use Rattle.scan_multi.specs.Lawful.{told, told_file, Tells, IsIdle, AllGive}
use Rattle.scan_multi.specs.Moves.{EachMoves}
use Rattle.scan_multi.specs.Output.{OutputData, Admits}
use Rattle.scan_multi.specs.Request.{first_plain_fault, first_request_fault}
use Rattle.scan_multi.specs.Valid.{NoneFailed}
use Rattle.scan_union.specs.Under.{first_file_fault}
use Rattle.scan_union.specs.UnionAnswer.{union_answer}
use Rattle.scan_union.specs.UnionCauses.{HasUnionCause, IsDamagedBehind, OverflowsUnder, named_behind}
use Rattle.scan_union.specs.declared.fault.UnionFault.{UnionFault}
use Rattle.scan_union.specs.declared.fault.UnionFault.TheVariants as fault

-- no segment of the file behind one that may be asked is missing or damaged
abbrev pub IsSoundUnder : DataType → ScanRequest → ToldFile → Type 0
IsSoundUnder d request f = (id : ℕ) → IsDamagedBehind d request f id → ⊥

-- no expression of the request overflows where it is read
abbrev pub NeverOverflowsUnder : DataType → ScanRequest → ToldFile → Type 0
NeverOverflowsUnder d request f = OverflowsUnder d request f → ⊥

-- Neither the request nor any file has a fault, each file is sound, and no expression overflows.
pub record IsValidUnder (workers : ℕ) (d : DataType) (request : ScanRequest) (files : List ToldFile) : Type 0 where
  pub no_fault : first_request_fault workers d request ≡ None
  pub good : first_file_fault d request files ≡ None
  pub sound : All (IsSoundUnder d request) files
  pub no_overflow : All (NeverOverflowsUnder d request) files

-- a scan of files under a dtype: as they were, and as it leaves them
module _ {O S : Type 0} (opener : O → OpenerState) (source : S → SourceState) (workers : ℕ) (d : DataType) (request : ScanRequest) (old new : List (ScanFile O S)) where
  -- What an answer of a scan means.
  pub record IsUnionScan (out : OutputData) : Type 0 where
    -- the request has no fault
    pub types : first_request_fault workers d request ≡ None
    -- unless nothing is wanted, no file has a fault, as far as openers tell
    pub files : request.limit ≢ Some 0 → AllGive opener source old → first_file_fault d request (told opener source old) ≡ None
    -- where openers and sources tell: the rows of the answer that the request admits, each with its place and its value, none damaged
    pub admits : All (Tells opener source) old → Admits d request (union_answer d request (told opener source old)) out.chunks

  -- no opener failed
  abbrev pub NoOpenerFailed : Type 0
  NoOpenerFailed = (k : ℕ) (f : ScanFile O S) → k < length old → OpenerFailed (opener (get_or old k f).opener) (opener (get_or new k f).opener) → ⊥

  -- Why a scan is refused by this fault.
  pub record IsUnionRefusedFor (e : UnionFault) : Type 0 where
    -- the fault has its cause, as far as objects tell
    pub cause : HasUnionCause opener source workers d request old new e
    -- no workers, partitions and a reversed range are told wherever they are, the first of them
    pub early : IfSome (first_plain_fault workers request) (λ f. e ≡ fault.Scan f)
    -- a request with a fault is refused by it, or by want of memory
    pub request_fault : e ≢ fault.NoMemory → IfSome (first_request_fault workers d request) (λ f. e ≡ fault.Scan f)
    -- files with a fault are refused by the first, or by want of memory, where openers tell and none failed
    pub file_fault : e ≢ fault.NoMemory → first_request_fault workers d request ≡ None → request.limit ≢ Some 0 → AllGive opener source old → NoOpenerFailed
        → IfSome (first_file_fault d request (told opener source old)) (λ f. e ≡ f)
    -- a valid scan of objects that tell and do not fail is refused by want of memory alone
    pub complete : All (Tells opener source) old → IsValidUnder workers d request (told opener source old) → NoneFailed opener source old new → e ≡ fault.NoMemory

  -- the count of polls of the opener at this place rose
  abbrev pub WasPolled : ℕ → ScanFile O S → Type 0
  WasPolled k f = (opener (get_or old k f).opener).polled < (opener (get_or new k f).opener).polled

  -- What a scan does to its files, whatever it answers.
  pub record UnionMoves : Type 0 where
    -- each file tells what it told, no count of it fell, and its opener was polled no more than it put off an answer, and once
    pub moves : EachMoves opener source old new
    -- there are as many files
    pub count : length new ≡ length old
    -- no request is live
    pub idle : All (IsIdle opener source) new
    -- the openers that were polled are those of the first files, as far as their counts can rise
    pub first : (i j : ℕ) (f : ScanFile O S) → i < j → j < length old → WasPolled j f → Rose (opener (get_or old i f).opener).polled (opener (get_or new i f).opener).polled
    -- where openers and sources tell: each source was asked for segments alone that stand behind those that may be asked under the dtype
    pub named : All (Tells opener source) old → (k : ℕ) (f : ScanFile O S)
        → All (Contains (named_behind d request (told_file opener source (get_or old k f)))) (asked_since (source (get_or old k f).source) (source (get_or new k f).source))
    -- before a request with a fault is refused, nothing is touched
    pub untouched : IfSome (first_request_fault workers d request) (λ f. new ≡ old)
    -- nor where nothing is wanted
    pub none : request.limit ≡ Some 0 → new ≡ old
