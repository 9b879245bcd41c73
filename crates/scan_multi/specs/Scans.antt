-- What a scan of files does: what an answer of it means, why it is refused, and what it leaves.
use Rattle.std.specs.Prelude.{◌≡◌, ◌≢◌, ℕ, List, [], false, None, Some, IfSome, All, IsPermutation, length, map}
use Rattle.scan_values.specs.DataType.{DataType}
use Rattle.scan_expr.specs.declared.request.ScanRequest.{ScanRequest}
use Rattle.scan_segments.specs.Source.{SourceState}
use Rattle.scan_segments.specs.Cache.{CacheState}
use Rattle.scan_segments.specs.declared.segment.SegmentKey.{SegmentKey}
use Rattle.scan_opener.specs.Opener.{OpenerState}
use Rattle.scan_multi.specs.Answer.{answer}
use Rattle.scan_multi.specs.Causes.{HasCause}
use Rattle.scan_multi.specs.Checks.{IsGood}
use Rattle.scan_multi.specs.Chunks.{AreSplits, cut}
use Rattle.scan_multi.specs.Late.{ArePolledLate}
use Rattle.scan_multi.specs.Lawful.{told, IsLawful, IsIdle, Gives}
use Rattle.scan_multi.specs.Moves.{EachMoves, EachAsksNamed}
use Rattle.scan_multi.specs.Output.{OutputData, Admits, IsShaped, chunk_items}
use Rattle.scan_multi.specs.Placed.{no_counts}
use Rattle.scan_multi.specs.Request.{first_plain_fault, first_request_fault}
use Rattle.scan_drive.specs.Traffic.{ended_since, asked_keys, CacheMoves, IsReport, LooksUpFirst, PutsWhatItAsked}
use Rattle.scan_multi.specs.Valid.{IsValid, NoneFailed}
use Rattle.scan_drive.specs.declared.files.ScanFile.{ScanFile}
use Rattle.scan_multi.specs.declared.scan.fault.ScanFault.{ScanFault}
use Rattle.scan_multi.specs.declared.scan.fault.ScanFault.TheVariants as fault

-- a scan of files over a cache: as they were, and as it leaves them
module _ {O S : Type 0} (opener : O → OpenerState) (source : S → SourceState) (workers : ℕ) (d : DataType) (request : ScanRequest)
    (old new : List (ScanFile O S)) (cache cache' : CacheState SegmentKey) where
  -- What an answer of a scan means.
  pub record IsScan (out : OutputData) : Type 0 where
    -- the request has no fault
    pub types : first_request_fault workers d request ≡ None
    -- each chunk has a row, and a value for each of its rows
    pub shape : All IsShaped out.chunks
    -- with a limit of 0 there is no chunk, and nothing was wanted
    pub nothing : request.limit ≡ Some 0 → (out.chunks ≡ []) × (out.report ≡ no_counts)
    -- over lawful objects: the rows of the answer that the request admits, each with its place and its value, none damaged
    pub admits : IsLawful opener source old cache → Admits d request (answer d request (told opener source old)) out.chunks
    -- over lawful objects: chunks split by split
    pub chunks : IsLawful opener source old cache → AreSplits request.ordered d request (told opener source old) out.chunks
    -- in an unordered scan without a limit, over lawful objects: the chunks are the groups of the answer, each once
    pub whole : request.ordered ≡ false → request.limit ≡ None → IsLawful opener source old cache
        → IsPermutation (map chunk_items out.chunks) (cut d request (told opener source old) (answer d request (told opener source old)))
    -- without a limit: each file is skipped or of a good layout, as far as its opener tells
    pub read : request.limit ≡ None → All (Gives opener source (IsGood d request)) old
    -- without a limit, where the cache tells its events: no key was put more often than it was asked for, and what came was put
    pub puts : request.limit ≡ None → IfSome (ended_since cache cache') (PutsWhatItAsked source old new cache cache')
    -- the report has as many asks as were made, and as many hits and misses as the cache tells
    pub report : IsReport (length (asked_keys source old new)) (ended_since cache cache') out.report

  -- Why a scan is refused by this fault.
  pub record IsRefusedFor (e : ScanFault) : Type 0 where
    -- the fault has its cause, as far as objects tell
    pub cause : HasCause opener source workers d request cache old new e
    -- no workers, partitions and a reversed range are told wherever they are, the first of them
    pub early : IfSome (first_plain_fault workers request) (λ f. e ≡ f)
    -- a request with a fault is refused by it, or by want of memory
    pub request_fault : e ≢ fault.NoMemory → IfSome (first_request_fault workers d request) (λ f. e ≡ f)
    -- with a limit of 0 it is refused by its request's fault, or by want of memory
    pub nothing : request.limit ≡ Some 0 → e ≢ fault.NoMemory → first_request_fault workers d request ≡ Some e
    -- a valid scan of lawful objects that do not fail is refused by want of memory alone
    pub complete : IsLawful opener source old cache → IsValid workers d request (told opener source old) → NoneFailed opener source old new → e ≡ fault.NoMemory

  -- What a scan does to its files and to the cache, whatever it answers.
  pub record ScanMoves : Type 0 where
    -- each file tells what it told, no count of it fell, and its opener was polled no more than it put off an answer, and once
    pub moves : EachMoves opener source old new
    -- no opener was polled long before its file's rows may be wanted
    pub late : ArePolledLate opener source workers d request cache old new
    -- there are as many files
    pub count : length new ≡ length old
    -- no request is live
    pub idle : All (IsIdle opener source) new
    -- over lawful objects: each source was asked for named segments alone
    pub named : IsLawful opener source old cache → EachAsksNamed opener source d request old new
    -- entries only went, but for those that the files' sources gave
    pub entries : CacheMoves source old new cache cache'
    -- objects that were lawful are lawful
    pub lawful : IsLawful opener source old cache → IsLawful opener source new cache'
    -- where the cache tells its events: each ask and each put comes after a lookup that missed
    pub lookups : IfSome (ended_since cache cache') (LooksUpFirst source old new)
    -- before a request with a fault is refused, nothing is touched
    pub untouched : IfSome (first_request_fault workers d request) (λ f. (new ≡ old) × (cache' ≡ cache))
    -- with a limit of 0 neither
    pub nothing : request.limit ≡ Some 0 → (new ≡ old) × (cache' ≡ cache)
