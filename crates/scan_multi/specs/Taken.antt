-- What a sink has taken of a scan: all that the scan gives, or a front of it.
use Rattle.std.specs.Prelude.{◌≡◌, ℕ, List, [], None, Some, All}
use Rattle.scan_values.specs.DataType.{DataType}
use Rattle.scan_expr.specs.Infer.{infer}
use Rattle.scan_expr.specs.declared.request.ScanRequest.{ScanRequest}
use Rattle.scan_segments.specs.Source.{SourceState}
use Rattle.scan_segments.specs.Cache.{CacheState}
use Rattle.scan_segments.specs.declared.segment.SegmentKey.{SegmentKey}
use Rattle.scan_drive.specs.Grants.{Allows}
use Rattle.scan_drive.specs.declared.driving.DriveEnd.{DriveEnd}
use Rattle.scan_drive.specs.declared.files.ScanFile.{ScanFile}
use Rattle.scan_drive.specs.declared.report.ScanReport.{ScanReport}
use Rattle.scan_drive.specs.declared.sink.Flow.TheVariants as flow
use Rattle.scan_opener.specs.Opener.{OpenerState}
use Rattle.scan_multi.specs.Answer.{ToldFile, answer}
use Rattle.scan_multi.specs.Chunks.{AreSplits}
use Rattle.scan_multi.specs.Lawful.{told, IsLawful}
use Rattle.scan_multi.specs.Output.{ChunkData, IsChunk, IsGiven, IsShaped, given}
use Rattle.scan_multi.specs.Request.{first_request_fault}
use Rattle.scan_multi.specs.Scans.{IsScan}

-- Chunks that a request with a limit that is no higher admits: in order the first items of the answer, else some of its
-- items, none twice. Each has a value, so none is damaged.
pub record IsFront (d : DataType) (request : ScanRequest) (files : List ToldFile) (output : List ChunkData) : Type 0 where
  pub most : ℕ
  pub within : Allows request.limit most
  pub chunks : All (IsChunk (infer d request.projection)) output
  pub items : IsGiven request.ordered (Some most) (answer d request files) (given output)
  pub splits : AreSplits request.ordered d request files output

module _ {O S K : Type 0} (opener : O → OpenerState) (source : S → SourceState) (takes : K → List ChunkData → K → Type 0) where
  -- what a sink has taken of a scan, whatever that answers
  pub record TakesFront (d : DataType) (request : ScanRequest) (old : List (ScanFile O S)) (cache : CacheState SegmentKey)
      (sink sink' : K) : Type 0 where
    -- these chunks
    pub chunks : List ChunkData
    pub took : takes sink chunks sink'
    -- each has a row, and a value for each of its rows
    pub shape : All IsShaped chunks
    -- with a limit of 0 none
    pub nothing : request.limit ≡ Some 0 → chunks ≡ []
    -- over lawful objects: a front of what the request admits
    pub front : IsLawful opener source old cache → IsFront d request (told opener source old) chunks

  -- a sink has taken all that a scan gives, with this report
  pub record TakesScan (workers : ℕ) (d : DataType) (request : ScanRequest) (old new : List (ScanFile O S))
      (cache cache' : CacheState SegmentKey) (sink sink' : K) (report : ScanReport) : Type 0 where
    pub chunks : List ChunkData
    pub took : takes sink chunks sink'
    pub scan : IsScan opener source workers d request old new cache cache' (record { chunks = chunks; report = report })

  -- What an answer of a scan into a sink means: the sink wants no more, or it has taken all that the scan gives.
  pub record EndsScan (workers : ℕ) (d : DataType) (request : ScanRequest) (old new : List (ScanFile O S))
      (cache cache' : CacheState SegmentKey) (Full : Type 0) (sink sink' : K) (end : DriveEnd) : Type 0 where
    -- the request has no fault
    pub types : first_request_fault workers d request ≡ None
    -- with a limit of 0 the sink is not asked
    pub nothing : request.limit ≡ Some 0 → end.flow ≡ flow.More
    pub stop : end.flow ≡ flow.Stop → Full
    pub whole : end.flow ≡ flow.More → TakesScan workers d request old new cache cache' sink sink' end.report
