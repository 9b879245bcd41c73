-- What a scan of files that tell writes into an output.
use Rattle.std.specs.Prelude.{◌≡◌, ℕ, List, ◌++◌, option_map}
use Rattle.scan_values.specs.DataType.{DataType}
use Rattle.scan_expr.specs.declared.request.ScanRequest.{ScanRequest}
use Rattle.scan_segments.specs.Source.{SourceState}
use Rattle.scan_segments.specs.Cache.{CacheState}
use Rattle.scan_segments.specs.declared.segment.SegmentKey.{SegmentKey}
use Rattle.scan_opener.specs.Opener.{OpenerState}
use Rattle.scan_drive.specs.declared.files.ScanFile.{ScanFile}
use Rattle.scan_multi.specs.Answer.{ToldFile, answer}
use Rattle.scan_multi.specs.Output.{ChunkData, Admits}
use Rattle.scan_multi.specs.Scans.{IsRefusedFor}
use Rattle.scan_multi.specs.Taken.{IsFront}
use Rattle.scan_run.specs.Io.{OutputState}
use Rattle.scan_run.specs.Printed.{chunks_lines}
use Rattle.scan_run.specs.WriteAll.{WroteFront}
use Rattle.scan_printing.specs.declared.lines.LinesFault.{LinesFault}
use Rattle.scan_printing.specs.declared.lines.LinesFault.TheVariants as fault

-- A front of the lines of chunks was written that are a front of what the request admits.
pub record WroteFrontOf (d : DataType) (request : ScanRequest) (files : List ToldFile) (old new : OutputState) : Type 0 where
  -- in order the first rows of the answer, else some of its rows, none twice, and none damaged
  pub chunks : List ChunkData
  pub front : IsFront d request files chunks
  pub wrote : WroteFront (chunks_lines chunks) old new

-- The lines of chunks that the request admits were written, and nothing else.
pub record WroteAll (d : DataType) (request : ScanRequest) (files : List ToldFile) (old new : OutputState) : Type 0 where
  pub chunks : List ChunkData
  pub admits : Admits d request (answer d request files) chunks
  pub written : new.written ≡ option_map (λ before. before ++ chunks_lines chunks) old.written

-- where the scan is refused, the fault is one of a scan with its cause
abbrev pub HasScanCause : {O S : Type 0} → (O → OpenerState) → (S → SourceState) → ℕ → DataType → ScanRequest → List (ScanFile O S) → List (ScanFile O S) → CacheState SegmentKey → CacheState SegmentKey → LinesFault → Type 0
HasScanCause opener source workers d request old new cache cache' (fault.Scan f) = IsRefusedFor opener source workers d request old new cache cache' f
HasScanCause opener source workers d request old new cache cache' (fault.Print f) = Unit {0}
