-- What callers of a scan conclude, in their own words.
use Rattle.std.specs.Prelude.{◌≡◌, ◌+◌, ℕ, List, [], ◌∷◌, true, None, Some, length}
use Rattle.vortex_scan.specs.Values.DataType.{DataType}
use Rattle.vortex_scan.specs.Values.declared.selection.Selection.TheVariants.{All}
use Rattle.vortex_scan.specs.Expr.Expr.{Expr}
use Rattle.vortex_scan.specs.Expr.declared.request.ScanRequest.{ScanRequest}
use Rattle.vortex_scan.specs.Segments.Source.{SourceState}
use Rattle.vortex_scan.specs.Opener.Opener.{OpenerState}
use Rattle.vortex_scan.specs.Drive.declared.files.ScanFile.{ScanFile}
use Rattle.scan_manifest.specs.declared.manifest.Manifest.{Manifest}
use Rattle.scan_manifest.specs.Manifest.{IsManifest}
use Rattle.vortex_scan.specs.Multi.Answer.{Item, answer}
use Rattle.vortex_scan.specs.Multi.Lawful.{told}
use Rattle.vortex_scan.specs.Multi.Output.{ChunkData, limited}
use Rattle.scan_run.specs.Run.{IsScanned, printed}

-- how many rows chunks have together
abbrev pub rows_in : List ChunkData → ℕ
rows_in [] = 0
rows_in (c ∷ cs) = length c.rows + rows_in cs

-- the rows that a request asks of files: those of the row-by-row answer, up to its limit
abbrev pub wanted : {O S : Type 0} → (O → OpenerState) → (S → SourceState) → DataType → ScanRequest → List (ScanFile O S) → List Item
wanted opener source d request files = limited request.limit (answer d request (told opener source files))

-- a request for the first rows, in order
abbrev pub first_of : Expr → ℕ → ScanRequest
first_of e most = record {
  projection = e;
  filter = None;
  row_range = None;
  selection = All;
  partition_selection = All;
  partition_range = None;
  ordered = true;
  limit = Some most;
}

-- a request for all rows, in order
abbrev pub all_of : Expr → ScanRequest
all_of e = record (first_of e 0) { limit = None }

-- the lines of an output that the manifest with these bytes admits
pub record AreLinesOf (bytes lines : List ℕ) : Type 0 where
  pub manifest : Manifest
  pub is : IsManifest bytes manifest
  pub chunks : List ChunkData
  pub scanned : IsScanned manifest chunks
  pub written : lines ≡ printed manifest chunks
