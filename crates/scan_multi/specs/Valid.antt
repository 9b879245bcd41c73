-- Requests and files that a scan answers.
use Rattle.std.specs.Prelude.{◌≡◌, ℕ, ◌<◌, ◌^◌, List, None, All, length, get_or}
use Rattle.scan_values.specs.DataType.{DataType}
use Rattle.scan_expr.specs.declared.request.ScanRequest.{ScanRequest}
use Rattle.scan_segments.specs.Source.{SourceState}
use Rattle.scan_opener.specs.Opener.{OpenerState, OpenerFailed}
use Rattle.scan_multi.specs.Answer.{ToldFile}
use Rattle.scan_multi.specs.Checks.{IsGood, rows_in}
use Rattle.scan_multi.specs.Damaged.{IsDamaged}
use Rattle.scan_drive.specs.Drivings.{SourceFailed}
use Rattle.scan_multi.specs.Overflow.{OverflowsIn}
use Rattle.scan_multi.specs.Request.{first_request_fault}
use Rattle.scan_drive.specs.declared.files.ScanFile.{ScanFile}

-- no segment that may be asked is missing or damaged
abbrev pub IsSound : DataType → ScanRequest → ToldFile → Type 0
IsSound d request f = (id : ℕ) → IsDamaged d request f id → ⊥

-- no expression of the request overflows where it is read
abbrev pub NeverOverflows : DataType → ScanRequest → ToldFile → Type 0
NeverOverflows d request f = OverflowsIn d request f.given f.store → ⊥

-- The request has no fault, each file is good and sound, no expression overflows, and the rows are below 2 ^ 64 in all.
pub record IsValid (workers : ℕ) (d : DataType) (request : ScanRequest) (files : List ToldFile) : Type 0 where
  pub no_fault : first_request_fault workers d request ≡ None
  pub good : All (λ f. IsGood d request f.given) files
  pub sound : All (IsSound d request) files
  pub no_overflow : All (NeverOverflows d request) files
  pub rows : rows_in files < 2 ^ 64

module _ {O S : Type 0} (opener : O → OpenerState) (source : S → SourceState) where
  -- no opener and no source failed
  abbrev pub NoneFailed : List (ScanFile O S) → List (ScanFile O S) → Type 0
  NoneFailed old new =
      (k : ℕ) (f : ScanFile O S) → k < length old
      → (OpenerFailed (opener (get_or old k f).opener) (opener (get_or new k f).opener) → ⊥)
      × (SourceFailed (source (get_or old k f).source) (source (get_or new k f).source) → ⊥)
