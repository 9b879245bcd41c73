-- What the check of a request says.
use Rattle.std.specs.Prelude.{◌≡◌, ◌≢◌, ℕ, Some, None, IfSome}
use Rattle.scan_values.specs.DataType.{DataType}
use Rattle.scan_expr.specs.declared.request.ScanRequest.{ScanRequest}
use Rattle.scan_file.specs.FileAsks.{FileAsk}
use Rattle.scan_multi.specs.Asked.{AsksFor}
use Rattle.scan_multi.specs.Request.{first_plain_fault, first_request_fault}
use Rattle.scan_multi.specs.declared.scan.fault.ScanFault.{ScanFault}
use Rattle.scan_multi.specs.declared.scan.fault.ScanFault.TheVariants as fault

-- the request has no fault, and this is what it asks of each file
pub record IsChecked (workers : ℕ) (d : DataType) (request : ScanRequest) (a : FileAsk) : Type 0 where
  pub no_fault : first_request_fault workers d request ≡ None
  pub asks : AsksFor d request a

-- the request has this fault first, or memory is short; not before a fault for which none is needed
pub record IsRequestFault (workers : ℕ) (d : DataType) (request : ScanRequest) (e : ScanFault) : Type 0 where
  pub early : IfSome (first_plain_fault workers request) (λ f. e ≡ f)
  pub first : e ≢ fault.NoMemory → first_request_fault workers d request ≡ Some e
