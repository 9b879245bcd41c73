-- Want of memory for what a scan that was answered gives.
use Rattle.std.proofs.Common.{◌≡◌, ℕ, List, refl, sym, subst}
use Rattle.std.specs.Prelude.{None, IfSome}
use Rattle.scan_values.specs.DataType.{DataType}
use Rattle.scan_expr.specs.declared.request.ScanRequest.{ScanRequest}
use Rattle.scan_segments.specs.Source.{SourceState}
use Rattle.scan_segments.specs.Cache.{CacheState}
use Rattle.scan_segments.specs.declared.segment.SegmentKey.{SegmentKey}
use Rattle.scan_opener.specs.Opener.{OpenerState}
use Rattle.scan_drive.specs.declared.files.ScanFile.{ScanFile}
use Rattle.scan_multi.specs.Output.{OutputData}
use Rattle.scan_multi.specs.Scans.{IsScan, IsRefusedFor}
use Rattle.scan_multi.specs.declared.scan.fault.ScanFault.TheVariants as fault
use Rattle.scan_multi.proofs.Complete.{complete}
use Rattle.scan_multi.proofs.Requesting.{none_plain}

module _ {O S : Type 0} (opener : O → OpenerState) (source : S → SourceState) (workers : ℕ) (d : DataType) (q : ScanRequest)
    (old new : List (ScanFile O S)) (c c' : CacheState SegmentKey) where
  pub refused_after : (out : OutputData) → IsScan opener source workers d q old new c c' out → IsRefusedFor opener source workers d q old new c c' fault.NoMemory
  refused_after out scanned = record {
    cause = tt;
    early = none_plain workers d q scanned.types fault.NoMemory;
    request_fault = λ other. subst (λ o. IfSome o (λ f. fault.NoMemory ≡ f)) (sym scanned.types) tt;
    nothing = λ z other. absurd (other refl);
    complete = complete opener source workers d q c old new fault.NoMemory tt;
  }
