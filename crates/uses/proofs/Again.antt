-- A scan of a source that is as it was.
use Rattle.std.proofs.Common.{◌≡◌, ℕ, subst}
use Rattle.vortex_scan.specs.Expr.declared.request.ScanRequest.{ScanRequest}
use Rattle.vortex_scan.specs.Readers.Readers.{ReaderState}
use Rattle.vortex_scan.specs.Sources.Requests.{bound_request}
use Rattle.vortex_scan.specs.Sources.Sources.{Starts}
use Rattle.vortex_scan.specs.Sources.declared.scan.LayoutScan.{LayoutScan}

pub again : (s t : ReaderState) (m n : ℕ) (q : ScanRequest) (x : LayoutScan) → t ≡ s → n ≡ m → Starts t n (bound_request t.dtype q) x → Starts s m (bound_request s.dtype q) x
again s t m n q x e k h =
    subst (λ (z : ReaderState). Starts z m (bound_request z.dtype q) x) e (subst (λ z. Starts t z (bound_request t.dtype q) x) k h)
