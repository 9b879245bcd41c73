use Rattle.std.proofs.Common.{◌≡◌, false, [], sym, subst}
use Rattle.std.specs.Prelude.{IfOk}
use Rattle.scan_layout.specs.Layout.{dtype_of, rows_of}
use Rattle.scan_readers.specs.LeafPlans.{layout_state}
use Rattle.scan_core.specs.RowRanges.{is_past}
use Rattle.scan_sources.specs.Requests.{IsBoundOver, IsScanOfRequest}
use Rattle.scan_multi_sources.proofs.giving.scan_of.Goals as goal

pub prepare-requires-clause-over : goal.prepare-requires-clause-over
prepare-requires-clause-over c =
    let l = c.args.layout.now.value in
    subst (λ z. IsBoundOver (dtype_of z) c.in_ok-request.request) (sym c.in_ok-reader.ensures.1) (subst (λ q. IsBoundOver (dtype_of l) q) (sym c.in_ok-request.ensures) c.requires.over)

pub prepare-requires-clause-range : goal.prepare-requires-clause-range
prepare-requires-clause-range c =
    let l = c.args.layout.now.value in
    subst (λ z. is_past c.in_ok-request.request.row_range (rows_of z) ≡ false) (sym c.in_ok-reader.ensures.1) (subst (λ q. is_past q.row_range (rows_of l) ≡ false) (sym c.in_ok-request.ensures) c.requires.range)

pub returns : goal.returns
returns c =
    let l = c.args.layout.now.value in
    let reader = c.in_ok-reader.reader in
    let r = c.prepare.result in
    let named = subst (λ n. IfOk r (λ s. IsScanOfRequest (layout_state n reader.layout) c.in_ok-request.request s)) c.in_ok-reader.ensures.0 c.prepare.ensures.scan in
    let placed = subst (λ z. IfOk r (λ s. IsScanOfRequest (layout_state [] z) c.in_ok-request.request s)) c.in_ok-reader.ensures.1 named in
    subst (λ q. IfOk r (λ s. IsScanOfRequest (layout_state [] l) q s)) c.in_ok-request.ensures placed
