use Rattle.std.proofs.Common.{◌≡◌, sym, subst, rules}
use Rattle.scan_core.specs.BuilderData.{range_or_all}
use Rattle.scan_core.specs.Streaming.{IsOwnSeat}
use Rattle.scan_sources.specs.Plain.{Plain}
use Rattle.scan_sources.specs.Scans.{StartsScan}
use Rattle.scan_sources.proofs.Starting.{starts}
use Rattle.scan_sources.proofs.source.split_scan.Goals as goal

pub returns-clause-starts : goal.returns-clause-starts
returns-clause-starts g c =
    let state = g.R.LayoutReader.state c.args.reader.now in
    let q = c.args.request in
    let rows : c.range_or_all-rows.result ≡ range_or_all q.row_range state.rows = search rules in
    let seat = subst (λ l. IsOwnSeat l c.in_ok-row_limit.row_limit) c.shared_limit.ensures c.in_ok-row_limit.ensures in
    subst (StartsScan {M = Plain} state c.args.split_size q) (sym c.new.ensures) (starts state c.args.split_size q c.in_ok-scan.scan c.range_or_all-rows.result c.in_ok-row_limit.row_limit c.in_ok-scan.ensures.scan rows seat)
