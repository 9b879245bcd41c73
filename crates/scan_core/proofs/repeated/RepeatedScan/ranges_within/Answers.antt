use Rattle.std.proofs.Common.{◌≡◌, IfOk, rules, subst}
use Rattle.scan_core.specs.ScanData.{IsScan, scan_ranges}
use Rattle.scan_core.proofs.Executing.{ranges_ok, scan_within}
use Rattle.scan_core.proofs.repeated.RepeatedScan.ranges_within.Goals as goal

pub returns-clause-within : goal.returns-clause-within
returns-clause-within g c =
    let whole : IfOk c.split_ranges.result (λ v. v.items ≡ scan_ranges c.args.self.now c.args.row_range) = search rules in
    let scan = subst IsScan c.self.view_is c.self.invariant in
    ranges_ok (λ v. v.items) c.args.self.now.rows (scan_ranges c.args.self.now c.args.row_range) c.split_ranges.result (scan_within c.args.self.now c.args.row_range scan c.requires) whole
