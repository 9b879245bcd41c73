use Rattle.scan_core.specs.Prepared.{IsPrepared}
use Rattle.scan_core.specs.Settings.{builder_by}
use Rattle.scan_core.proofs.Preparing.{built_ok}
use Rattle.scan_core.proofs.settings.ScanSettings.splits.Goals as goal

pub returns-clause-splits : goal.returns-clause-splits
returns-clause-splits g c =
    let state = g.R.LayoutReader.state c.args.reader.now in
    built_ok (IsPrepared state (builder_by c.args.reader.now c.args.self)) c.in_ok-scan.scan (λ v. v.items) c.splits_within.result c.in_ok-scan.ensures.prepared c.splits_within.ensures
