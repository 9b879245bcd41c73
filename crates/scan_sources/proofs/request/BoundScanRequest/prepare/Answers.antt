use Rattle.std.proofs.Common.{◌<◌, ◌^◌, rules}
use Rattle.scan_sources.proofs.Preparing.{nothing_wrong, prepared_scan}
use Rattle.scan_sources.proofs.request.BoundScanRequest.prepare.Goals as goal

pub prepare-requires-clause-over : goal.prepare-requires-clause-over
prepare-requires-clause-over g c = record { over = c.requires.over.projection; passes = c.requires.over.filter; splits = tt }

pub prepare-requires-clause-right : goal.prepare-requires-clause-right
prepare-requires-clause-right g c =
    let state = g.R.LayoutReader.state c.args.reader.now in
    let small : state.rows < 2 ^ 64 = search rules in
    nothing_wrong c.args.reader.now c.args.self c.new-step.result state.rows c.requires.range small

pub returns-clause-scan : goal.returns-clause-scan
returns-clause-scan g c = prepared_scan (g.R.LayoutReader.state c.args.reader.now) c.args.reader.now c.args.self c.new-step.result c.prepare.result c.prepare.ensures.prepared
