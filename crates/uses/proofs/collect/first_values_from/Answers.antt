use Rattle.std.proofs.Common.{◌∙◌}
use Rattle.vortex_scan.specs.Collect.Reads.{values_given}
use Rattle.uses.proofs.Collecting.{first_given, limited}
use Rattle.uses.proofs.collect.first_values_from.Goals as goal

pub returns-in-Ok-clause-values : goal.returns-in-Ok-clause-values
returns-in-Ok-clause-values g c =
    let state = g.R.LayoutReader.state in
    let builder = c.with_limit-builder in
    let settings = c.in-Ok.settings in
    let made = limited (state c.args.reader.now) c.args.count settings c.of.result.settings builder.result.settings c.in-Ok.ensures.settings c.of.ensures.settings builder.ensures.settings in
    first_given state c.args.reader.now c.args.count settings.step builder.result.reader.now builder.result.settings (g.S.SegmentSource.state c.args.source).holds (λ v. values_given v.items) c.read_rows_from.result
    (builder.ensures.reader ∙ c.of.ensures.reader) made c.read_rows_from.ensures.rows
