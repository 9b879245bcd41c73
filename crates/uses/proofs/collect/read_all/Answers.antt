use Rattle.std.proofs.Common.{◌∙◌}
use Rattle.vortex_scan.specs.Collect.Reads.{values_given}
use Rattle.uses.proofs.Collecting.{all_given}
use Rattle.uses.proofs.collect.read_all.Goals as goal

pub returns-in-Ok-clause-values : goal.returns-in-Ok-clause-values
returns-in-Ok-clause-values g c =
    let builder = c.of-builder in
    all_given g.R.LayoutReader.state c.args.reader.now 0 c.in-Ok.settings.step builder.result.reader.now builder.result.settings (g.S.SegmentSource.state c.args.source.now).holds (λ v. values_given v.items) c.read_rows.result
    builder.ensures.reader (builder.ensures.settings ∙ c.in-Ok.ensures.settings) c.read_rows.ensures.rows
