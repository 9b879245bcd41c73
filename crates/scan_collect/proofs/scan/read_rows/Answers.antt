use Rattle.std.proofs.Common.{inr, refl}
use Rattle.scan_core.specs.Settings.{builder_by}
use Rattle.scan_core.specs.Setup.{setup_fault}
use Rattle.scan_collect.specs.Reads.{values_given}
use Rattle.scan_collect.proofs.Meaning.{refused, rows_read, rows_stops}
use Rattle.scan_collect.proofs.scan.read_rows.Goals as goal

pub returns-in-Ok-clause-rows : goal.returns-in-Ok-clause-rows
returns-in-Ok-clause-rows g c =
    let reader = c.args.builder.reader.now in
    let told = c.in-Ok.ensures in
    rows_read (g.R.LayoutReader.state reader) (builder_by reader c.args.builder.settings) c.in-Ok.scan (g.S.SegmentSource.state c.args.source.now).holds (λ v. values_given v.items) c.read_scan.result
    c.splits_give_what_is_asked.ensures told.builder c.requires.rises told.prepared told.stands c.read_scan.ensures.read

pub returns-in-Ok-clause-stops : goal.returns-in-Ok-clause-stops
returns-in-Ok-clause-stops g c =
    let state = g.S.SegmentSource.state in
    let reader = c.args.builder.reader.now in
    rows_stops (g.R.LayoutReader.state reader) (builder_by reader c.args.builder.settings) c.in-Ok.scan (state c.args.source.now) (state c.read_scan.new.source) c.read_scan.result c.in-Ok.ensures.prepared c.read_scan.ensures.stops

pub returns-in-Err-clause-stops : goal.returns-in-Err-clause-stops
returns-in-Err-clause-stops g c =
    let reader = c.args.builder.reader.now in
    inr (c.in-Err.fault, refl, refused (setup_fault (builder_by reader c.args.builder.settings) (g.R.LayoutReader.state reader).rows) c.in-Err.fault c.in-Err.ensures.fault)
