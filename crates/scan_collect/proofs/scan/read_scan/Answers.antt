use Rattle.std.proofs.Common.{inr, refl}
use Rattle.scan_core.specs.Setup.{range_fault}
use Rattle.scan_collect.specs.Reads.{values_given}
use Rattle.scan_collect.proofs.Meaning.{refused, scan_read, scan_stops, stream_live}
use Rattle.scan_collect.proofs.scan.read_scan.Goals as goal

pub read_stream-requires : goal.read_stream-requires
read_stream-requires g c = record { live = stream_live c.args.scan.now c.args.row_range c.in-Ok.stream (g.S.SegmentSource.state c.args.source.now).live c.in-Ok.ensures.stream c.requires.idle }

pub returns-in-Ok-clause-read : goal.returns-in-Ok-clause-read
returns-in-Ok-clause-read g c =
    scan_read c.args.scan.now c.args.row_range c.in-Ok.stream (g.S.SegmentSource.state c.args.source.now).holds (λ v. values_given v.items) c.read_stream.result
    c.streams_give_the_first_rows.ensures c.in-Ok.ensures.stream c.in-Ok.ensures.room c.read_stream.ensures.read

pub returns-in-Ok-clause-stops : goal.returns-in-Ok-clause-stops
returns-in-Ok-clause-stops g c =
    let state = g.S.SegmentSource.state in
    scan_stops c.args.scan.now c.args.row_range c.in-Ok.stream (state c.args.source.now) (state c.read_stream.new.source) c.read_stream.result c.in-Ok.ensures.stream c.read_stream.ensures.stops

pub returns-in-Err-clause-stops : goal.returns-in-Err-clause-stops
returns-in-Err-clause-stops g c = inr (c.in-Err.fault, refl, refused (range_fault c.args.row_range c.args.scan.now.rows) c.in-Err.fault c.in-Err.ensures.fault)
