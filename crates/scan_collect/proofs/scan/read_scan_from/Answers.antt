use Rattle.std.proofs.Common.{inr, refl}
use Rattle.scan_core.specs.Setup.{range_fault}
use Rattle.scan_collect.specs.Reads.{values_given}
use Rattle.scan_collect.proofs.Meaning.{iter_read, iter_stops, refused}
use Rattle.scan_collect.proofs.scan.read_scan_from.Goals as goal

pub returns-in-Ok-clause-read : goal.returns-in-Ok-clause-read
returns-in-Ok-clause-read g c =
    iter_read c.args.scan.now c.args.row_range g.S.SegmentSource.state c.args.source c.in-Ok.arrays c.in-Ok.ensures.iter (λ v. values_given v.items) c.read_iterator.result
    c.streams_give_the_first_rows.ensures c.in-Ok.ensures.room c.read_iterator.ensures.read

pub returns-in-Ok-clause-stops : goal.returns-in-Ok-clause-stops
returns-in-Ok-clause-stops g c =
    iter_stops c.args.scan.now c.args.row_range g.S.SegmentSource.state c.args.source c.in-Ok.arrays c.read_iterator.result c.in-Ok.ensures.iter c.read_iterator.ensures.stops

pub returns-in-Err-clause-stops : goal.returns-in-Err-clause-stops
returns-in-Err-clause-stops g c = (g.S.SegmentSource.state c.args.source, inr (c.in-Err.fault, refl, refused (range_fault c.args.row_range c.args.scan.now.rows) c.in-Err.fault c.in-Err.ensures.fault))
