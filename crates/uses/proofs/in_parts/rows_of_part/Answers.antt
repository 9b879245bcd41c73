use Rattle.std.proofs.Common.{Some}
use Rattle.uses.proofs.Matched.{live_as}
use Rattle.uses.proofs.Parting.{own_stream, part_read}
use Rattle.uses.proofs.in_parts.rows_of_part.Goals as goal

pub read_stream-requires : goal.read_stream-requires
read_stream-requires g c =
    let p = c.args.part in
    record { live = live_as p.scan (Some p.range) c.in-Ok.stream (g.S.SegmentSource.state c.args.segments.now).live (own_stream p c.in-Ok.stream c.requires.own c.in-Ok.ensures.stream) c.requires.idle }

pub returns-in-Ok-read_stream-clause-values : goal.returns-in-Ok-read_stream-clause-values
returns-in-Ok-read_stream-clause-values g c =
    let p = c.args.part in
    part_read p c.in-Ok.stream (g.S.SegmentSource.state c.args.segments.now).holds c.in-Ok-read_stream.arrays.items (own_stream p c.in-Ok.stream c.requires.own c.in-Ok.ensures.stream) c.in-Ok.ensures.room c.in-Ok-read_stream.ensures.read
