use Rattle.std.proofs.Common.{None}
use Rattle.uses.proofs.Matched.{first_read, live_as}
use Rattle.uses.proofs.matching.first_matches.Goals as goal

pub read_stream-requires : goal.read_stream-requires
read_stream-requires g c = record { live = live_as c.in-Ok.scan None c.in-Ok-execute_array_stream.stream (g.S.SegmentSource.state c.args.source.now).live c.in-Ok-execute_array_stream.ensures.stream c.requires.idle }

pub returns-in-Ok-execute_array_stream-clause-values : goal.returns-in-Ok-execute_array_stream-clause-values
returns-in-Ok-execute_array_stream-clause-values g c =
    let told = c.in-Ok.ensures.prepared in
    let stream = c.in-Ok-execute_array_stream in
    first_read c.reads_give_the_first_rows.ensures g.R.LayoutReader.state c.args.reader.now c.args.projection c.args.filter c.args.most c.requires.over c.requires.passes
    told.0 c.in-Ok.scan stream.stream (g.S.SegmentSource.state c.args.source.now).holds (λ v. v.items) c.read_stream.result told.1 c.in-Ok.ensures.stands stream.ensures.stream stream.ensures.room c.read_stream.ensures.read
