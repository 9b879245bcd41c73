use Rattle.uses.proofs.Matched.{iter_read}
use Rattle.uses.proofs.matching.first_matches_from.Goals as goal

pub returns-in-Ok-execute_array_iter-clause-values : goal.returns-in-Ok-execute_array_iter-clause-values
returns-in-Ok-execute_array_iter-clause-values g c =
    let told = c.in-Ok.ensures.prepared in
    let iter = c.in-Ok-execute_array_iter in
    iter_read c.reads_give_the_first_rows.ensures g.R.LayoutReader.state c.args.reader.now c.args.projection c.args.filter c.args.most c.requires.over c.requires.passes
    told.0 c.in-Ok.scan iter.arrays g.S.SegmentSource.state c.args.source (λ v. v.items) c.read_iterator.result told.1 c.in-Ok.ensures.stands iter.ensures.iter iter.ensures.room c.read_iterator.ensures.read
