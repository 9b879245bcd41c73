use Rattle.scan_plans.proofs.OffsetSegments.{row_inside, names_segment}
use Rattle.scan_plans.proofs.lists.segment_of.Goals as goal

pub id-requires : goal.id-requires
id-requires c = row_inside c.args.runs.now c.args.row c.first_at.result c.first_at.ensures.within c.first_at.ensures.before c.requires

pub returns : goal.returns
returns c = λ d s.
    let inside = row_inside c.args.runs.now c.args.row c.first_at.result c.first_at.ensures.within c.first_at.ensures.before c.requires in
    names_segment d s c.args.runs.now c.args.row c.first_at.result c.id.result inside c.first_at.ensures.before (c.first_at.ensures.past inside) c.id.ensures
