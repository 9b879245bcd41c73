use Rattle.uses.proofs.Parting.{keeps_pushed}
use Rattle.uses.proofs.in_parts.keep_part.Goals as goal

pub returns-in-Ok-clause-keeps : goal.returns-in-Ok-clause-keeps
returns-in-Ok-clause-keeps g c =
    keeps_pushed (g.S.SegmentSource.state c.args.segments.now).holds c.args.part c.in-Ok.rows c.args.read.now.items c.push_part.new.read.items c.push_part.result c.in-Ok.ensures.rows c.in-Ok.ensures.values c.push_part.ensures
