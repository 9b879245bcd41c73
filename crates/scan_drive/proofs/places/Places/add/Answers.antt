use Rattle.scan_drive.proofs.Desking.{pushed}
use Rattle.scan_drive.proofs.places.Places.add.Goals as goal

pub invariant_of-self-2 : goal.invariant_of-self-2
invariant_of-self-2 c = pushed c.args.self.now c.self.inside.places.items c.reserve.new.self.items c.push_reserved.new.self.items c.args.place c.self.view_is c.reserve.ensures.items c.push_reserved.ensures.items c.self.invariant.distinct c.requires
