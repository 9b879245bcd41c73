use Rattle.scan_lookup.proofs.Grouping.{inserted}
use Rattle.scan_lookup.proofs.numbers.Numbers.add.Goals as goal

pub returns : goal.returns
returns c = rw (← c.self.view_is) (inserted c.self.inside.by_key.entries c.insert.new.self.entries c.args.key c.args.number c.in_ok-insert.ensures.updates.0)
