use Rattle.scan_spelling.proofs.Gathering.{flags_are}
use Rattle.scan_spelling.proofs.write.push_group.Goals as goal

pub returns-in-Two : goal.returns-in-Two
returns-in-Two c = rw (c.in-Two.is, ← flags_are c.args.items.now) c.push_bits.ensures
