use Rattle.std.proofs.lemmas.List.Elements.{All-set}
use Rattle.scan_groups.specs.Near.{IsAt}
use Rattle.scan_groups.proofs.near.Near.put.Goals as goal

pub returns-then-at-len : goal.returns-then-at-len
returns-then-at-len c = λ m all is. All-set (IsAt m) c.args.self.now.slots.items c.slot_of-at.result c.args.slot is all
