use Rattle.std.proofs.Common.{◌≡◌, rules}
use Rattle.scan_groups.proofs.Slots.{slot_at}
use Rattle.scan_groups.proofs.near.Slots.find.Goals as goal

pub returns-then-slot-number : goal.returns-then-slot-number
returns-then-slot-number c = λ m all.
    let l = c.in-Some.ensures.lookup in
    let s = c.in-Some.slot.now in
    let same : s.number ≡ c.args.number = search rules in
    slot_at m c.args.self.slots.now c.slot_of.result s c.args.number all l.3.0 l.1 same
