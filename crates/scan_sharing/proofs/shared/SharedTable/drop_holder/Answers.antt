use Rattle.scan_sharing.proofs.Numbers.{below_left}
use Rattle.scan_sharing.proofs.shared.SharedTable.drop_holder.Goals as goal

pub invariant_of-self : goal.invariant_of-self
invariant_of-self g c =
    below_left c.self.inside.next c.number.result c.id.result c.self.inside.entries.entries c.leave_entry.new.entries.entries c.self.invariant c.leave_entry.ensures.step
