use Rattle.std.proofs.Common.{Some, ap, subst, arith}
use Rattle.scan_sharing.specs.Sharing.{owed}
use Rattle.scan_sharing.specs.SharedTables.{Moves}
use Rattle.scan_sharing.proofs.Slots.{begins, debt, owed-insert}
use Rattle.scan_sharing.proofs.shared.add_entry.Goals as goal

pub returns-in-Ok-clause-ok : goal.returns-in-Ok-clause-ok
returns-in-Ok-clause-ok c =
    begins c.args.id c.args.number c.args.entries.now.entries c.insert.new.self.entries c.requires
    (subst (λ e. Moves c.args.id (Some e) c.args.entries.now.entries c.insert.new.self.entries) c.in_ok-entry.ensures c.in-Ok.ensures.updates.0)

pub returns-in-Ok-clause-owed : goal.returns-in-Ok-clause-owed
returns-in-Ok-clause-owed c =
    let o = owed-insert c.args.entries.now.entries c.args.id c.in_ok-entry.entry c.requires in
    let d = ap debt c.in_ok-entry.ensures in
    let e = ap owed c.in-Ok.ensures.entries in
    omega arith
