use Rattle.std.proofs.Common.{ap, sym}
use Rattle.std.specs.Prelude.{is_some}
use Rattle.scan_sharing.specs.Sharing.{entry_at}
use Rattle.scan_sharing.proofs.TableSteps.{takes, takes_owed, takes_others}
use Rattle.scan_sharing.proofs.shared.take_holder.Goals as goal

pub returns-clause-moves : goal.returns-clause-moves
returns-clause-moves c =
    takes c.args.id c.args.number c.in-Some.entry.now c.leave.new.self c.args.entries.now.entries _ (sym c.in-Some.ensures.value) c.leave.ensures.left
    ((c.get_mut.follows.holds c.leave.new.self).3 (sym (ap is_some c.in-Some.ensures.value))).0

pub returns-clause-owed : goal.returns-clause-owed
returns-clause-owed c =
    takes_owed c.args.id c.args.number c.in-Some.entry.now c.leave.new.self c.args.entries.now.entries _ c.requires (sym c.in-Some.ensures.value) c.leave.ensures.left (c.get_mut.follows.holds c.leave.new.self).0

pub returns-clause-others : goal.returns-clause-others
returns-clause-others c =
    takes_others c.args.number c.in-Some.entry.now c.leave.new.self (entry_at c.args.entries.now.entries c.args.id) c.leave.result (sym c.in-Some.ensures.value) c.leave.ensures.left c.leave.ensures.others
