use Rattle.std.proofs.Common.{ap, sym}
use Rattle.std.specs.Prelude.{is_some}
use Rattle.scan_sharing.proofs.TableSteps.{joins_ok, joins_err, joins_owed}
use Rattle.scan_sharing.proofs.shared.join_entry.Goals as goal

pub returns-clause-ok : goal.returns-clause-ok
returns-clause-ok c =
    joins_ok c.join.result c.args.id c.args.number c.in-Some.entry.now c.join.new.self c.args.entries.now.entries _ (sym c.in-Some.ensures.value) c.join.ensures.ok
    ((c.get_mut.follows.holds c.join.new.self).3 (sym (ap is_some c.in-Some.ensures.value))).0

pub returns-clause-err : goal.returns-clause-err
returns-clause-err c =
    joins_err c.join.result c.args.id c.in-Some.entry.now c.join.new.self c.args.entries.now.entries _ (sym c.in-Some.ensures.value) c.join.ensures.err (c.get_mut.follows.holds c.join.new.self).0

pub returns-clause-owed : goal.returns-clause-owed
returns-clause-owed c =
    joins_owed c.join.result c.args.id c.args.number c.in-Some.entry.now c.join.new.self c.args.entries.now.entries _ (sym c.in-Some.ensures.value) c.join.ensures.ok (c.get_mut.follows.holds c.join.new.self).0
