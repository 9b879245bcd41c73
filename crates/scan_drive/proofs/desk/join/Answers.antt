use Rattle.std.proofs.Common.{ap, sym}
use Rattle.std.specs.Prelude.{is_some}
use Rattle.scan_drive.proofs.Desking.{kept}
use Rattle.scan_drive.proofs.desk.join.Goals as goal

pub returns-clause-err : goal.returns-clause-err
returns-clause-err c =
    kept c.add.result c.args.id c.in-Some.places.now c.add.new.self c.args.waiters.now.entries _ (sym c.in-Some.ensures.value) c.add.ensures.err
    ((c.get_mut.follows.holds c.add.new.self).3 (sym (ap is_some c.in-Some.ensures.value))).0
