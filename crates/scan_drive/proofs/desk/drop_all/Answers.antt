use Rattle.std.proofs.Common.{rules, inr}
use Rattle.scan_drive.proofs.Accounting.{waits_first, awaited_end, gone}
use Rattle.scan_drive.proofs.desk.drop_all.Goals as goal

pub drops-preserved : goal.drops-preserved
drops-preserved g c = record {
  agree = search rules;
  moves = search rules;
  awaited = inr (waits_first c.args.waiters.now.entries c.drops.waiters.entries c.in-Some.id c.take_out-places.result c.drops.invariant.awaited c.take_out-places.ensures.places c.as_slice-waiting.ensures.any);
}

pub returns-clause-awaited : goal.returns-clause-awaited
returns-clause-awaited g c = awaited_end c.args.waiters.now.entries c.drops.waiters.entries c.drops.invariant.awaited (gone c.first_live.result c.drops.waiters.entries c.in_default.not-Some c.first_live.ensures.none)
