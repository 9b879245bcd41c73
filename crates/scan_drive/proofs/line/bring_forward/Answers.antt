use Rattle.std.proofs.Common.{refl, arith}
use Rattle.scan_drive.proofs.Brought.{brought_none}
use Rattle.scan_drive.proofs.line.bring_forward.Goals as goal

pub returns-then-drive-clause-line : goal.returns-then-drive-clause-line
returns-then-drive-clause-line g c = record {
  last = 0;
  frees = λ lt. absurd (omega (arith, lt));
  there = omega arith;
  brings = brought_none 0 c.args.exchanges.now.items c.args.exchanges.now.items c.args.files.now.items c.args.desks.now.items c.args.drive.now refl;
}

pub returns-then-last-first-clause-line : goal.returns-then-last-first-clause-line
returns-then-last-first-clause-line g c = record {
  last = 0;
  frees = λ lt. absurd (omega (arith, lt));
  there = omega arith;
  brings = brought_none 0 c.args.exchanges.now.items c.args.exchanges.now.items c.args.files.now.items c.args.desks.now.items c.args.drive.now refl;
}

pub returns-clause-line : goal.returns-clause-line
returns-clause-line g c = record {
  last = c.window_end-last.result;
  frees = λ lt. (c.window_end-last.ensures.window, omega (arith, c.if-last-first.false));
  there = (let w = c.window_end-last.ensures.within in omega (arith, w, c.len.ensures));
  brings = c.bring_between.ensures;
}
