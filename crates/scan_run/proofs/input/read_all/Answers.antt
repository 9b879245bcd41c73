use Rattle.std.proofs.Common.{arith}
use Rattle.scan_run.proofs.Pieces.{nothing_came, all_came}
use Rattle.scan_run.proofs.input.read_all.Goals as goal

pub reading-init : goal.reading-init
reading-init g c = rw c.new-bytes.ensures.items (nothing_came (g.I.Input.input c.args.input.now), omega arith)

pub returns-in-End-clause-ok : goal.returns-in-End-clause-ok
returns-in-End-clause-ok g c = record {
  read = let e = c.in-End.ensures.ends.least in let k = c.reading.invariant.0.ends in omega arith;
  all = all_came _ _ _ c.reading.invariant.0.left c.in-End.ensures.empty;
  taken = rw c.in-End.ensures.taken c.reading.invariant.0.taken;
}
