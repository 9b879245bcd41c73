use Rattle.std.proofs.Common.{sym, arith}
use Rattle.scan_values.proofs.MaskLemmas.{limited-all, true_count-limited}
use Rattle.scan_values.proofs.mask.Mask.limit.Goals as goal

pub returns-then-self-n : goal.returns-then-self-n
returns-then-self-n c = rw (← c.self.view_is) (sym (limited-all c.args.n c.self.inside.bits.items (omega (arith, c.self.invariant))))

pub invariant_of-result-2 : goal.invariant_of-result-2
invariant_of-result-2 c = rw c.clear_after.ensures (sym (true_count-limited c.args.n c.self.inside.bits.items (omega (arith, c.self.invariant))))
