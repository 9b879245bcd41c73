use Rattle.std.proofs.Common.{◌-◌, arith}
use Rattle.std.proofs.lemmas.Grind.{common_steps}
use Rattle.scan_values.proofs.MaskLemmas.{last_true-take}
use Rattle.scan_values.proofs.mask.Mask.last.Goals as goal

pub returns-then-index : goal.returns-then-index
returns-then-index c = rw (← c.self.view_is) (grind (arith, common_steps, c.loop-end.invariant.same, last_true-take c.self.inside.bits.items (c.loop-end.end - 1) (omega (arith, c.loop-end.invariant.within))))

pub loop-end-preserved : goal.loop-end-preserved
loop-end-preserved c =
    record {
      within = omega (arith, c.loop-end.invariant.within);
      same = grind (arith, common_steps, c.loop-end.invariant.same, last_true-take c.self.inside.bits.items (c.loop-end.end - 1) (omega (arith, c.loop-end.invariant.within)));
    }
