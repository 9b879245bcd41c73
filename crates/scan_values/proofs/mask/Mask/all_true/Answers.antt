use Rattle.std.proofs.Common.{◌≡◌, length, arith}
use Rattle.std.proofs.lemmas.Grind.{common_steps}
use Rattle.scan_values.proofs.MaskLemmas.{all_true-count}
use Rattle.scan_values.proofs.mask.Mask.all_true.Goals as goal

pub returns : goal.returns
returns c =
    let long : c.len.result ≡ length c.self.inside.bits.items = grind (arith, common_steps) in
    rw (← c.self.view_is, c.self.invariant, long) (all_true-count c.self.inside.bits.items)
