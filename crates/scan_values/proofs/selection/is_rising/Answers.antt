use Rattle.std.proofs.Common.{◌-◌, drop, sym, ◌∙◌, length-drop, arith}
use Rattle.scan_values.proofs.Rising.{is_rising-short}
use Rattle.scan_values.proofs.selection.is_rising.Goals as goal

pub returns : goal.returns
returns c =
    let left = length-drop (c.loop-i.i - 1) c.args.v.now in
    sym (c.loop-i.invariant ∙ is_rising-short (drop (c.loop-i.i - 1) c.args.v.now) (omega (arith, left)))
