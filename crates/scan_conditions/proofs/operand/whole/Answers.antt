use Rattle.std.proofs.Common.{◌≡◌, ap, arith, pos}
use Rattle.std.proofs.lemmas.Int.{ints}
use mir.Val.{to_z}
use mir.Syntax.{w128}
use Rattle.scan_conditions.specs.Written.{untyped}
use Rattle.scan_conditions.proofs.operand.whole.Goals as goal

pub returns : goal.returns
returns c =
    let same : to_z w128 c.args.number ≡ pos c.args.number = omega (arith, ints) in
    ap untyped same
