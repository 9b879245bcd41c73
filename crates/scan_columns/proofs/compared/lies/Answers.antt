use Rattle.std.proofs.Common.{◌≡◌, rules}
use mir.Val.{to_z, of_z}
use mir.Syntax.{w128}
use Rattle.scan_columns.proofs.SideLemmas.{sided_is}
use Rattle.scan_columns.proofs.compared.lies.Goals as goal

pub returns : goal.returns
returns c =
    let back : to_z w128 (of_z w128 c.args.literal) ≡ c.args.literal = search rules in
    let same : to_z w128 (of_z w128 c.args.number.now) ≡ c.args.number.now = search rules in
    rw (back, same) (sided_is c.args.below c.args.above c.args.other c.args.number.now c.args.literal)
