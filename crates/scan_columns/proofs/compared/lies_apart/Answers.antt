use Rattle.std.proofs.Common.{◌≡◌, rules}
use mir.Val.{to_z, of_z}
use mir.Syntax.{w64}
use Rattle.scan_columns.proofs.SideLemmas.{sided_is}
use Rattle.scan_columns.proofs.compared.lies_apart.Goals as goal

pub returns : goal.returns
returns c =
    let first : to_z w64 (of_z w64 c.args.number) ≡ c.args.number = search rules in
    let second : to_z w64 (of_z w64 c.args.other) ≡ c.args.other = search rules in
    rw (first, second) (sided_is c.args.sides.below c.args.sides.above c.args.sides.other c.args.number c.args.other)
