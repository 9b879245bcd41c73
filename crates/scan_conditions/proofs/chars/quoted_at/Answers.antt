use Rattle.std.proofs.Common.{◌<◌, length, arith}
use Rattle.scan_conditions.proofs.chars.quoted_at.Goals as goal

pub returns-then-not-is_at : goal.returns-then-not-is_at
returns-then-not-is_at c =
    let begun : c.args.at < c.quoted.end = c.quoted.invariant in
    let within : c.quoted.end < length c.args.chars.now = c.in-Some.ensures in
    (omega (arith, begun), omega (arith, within))
