use Rattle.std.proofs.Common.{◌≡◌, IfOk, subst}
use Rattle.scan_spelling.proofs.Runs.{flags_within}
use Rattle.scan_spelling.proofs.run.flags_between.Goals as goal

pub returns-in-Two : goal.returns-in-Two
returns-in-Two c =
    subst (λ b. IfOk c.set_bits.result (λ v. v.items ≡ b)) (flags_within c.args.spelling c.args.rows c.args.flags.now c.args.first c.args.end c.in-Two.is c.requires.ordered c.requires.within) c.set_bits.ensures
