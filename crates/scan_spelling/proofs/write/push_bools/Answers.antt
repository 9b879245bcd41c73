use Rattle.std.proofs.Common.{◌∙◌, ◌++◌, ap}
use Rattle.scan_spelling.specs.Written.{gathered}
use Rattle.scan_spelling.proofs.Gathering.{bools_are}
use Rattle.scan_spelling.proofs.write.push_bools.Goals as goal

pub returns-in-Ok-clause-written : goal.returns-in-Ok-clause-written
returns-in-Ok-clause-written c = c.in-Ok.ensures ∙ ap (λ bits. c.args.out.now.items ++ gathered bits) (bools_are c.args.items.now c.requires)
