use Rattle.std.proofs.Common.{arith}
use Rattle.std.proofs.lemmas.Grind.{common_steps}
use Rattle.std.proofs.lemmas.Bool.Decides.{nat_tests}
use Rattle.scan_values.proofs.Rising.{is_among-at_rank}
use Rattle.scan_values.proofs.selection.is_at.Goals as goal

pub returns-then-at-items : goal.returns-then-at-items
returns-then-at-items c = grind (arith, common_steps, nat_tests, is_among-at_rank c.args.n c.args.items.now c.requires.rising, c.requires.ranked)

pub returns-else-at-items : goal.returns-else-at-items
returns-else-at-items c = grind (arith, common_steps, nat_tests, is_among-at_rank c.args.n c.args.items.now c.requires.rising, c.requires.ranked)
