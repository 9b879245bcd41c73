use Rattle.std.proofs.Common.{sym, ◌∙◌}
use Rattle.std.proofs.lemmas.List.{get_or_default}
use Rattle.scan_groups.proofs.Totalling.{past_end}
use Rattle.scan_groups.proofs.tally.count_at.Goals as goal

pub returns-in-Some : goal.returns-in-Some
returns-in-Some c = let l = c.in-Some.ensures.lookup in l.1 ∙ get_or_default c.args.counts.now c.args.place c.in-Some.count.now 0 l.3.0

pub returns-in-None : goal.returns-in-None
returns-in-None c = sym (past_end c.args.counts.now c.args.place 0 c.in-None.ensures.lookup.3)
