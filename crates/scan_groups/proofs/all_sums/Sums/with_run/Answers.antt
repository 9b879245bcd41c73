use Rattle.std.proofs.Common.{sym, ap, ◌∙◌, subst}
use Rattle.std.specs.Prelude.{IfOk}
use Rattle.scan_groups.specs.Cells.{run_vals}
use Rattle.scan_groups.specs.Totals.{Adds, IsSumOf, no_sum}
use Rattle.scan_groups.proofs.Runs.{numbers_long}
use Rattle.scan_groups.proofs.all_sums.Sums.with_run.Goals as goal

pub with_numbers-requires-clause-even : goal.with_numbers-requires-clause-even
with_numbers-requires-clause-even c = numbers_long c.args.run c.in-Numbers.numbers c.in-Numbers.is ∙ c.requires.even

pub returns-in-Numbers-clause-more : goal.returns-in-Numbers-clause-more
returns-in-Numbers-clause-more c = subst (λ us. IfOk c.with_numbers.result (Adds IsSumOf no_sum c.args.places.now us c.args.self)) (ap run_vals (sym c.in-Numbers.is)) c.with_numbers.ensures.more
