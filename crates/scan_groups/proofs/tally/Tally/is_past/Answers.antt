use Rattle.std.proofs.Common.{not, sym, ap, ◌∙◌}
use Rattle.scan_groups.specs.Rows.{is_in_range}
use Rattle.scan_groups.specs.Totals.{is_past, netted}
use Rattle.scan_groups.proofs.Grouping.{past_test}
use Rattle.scan_groups.proofs.tally.Tally.is_past.Goals as goal

pub returns-in-Sum : goal.returns-in-Sum
returns-in-Sum c =
    past_test (netted c.at.result) c.value.result c.is_none.result c.value.ensures c.is_none.ensures
    ∙ ap (λ s. not (is_in_range (netted s))) c.at.ensures ∙ ap (is_past c.args.place) (sym c.in-Sum.is)
