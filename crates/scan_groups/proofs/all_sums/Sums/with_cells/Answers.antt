use Rattle.std.proofs.Common.{◌≡◌, ◌++◌, ◌-◌, length, sym, subst, rules}
use Rattle.std.specs.Prelude.{replicate}
use Rattle.scan_groups.specs.Cells.{run_vals}
use Rattle.scan_groups.specs.Totals.{Adds, IsSumOf, no_sum}
use Rattle.scan_groups.proofs.Added.{adds_grown}
use Rattle.scan_groups.proofs.all_sums.Sums.with_cells.Goals as goal

pub returns-clause-more : goal.returns-clause-more
returns-clause-more c =
    let ss = c.self.inside.sums.items in
    let same : ss ≡ c.args.self = search (rules, c.self.view_is) in
    let n = c.args.groups - length ss in
    let ps = c.args.places.now in
    let vs = run_vals c.args.run in
    let made = c.in_ok-sums.sums.items in
    let grown : c.in_ok-grown.field-0.items ≡ ss ++ replicate n no_sum = subst (λ s. c.in_ok-grown.field-0.items ≡ ss ++ replicate n s) c.none.ensures c.in_ok-grown.ensures in
    subst (λ os. Adds IsSumOf no_sum ps vs os c.made.result) same (subst (Adds IsSumOf no_sum ps vs ss) (sym c.made.ensures)
    (adds_grown IsSumOf no_sum ps vs ss made n (subst (λ ys. Adds IsSumOf no_sum ps vs ys made) grown c.in_ok-sums.ensures.more)))
