use Rattle.std.proofs.Common.{◌≡◌, ◌++◌, ◌-◌, List, length, map, sym, subst, rules}
use Rattle.std.specs.Prelude.{replicate}
use Rattle.scan_values.specs.Val.{Val, int_val}
use Rattle.scan_groups.specs.Totals.{Adds, IsSumOf, no_sum}
use Rattle.scan_groups.proofs.Added.{adds_grown}
use Rattle.scan_groups.proofs.all_sums.Sums.with_numbers.Goals as goal

pub returns-in-Some-clause-more : goal.returns-in-Some-clause-more
returns-in-Some-clause-more c =
    let ss = c.self.inside.sums.items in
    let same : ss ≡ c.args.self = search (rules, c.self.view_is) in
    let n = c.args.groups - length ss in
    let ps = c.args.places.now in
    let vs : List Val = map int_val c.args.numbers.now in
    let made = c.sum_short-sums.result.items in
    let grown : c.in_ok-sums.sums.items ≡ ss ++ replicate n no_sum = subst (λ s. c.in_ok-sums.sums.items ≡ ss ++ replicate n s) c.none.ensures c.in_ok-sums.ensures in
    subst (λ os. Adds IsSumOf no_sum ps vs os c.made.result) same (subst (Adds IsSumOf no_sum ps vs ss) (sym c.made.ensures)
    (adds_grown IsSumOf no_sum ps vs ss made n (subst (λ ys. Adds IsSumOf no_sum ps vs ys made) grown c.sum_short-sums.ensures.more)))

pub returns-in_ok-sum_numbers-in-None-clause-more : goal.returns-in_ok-sum_numbers-in-None-clause-more
returns-in_ok-sum_numbers-in-None-clause-more c =
    let ss = c.self.inside.sums.items in
    let same : ss ≡ c.args.self = search (rules, c.self.view_is) in
    let n = c.args.groups - length ss in
    let ps = c.args.places.now in
    let vs : List Val = map int_val c.args.numbers.now in
    let made = c.in_ok-sum_numbers-in-None.field-0.items in
    let grown : c.in_ok-sums.sums.items ≡ ss ++ replicate n no_sum = subst (λ s. c.in_ok-sums.sums.items ≡ ss ++ replicate n s) c.none.ensures c.in_ok-sums.ensures in
    subst (λ os. Adds IsSumOf no_sum ps vs os c.made-in-None.result) same (subst (Adds IsSumOf no_sum ps vs ss) (sym c.made-in-None.ensures)
    (adds_grown IsSumOf no_sum ps vs ss made n (subst (λ ys. Adds IsSumOf no_sum ps vs ys made) grown c.in_ok-sum_numbers-in-None.ensures.more)))
