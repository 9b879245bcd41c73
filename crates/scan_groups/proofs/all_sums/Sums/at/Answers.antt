use Rattle.std.proofs.Common.{◌≡◌, get_or, sym, ap, ◌∙◌, rules}
use Rattle.std.proofs.lemmas.List.{get_or_default}
use Rattle.scan_groups.specs.Totals.{no_sum}
use Rattle.scan_groups.proofs.Totalling.{past_end}
use Rattle.scan_groups.proofs.all_sums.Sums.at.Goals as goal

pub returns-in-Some : goal.returns-in-Some
returns-in-Some c =
    let same : c.self.inside.sums.items ≡ c.args.self.now = search (rules, c.self.view_is) in
    let l = c.in-Some.ensures.lookup in
    l.1 ∙ get_or_default c.deref.result.now c.args.place c.in-Some.sum.now no_sum l.3.0 ∙ ap (λ ss. get_or ss c.args.place no_sum) (c.deref.ensures.value ∙ same)

pub returns-in-None : goal.returns-in-None
returns-in-None c =
    let same : c.self.inside.sums.items ≡ c.args.self.now = search (rules, c.self.view_is) in
    c.none.ensures ∙ sym (past_end c.deref.result.now c.args.place no_sum c.in-None.ensures.lookup.3) ∙ ap (λ ss. get_or ss c.args.place no_sum) (c.deref.ensures.value ∙ same)
