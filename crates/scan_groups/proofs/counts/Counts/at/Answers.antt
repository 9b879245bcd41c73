use Rattle.std.proofs.Common.{◌≡◌, get_or, sym, ap, ◌∙◌, rules}
use Rattle.std.proofs.lemmas.List.{get_or_default}
use Rattle.scan_groups.proofs.Totalling.{past_end}
use Rattle.scan_groups.proofs.counts.Counts.at.Goals as goal

pub returns-in-Some : goal.returns-in-Some
returns-in-Some c =
    let same : c.self.inside.counts.items ≡ c.args.self.now = search (rules, c.self.view_is) in
    let l = c.in-Some.ensures.lookup in
    l.1 ∙ get_or_default c.deref.result.now c.args.place c.in-Some.count.now 0 l.3.0 ∙ ap (λ ns. get_or ns c.args.place 0) (c.deref.ensures.value ∙ same)

pub returns-in-None : goal.returns-in-None
returns-in-None c =
    let same : c.self.inside.counts.items ≡ c.args.self.now = search (rules, c.self.view_is) in
    sym (past_end c.deref.result.now c.args.place 0 c.in-None.ensures.lookup.3) ∙ ap (λ ns. get_or ns c.args.place 0) (c.deref.ensures.value ∙ same)
