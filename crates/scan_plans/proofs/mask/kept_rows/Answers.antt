use Rattle.std.proofs.Common.{◌≡◌, ◌∙◌, sym, map}
use Rattle.std.proofs.lemmas.List.{length-map}
use Rattle.scan_values.specs.Marked.{is_true}
use Rattle.scan_values.specs.Val.{Val, marked}
use Rattle.scan_values.proofs.AllTrue.{by_rank-all}
use Rattle.scan_plans.proofs.mask.kept_rows.Goals as goal

pub returns-then-all_true : goal.returns-then-all_true
returns-then-all_true c =
    let items = c.args.column.now.items in
    c.in_ok-truths.ensures ∙ sym (by_rank-all c.args.mask.now (map (λ (v : Val). is_true (marked v)) items) (sym c.all_true.ensures ∙ c.if-all_true.true) (length-map items (λ (v : Val). is_true (marked v)) ∙ c.requires.length))
