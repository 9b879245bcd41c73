use Rattle.std.proofs.Common.{◌≡◌, ◌∙◌, ap, rules}
use mir.Val.{to_z, of_z}
use mir.Syntax.{w128}
use Rattle.scan_run.specs.Totals.{added}
use Rattle.scan_run.proofs.Adding.{numbers_added}
use Rattle.scan_run.proofs.generate.totals.with_numbers.Goals as goal

pub returns : goal.returns
returns c = λ values have.
    let ids : to_z w128 (of_z w128 c.in_ok-ids.ids) ≡ c.in_ok-ids.ids = search rules in
    let lengths : to_z w128 (of_z w128 c.in_ok-lengths.lengths) ≡ c.in_ok-lengths.lengths = search rules in
    let old_ids : to_z w128 (of_z w128 c.args.totals.ids) ≡ c.args.totals.ids = search rules in
    let old_lengths : to_z w128 (of_z w128 c.args.totals.lengths) ≡ c.args.totals.lengths = search rules in
    numbers_added c.args.totals c.args.ids.now c.args.lengths.now _ _ _ values have (search rules)
    (ids ∙ c.in_ok-ids.ensures ∙ ap (λ z. added z c.args.ids.now) old_ids)
    (lengths ∙ c.in_ok-lengths.ensures ∙ ap (λ z. added z c.args.lengths.now) old_lengths)
