use Rattle.std.proofs.Common.{◌≡◌, [], ◌∷◌, ◌++◌, ◌∙◌, subst, rules}
use mir.Val.{to_z, of_z}
use mir.Syntax.{w64, w128}
use Rattle.scan_values.specs.Val.{int_val}
use Rattle.scan_groups.specs.Totals.{IsSum}
use Rattle.scan_groups.proofs.sum.Sum.add_far.Goals as goal

pub returns : goal.returns
returns c = λ vs h.
    let back : to_z w128 (of_z w128 c.from.result) ≡ c.from.result = search rules in
    let read : to_z w64 (of_z w64 c.args.n) ≡ c.args.n = search rules in
    subst (λ z. IsSum c.in_ok-self.field-0 (vs ++ int_val z ∷ [])) (back ∙ c.from.ensures ∙ read) (c.in_ok-self.ensures.more vs h)
