use borrow.Author.Rules.{rules}
use Rattle.std.proofs.Common.{◌≡◌, length, ap, sym, ◌∙◌}
use Rattle.scan_values.specs.Masks.{both_true}
use Rattle.scan_columns.specs.Cells.{vals_in}
use Rattle.scan_columns.specs.Nested.{Deep}
use Rattle.scan_columns.proofs.TypedLemmas.{both_lengths}
use Rattle.scan_columns.proofs.NestedLemmas.{lists_length}
use Rattle.scan_columns.proofs.cells.Lists.mask.Goals as goal

pub new-requires-2-clause-even : goal.new-requires-2-clause-even
new-requires-2-clause-even c =
    let ns = c.self.inside.ends in
    let bs = c.self.inside.valid.items in
    let count : length c.args.self.now.items ≡ length ns = ap (λ (d : Deep). length d.items) (sym c.self.view_is) ∙ lists_length ns (vals_in c.self.inside.elements.value) bs c.self.invariant.0 in
    let bits : c.in_ok-valid.valid.items ≡ both_true bs c.args.m.now = search (rules, c.in_ok-valid.ensures) in
    let ends : c.in_ok-ends.ends ≡ ns = search (rules, c.in_ok-ends.ensures) in
    ap length bits ∙ both_lengths bs c.args.m.now (c.requires ∙ count ∙ sym c.self.invariant.0) ∙ c.self.invariant.0 ∙ ap length (sym (c.ends.view_is ∙ ends))
