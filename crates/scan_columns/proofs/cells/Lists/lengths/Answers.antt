use borrow.Author.Rules.{rules}
use Rattle.std.proofs.Common.{◌≡◌, length, map, pos, ap, sym, ◌∙◌}
use Rattle.std.proofs.lemmas.List.{length-map}
use Rattle.scan_values.specs.Val.{int_val}
use Rattle.scan_columns.specs.Cells.{vals_in}
use Rattle.scan_columns.specs.Operands.{length_val}
use Rattle.scan_columns.specs.Kept.{numbers_in}
use Rattle.scan_columns.specs.Typed.{typed}
use Rattle.scan_columns.proofs.StructLemmas.{lists_lengths}
use Rattle.scan_columns.proofs.cells.Lists.lengths.Goals as goal

pub new-requires : goal.new-requires
new-requires c =
    let ns = c.self.inside.ends in
    let counts : numbers_in c.in_ok-counts.counts ≡ map pos ns = search (rules, c.in_ok-counts.ensures) in
    let valid : c.in_ok-valid.valid.items ≡ c.self.inside.valid.items = search (rules, c.in_ok-valid.ensures.items, c.as_slice.ensures.value) in
    ap length valid ∙ c.self.invariant.0 ∙ sym (length-map ns pos) ∙ ap length (sym counts)

pub returns : goal.returns
returns c =
    let ns = c.self.inside.ends in
    let bs = c.self.inside.valid.items in
    let es = vals_in c.self.inside.elements.value in
    let counts : numbers_in c.in_ok-counts.counts ≡ map pos ns = search (rules, c.in_ok-counts.ensures) in
    let valid : c.in_ok-valid.valid.items ≡ bs = search (rules, c.in_ok-valid.ensures.items, c.as_slice.ensures.value) in
    c.new.ensures ∙ (λ i. typed int_val (counts i) (valid i)) ∙ lists_lengths ns es bs c.self.invariant.1 ∙ (λ i. map length_val (c.self.view_is i).items)
