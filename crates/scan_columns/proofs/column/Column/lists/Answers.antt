use borrow.Author.Rules.{rules}
use Rattle.std.proofs.Common.{◌≡◌, ◌<◌, ◌^◌, ℕ, List, true, length, ap, sym, subst, ◌∙◌, arith}
use Rattle.scan_values.specs.Val.{Val, vals_of, marked_all}
use Rattle.scan_values.specs.Fits.{fits_all}
use Rattle.scan_columns.specs.Cells.{vals_in}
use Rattle.scan_columns.specs.Typed.{typed}
use Rattle.scan_columns.specs.Nested.{sizes, cuts, list_of}
use Rattle.scan_columns.specs.Parts.{bits_of, AreBits}
use Rattle.scan_columns.proofs.NestedLemmas.{sizes_length}
use Rattle.scan_columns.proofs.PartLemmas.{bits_length, lists_fit}
use Rattle.scan_columns.proofs.column.Column.lists.Goals as goal

pub new-requires-3-clause-even : goal.new-requires-3-clause-even
new-requires-3-clause-even c =
    let v = c.args.validity in
    let d = c.args.dtype.value in
    let ends = c.args.ends.items in
    let n : c.len.result ≡ length ends = omega (arith, c.len.ensures, c.args.ends.ok.0) in
    let valid : c.in_ok-valid.valid.items ≡ bits_of v c.len.result = search (rules, c.in_ok-valid.ensures) in
    let bits : AreBits v c.len.result d = subst (λ (z : ℕ). AreBits v z d) (sym n) c.requires.validity in
    ap length valid ∙ bits_length v c.len.result d bits ∙ n ∙ sym (sizes_length 0 ends) ∙ sym (ap length c.new-2.ensures)

pub of_fitting-requires : goal.of_fitting-requires
of_fitting-requires c =
    let v = c.args.validity in
    let d = c.args.dtype.value in
    let ends = c.args.ends.items in
    let n : c.len.result ≡ length ends = omega (arith, c.len.ensures, c.args.ends.ok.0) in
    let valid : c.in_ok-valid.valid.items ≡ bits_of v c.len.result = search (rules, c.in_ok-valid.ensures) in
    let bits : AreBits v c.len.result d = subst (λ (z : ℕ). AreBits v z d) (sym n) c.requires.validity in
    let es = c.args.elements.items in
    let boxed : c.in_ok-elements.elements.value ≡ c.into_cells.result = search (rules, c.in_ok-elements.ensures.ok) in
    let elements : vals_in c.in_ok-elements.elements.value ≡ es = ap vals_in boxed ∙ c.into_cells.ensures.items in
    let short : length es < 2 ^ 64 = omega (arith, c.len-count.ensures, c.len-count.type_inv) in
    let made : c.new-3.result.items ≡ typed list_of (cuts (sizes 0 ends) es) (bits_of v c.len.result) = c.new-3.ensures ∙ (λ i. typed list_of (cuts (c.new-2.ensures i) (elements i)) (valid i)) in
    subst (λ (vs : List Val). fits_all (marked_all (vals_of vs)) d ≡ true) (sym made)
    (lists_fit v (sizes 0 ends) es d c.args.elements.dtype c.len.result bits c.requires.element short c.into_cells.ensures.fit)
