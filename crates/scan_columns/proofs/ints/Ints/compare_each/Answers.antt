use Rattle.std.proofs.Common.{rules, ◌≡◌, ◌∙◌, ap, sym, length, map}
use Rattle.std.specs.List.{zip}
use Rattle.std.specs.Ordering.{int_cmp}
use Rattle.scan_values.specs.Masks.{both_true}
use Rattle.scan_values.specs.Val.{bool_val, int_val}
use Rattle.scan_expr.specs.Eval.{holds}
use Rattle.scan_columns.specs.Evaluated.{paired}
use Rattle.scan_columns.specs.Kept.{numbers_in}
use Rattle.scan_columns.specs.Operands.{pair_val}
use Rattle.scan_columns.specs.Typed.{typed}
use Rattle.scan_columns.proofs.KernelLemmas.{compare_pairs, pairs_long}
use Rattle.scan_columns.proofs.TypedLemmas.{typed_length}
use Rattle.scan_columns.proofs.ints.Ints.compare_each.Goals as goal

pub new-requires : goal.new-requires
new-requires c =
    let op = c.args.op in
    let xs = numbers_in c.self.inside.numbers in
    let ys = numbers_in c.other.inside.numbers in
    let bs = c.self.inside.valid.items in
    let cs = c.other.inside.valid.items in
    let values : c.in-Some.values.items ≡ map (λ p. holds op (int_cmp p.0 p.1)) (zip xs ys) = search (rules, c.in_ok-values.ensures, c.in-Some.is) in
    let valid : c.in_ok-valid.valid.items ≡ both_true bs cs = search (rules, c.in_ok-valid.ensures, c.as_slice.ensures.value, c.as_slice-2.ensures.value) in
    let even : length ys ≡ length xs =
    sym (typed_length int_val ys cs c.other.invariant) ∙ ap length c.other.view_is ∙ c.requires.even ∙ sym (ap length c.self.view_is) ∙ typed_length int_val xs bs c.self.invariant in
    ap length valid ∙ pairs_long op xs ys bs cs c.self.invariant c.other.invariant even ∙ ap length (sym values)

pub returns : goal.returns
returns c =
    let op = c.args.op in
    let xs = numbers_in c.self.inside.numbers in
    let ys = numbers_in c.other.inside.numbers in
    let bs = c.self.inside.valid.items in
    let cs = c.other.inside.valid.items in
    let values : c.in-Some.values.items ≡ map (λ p. holds op (int_cmp p.0 p.1)) (zip xs ys) = search (rules, c.in_ok-values.ensures, c.in-Some.is) in
    let valid : c.in_ok-valid.valid.items ≡ both_true bs cs = search (rules, c.in_ok-valid.ensures, c.as_slice.ensures.value, c.as_slice-2.ensures.value) in
    c.new.ensures ∙ (λ i. typed bool_val (values i) (valid i)) ∙ compare_pairs op xs ys bs cs c.requires.compares c.self.invariant c.other.invariant
    ∙ (λ i. paired (pair_val op) (c.self.view_is i) (c.other.view_is i))
