use borrow.Author.Rules.{rules}
use Rattle.std.proofs.Common.{◌≡◌, map, ap, sym, ◌∙◌}
use Rattle.scan_values.specs.Val.{bool_val, marked}
use Rattle.scan_expr.specs.Eval.{is_nothing}
use Rattle.scan_columns.specs.Cells.{vals_in}
use Rattle.scan_columns.specs.Operands.{test_bit}
use Rattle.scan_columns.proofs.KernelLemmas.{tests_nullable, tests_never}
use Rattle.scan_columns.proofs.unary.null_tests.Goals as goal

pub returns-in_ok-of_bits : goal.returns-in_ok-of_bits
returns-in_ok-of_bits c =
    let want = c.args.want in
    let vs = vals_in c.args.cells.now in
    let made : c.in_ok-of_bits.field-0 ≡ map bool_val c.in_ok-bits.bits.items = search (rules, c.in_ok-of_bits.ensures) in
    let bits : c.in_ok-bits.bits.items ≡ map (test_bit want) c.as_slice.result.now = search (rules, c.in_ok-bits.ensures) in
    let nulls : c.in_ok-nulls.nulls ≡ map (λ v. is_nothing (marked v)) vs = search (rules, c.in_ok-nulls.ensures) in
    made ∙ ap (map bool_val) (bits ∙ ap (map (test_bit want)) (c.as_slice.ensures ∙ nulls)) ∙ tests_nullable want c.args.dtype.now vs (sym c.is_nullable.ensures ∙ c.if-is_nullable.true)

pub returns-else-is_nullable : goal.returns-else-is_nullable
returns-else-is_nullable c = rw (c.new.ensures, c.len.ensures) (tests_never c.args.want c.args.dtype.now (vals_in c.args.cells.now) (sym c.is_nullable.ensures ∙ c.if-is_nullable.false))
