use borrow.Author.Rules.{rules}
use Rattle.std.proofs.Common.{◌≡◌, ◌∙◌}
use Rattle.scan_columns.proofs.KernelLemmas.{test_same}
use Rattle.scan_columns.proofs.unary.tested.Goals as goal

pub returns-in_ok-from_slice : goal.returns-in_ok-from_slice
returns-in_ok-from_slice c =
    let copied : c.in_ok-from_slice.field-0.items ≡ c.args.bits.now = search (rules, c.in_ok-from_slice.ensures.items) in
    copied ∙ test_same c.args.want c.args.bits.now c.if-want.true
