use borrow.Author.Rules.{rules}
use Rattle.std.proofs.Common.{◌≡◌, ◌<◌, length, arith, ap, sym, ◌∙◌}
use Rattle.scan_values.specs.Arrays.{ArrayData}
use Rattle.scan_plans.specs.OffsetReads.{elements_in}
use Rattle.scan_plans.proofs.WholeLists.{rises_order, own_size}
use Rattle.scan_plans.proofs.lists.lists_of.Goals as goal

pub own_elements-requires-clause-some : goal.own_elements-requires-clause-some
own_elements-requires-clause-some c =
    let some : 0 < length c.args.whole.now.cut.offsets.items = omega (arith, c.requires.length) in
    search (rules, some)

pub own_elements-requires-clause-order : goal.own_elements-requires-clause-order
own_elements-requires-clause-order c =
    let order = rises_order c.args.whole.now.cut.offsets.items c.requires.rises in
    search (rules, order)

pub cut_lists-requires-clause-whole : goal.cut_lists-requires-clause-whole
cut_lists-requires-clause-whole c =
    let ns = c.args.whole.now.cut.offsets.items in
    let made : c.in_ok-own.own ≡ elements_in ns c.args.whole.now.rows.first c.args.elements = search (rules, c.in_ok-own.ensures) in
    own_size ns c.args.whole.now.rows.first c.args.elements c.requires.rises c.requires.among.0 c.requires.among.1 ∙ ap (λ (x : ArrayData). length x.items) (sym made)
