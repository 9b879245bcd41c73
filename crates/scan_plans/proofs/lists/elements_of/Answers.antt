use borrow.Author.Rules.{rules}
use Rattle.std.proofs.Common.{◌≡◌, ◌-◌, replicate, true, arith, ap, ◌∙◌, get_or, length}
use Rattle.scan_plans.specs.ListItems.{first_in, last_in}
use Rattle.scan_plans.proofs.ListCells.{first_is, last_is, in_order}
use Rattle.scan_plans.proofs.lists.elements_of.Goals as goal

pub overflow_sub-last-2 : goal.overflow_sub-last-2
overflow_sub-last-2 c =
    let xs = c.args.offsets.now in
    let f = first_is xs c.requires.some in
    let l = last_is xs c.requires.some in
    let o = in_order c.args.most xs c.requires.some c.requires.climbs in
    omega (arith, f, l, o.0)

pub returns : goal.returns
returns c =
    let xs = c.args.offsets.now in
    let f = first_is xs c.requires.some in
    let l = last_is xs c.requires.some in
    let made : c.in_ok-mask.mask ≡ replicate (get_or xs (length xs - 1) 0 - get_or xs 0 0) true = search (rules, c.in_ok-mask.ensures) in
    let n : get_or xs (length xs - 1) 0 - get_or xs 0 0 ≡ last_in xs - first_in xs = omega (arith, f, l) in
    (f, made ∙ ap (λ m. replicate m true) n)
