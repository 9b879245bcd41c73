use Rattle.std.proofs.Common.{◌≡◌, ◌-◌, ℕ, IfOk, get_or, arith, subst}
use Rattle.std.specs.Prelude.{slice_range}
use Rattle.scan_values.specs.Arrays.{of_parts}
use Rattle.scan_plans.specs.ListItems.{last_in}
use Rattle.scan_plans.proofs.ListCells.{first_is, last_is}
use Rattle.scan_plans.proofs.WholeLists.{all_in}
use Rattle.scan_plans.proofs.lists.own_elements.Goals as goal

pub overflow_sub-end-2 : goal.overflow_sub-end-2
overflow_sub-end-2 c =
    let xs = c.args.offsets.now in
    let f = first_is xs c.requires.some in
    let l = last_is xs c.requires.some in
    omega (arith, f, l, c.requires.order, c.requires.begins)

pub overflow_sub-end-3 : goal.overflow_sub-end-3
overflow_sub-end-3 c =
    let xs = c.args.offsets.now in
    let f = first_is xs c.requires.some in
    let l = last_is xs c.requires.some in
    omega (arith, f, l, c.requires.order, c.requires.begins)

pub returns-then-end-start : goal.returns-then-end-start
returns-then-end-start c =
    let xs = c.args.offsets.now in
    let f = first_is xs c.requires.some in
    let l = last_is xs c.requires.some in
    all_in xs c.args.first c.args.elements c.requires.begins c.requires.order c.requires.ends (omega (arith, f, l, c.if-end-start.true, c.len.ensures))

pub slice-requires-clause-ordered : goal.slice-requires-clause-ordered
slice-requires-clause-ordered c =
    let xs = c.args.offsets.now in
    let f = first_is xs c.requires.some in
    let l = last_is xs c.requires.some in
    omega (arith, f, l, c.requires.order, c.requires.begins)

pub slice-requires-clause-within : goal.slice-requires-clause-within
slice-requires-clause-within c =
    let l = last_is c.args.offsets.now c.requires.some in
    omega (arith, l, c.requires.ends)

pub returns : goal.returns
returns c =
    let xs = c.args.offsets.now in
    let k = c.args.first in
    let a = c.args.elements in
    let f = first_is xs c.requires.some in
    let l = last_is xs c.requires.some in
    subst (λ (m : ℕ). IfOk c.slice.result (λ x. x ≡ of_parts a.dtype (slice_range a.items (m - k) (last_in xs - k)))) f
    (subst (λ (n : ℕ). IfOk c.slice.result (λ x. x ≡ of_parts a.dtype (slice_range a.items (get_or xs 0 0 - k) (n - k)))) l c.slice.ensures)
