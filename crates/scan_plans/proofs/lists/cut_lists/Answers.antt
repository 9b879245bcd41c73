use borrow.Author.Rules.{rules}
use Rattle.std.proofs.Common.{◌≡◌, ◌<◌, true, length, arith, ap, sym, ◌∙◌}
use Rattle.std.specs.List.{items_where_true, list_all}
use Rattle.scan_values.specs.Arrays.{ArrayData, of_parts}
use Rattle.scan_columns.specs.Nested.{sums}
use Rattle.scan_columns.proofs.NestedLemmas.{rises_sums, sizes_sums}
use Rattle.scan_plans.specs.ListItems.{sizes_in}
use Rattle.scan_plans.proofs.ListCells.{opened_rises, opened_sizes, cut_long, lists_made}
use Rattle.scan_plans.proofs.WholeLists.{all_kept}
use Rattle.scan_plans.proofs.lists.cut_lists.Goals as goal

pub rebased-requires : goal.rebased-requires
rebased-requires c =
    let some : 0 < length c.args.cut.now.offsets.items = omega (arith, c.requires.length) in
    search (rules, opened_rises c.args.cut.now.offsets.items some c.requires.rises)

pub lists-requires-clause-rises : goal.lists-requires-clause-rises
lists-requires-clause-rises c =
    let some : 0 < length c.args.cut.now.offsets.items = omega (arith, c.requires.length) in
    let made : c.in_ok-ends.ends.items ≡ sums 0 (sizes_in c.args.cut.now.offsets.items) = search (rules, c.in_ok-ends.ensures, opened_sizes c.args.cut.now.offsets.items some) in
    rw made (rises_sums 0 (sizes_in c.args.cut.now.offsets.items))

pub lists-requires-clause-whole : goal.lists-requires-clause-whole
lists-requires-clause-whole c =
    let some : 0 < length c.args.cut.now.offsets.items = omega (arith, c.requires.length) in
    let made : c.in_ok-ends.ends.items ≡ sums 0 (sizes_in c.args.cut.now.offsets.items) = search (rules, c.in_ok-ends.ensures, opened_sizes c.args.cut.now.offsets.items some) in
    rw (made, sizes_sums 0 (sizes_in c.args.cut.now.offsets.items)) c.requires.whole

pub returns-then-all_true : goal.returns-then-all_true
returns-then-all_true c =
    let xs = c.args.cut.now.offsets.items in
    let n = length c.args.cut.now.mask in
    let some : 0 < length xs = omega (arith, c.requires.length) in
    let made : c.in_ok-ends.ends.items ≡ sums 0 (sizes_in xs) = search (rules, c.in_ok-ends.ensures, opened_sizes xs some) in
    let whole = lists_made c.args.dtype.now.value xs c.in_ok-ends.ends.items n c.args.elements.items c.in_ok-column.column c.requires.length made (search (rules, c.in_ok-column.ensures, c.in_ok-clone.ensures)) in
    let all : list_all (λ b. b) c.args.cut.now.mask ≡ true = sym c.all_true.ensures ∙ c.if-all_true.true in
    whole ∙ ap (of_parts c.args.dtype.now.value) (all_kept c.args.cut.now.mask _ all (cut_long xs n c.args.elements.items c.requires.length))

pub filter-requires : goal.filter-requires
filter-requires c =
    let xs = c.args.cut.now.offsets.items in
    let n = length c.args.cut.now.mask in
    let some : 0 < length xs = omega (arith, c.requires.length) in
    let made : c.in_ok-ends.ends.items ≡ sums 0 (sizes_in xs) = search (rules, c.in_ok-ends.ensures, opened_sizes xs some) in
    let whole = lists_made c.args.dtype.now.value xs c.in_ok-ends.ends.items n c.args.elements.items c.in_ok-column.column c.requires.length made (search (rules, c.in_ok-column.ensures, c.in_ok-clone.ensures)) in
    sym (ap (λ (x : ArrayData). length x.items) whole ∙ cut_long xs n c.args.elements.items c.requires.length)

pub returns : goal.returns
returns c =
    let xs = c.args.cut.now.offsets.items in
    let n = length c.args.cut.now.mask in
    let some : 0 < length xs = omega (arith, c.requires.length) in
    let made : c.in_ok-ends.ends.items ≡ sums 0 (sizes_in xs) = search (rules, c.in_ok-ends.ensures, c.index.ensures, c.deref.ensures, opened_sizes xs some) in
    let whole = lists_made c.args.dtype.now.value xs c.in_ok-ends.ends.items n c.args.elements.items c.in_ok-column.column c.requires.length made (search (rules, c.in_ok-column.ensures, c.in_ok-clone.ensures)) in
    c.in_ok-filter.ensures ∙ ap (λ (x : ArrayData). of_parts x.dtype (items_where_true c.args.cut.now.mask x.items)) whole
