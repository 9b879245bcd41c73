use borrow.Author.Rules.{rules}
use Rattle.std.proofs.Common.{◌≡◌, ◌+◌, ◌++◌, ◌∷◌, [], false, get_or, length, take, drop, slice_range, arith}
use Rattle.std.specs.List.{items_where_true}
use Rattle.scan_columns.proofs.LeafLemmas.{leaf_step}
use Rattle.scan_columns.proofs.leaf.ints_by_row.Goals as goal

pub loop-i-preserved : goal.loop-i-preserved
loop-i-preserved c =
    let vs = c.args.leaf.now.items in
    let bs = c.args.mask.now in
    let n = c.args.first in
    let i = c.loop-i.i in
    let next : c.in_ok-made.made ≡ c.loop-i.made ++ items_where_true (get_or bs i false ∷ []) (take 1 (drop (n + i) vs)) = search (rules, c.in_ok-made.ensures) in
    leaf_step vs bs n i c.loop-i.made c.in_ok-made.made (c.args.ints ++ items_where_true bs (slice_range vs n (n + length bs))) (omega (arith, c.loop-i-test.true)) c.requires.within next c.loop-i.invariant
