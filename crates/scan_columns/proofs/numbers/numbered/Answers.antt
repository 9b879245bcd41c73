use borrow.Author.Rules.{rules}
use Rattle.std.proofs.Common.{◌≡◌, ◌+◌, ◌++◌, ◌∷◌, [], false, pos, get_or, length, arith}
use Rattle.std.specs.List.{items_where_true}
use Rattle.scan_values.specs.Val.{int_val}
use Rattle.scan_columns.specs.Numbers.{numbers_from}
use Rattle.scan_columns.proofs.NumberLemmas.{number_step}
use Rattle.scan_columns.proofs.numbers.numbered.Goals as goal

pub loop-i-preserved : goal.loop-i-preserved
loop-i-preserved c =
    let bs = c.args.mask.now in
    let k = c.args.first in
    let i = c.loop-i.i in
    let next : c.in_ok-made.made ≡ c.loop-i.made ++ items_where_true (get_or bs i false ∷ []) (int_val (pos (k + i)) ∷ []) = search (rules, c.in_ok-made.ensures) in
    number_step bs k i c.loop-i.made c.in_ok-made.made (items_where_true bs (numbers_from k (length bs))) (omega (arith, c.loop-i-test.true)) next c.loop-i.invariant
