use Rattle.std.proofs.Common.{◌+◌, ◌*◌, ◌++◌, ◌==◌, ◌<◌, true, map, refl, ap, arith, rules}
use Rattle.std.proofs.Math.ListN.{drop_of_length-le}
use Rattle.scan_values.specs.Val.{vals_of, val_size, vals_size}
use Rattle.scan_values.specs.Values.{val_of}
use Rattle.scan_values.specs.Shown.{comma, shown_val, shown_vals}
use Rattle.scan_values.proofs.Left.{begun, goes_on, ended}
use Rattle.scan_values.proofs.Showing.{next_value}
use Rattle.scan_values.proofs.shown.+show_values.Goals as goal

pub show_values-show_item-requires : goal.show_values-show_item-requires
show_values-show_item-requires g t c =
    let e = (next_value c.args.values.now c.loop-i.i c.index-values-i.result (omega arith) c.index-values-i.is).0 in
    let smaller : 4 * val_size (val_of c.index-values-i.result) + 1 < 4 * vals_size (vals_of (map val_of c.args.values.now)) + 2 = omega (arith, e) in
    search rules

pub show_values-loop-i-init : goal.show_values-loop-i-init
show_values-loop-i-init g t c = λ p. begun g.W.Write.write_str_gives _ _ p

pub show_values-loop-i-preserved : goal.show_values-loop-i-preserved
show_values-loop-i-preserved g t c =
    λ p.
    let so_far = c.loop-i.invariant p in
    goes_on g.W.Write.write_str_gives _ _ _ _ (comma (c.loop-i.i == 0) ++ shown_val (val_of c.index-values-i.result)) _ _
    (next_value c.args.values.now c.loop-i.i c.index-values-i.result (omega arith) c.index-values-i.is).1
    so_far (c.in_ok-show_item.ensures so_far.wrote.plain (refl {a = true}))

pub show_values-returns : goal.show_values-returns
show_values-returns g t c =
    λ p ok.
    ended g.W.Write.write_str_gives _ _ _ _
    (ap (λ vs. shown_vals (c.loop-i.i == 0) (vals_of (map val_of vs))) (drop_of_length-le c.args.values.now (omega arith)))
    (c.loop-i.invariant p)
