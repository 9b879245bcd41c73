use Rattle.std.proofs.Common.{◌≡◌, pos, map, arith, ap}
use Rattle.std.proofs.lemmas.Int.{ints}
use mir.Val.{to_z}
use mir.Syntax.{w128}
use Rattle.scan_values.specs.Values.{val_of}
use Rattle.scan_values.specs.Val.{int_val}
use Rattle.scan_columns.proofs.ListLemmas.{map_pushed}
use Rattle.scan_columns.proofs.RowLemmas.{range_step}
use Rattle.scan_columns.proofs.rows.numbers.Goals as goal

pub loop-i-preserved : goal.loop-i-preserved
loop-i-preserved c =
    let k = c.loop-i.i in
    let same : to_z w128 k ≡ pos k = omega (arith, ints) in
    range_step (λ r. int_val (pos r)) k (map val_of c.loop-i.items.items) (map val_of c.push.new.self.items) (int_val (to_z w128 k))
    (rw (c.in_ok-push.ensures.items) (map_pushed val_of c.loop-i.items.items _)) (ap int_val same) c.loop-i.invariant
