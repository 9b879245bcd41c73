use Rattle.std.proofs.Common.{rules, ◌≡◌, ◌+◌, ◌-◌, ◌∷◌, inr, sym, subst, arith, filter}
use Rattle.std.specs.Prelude.{min}
use Rattle.std.proofs.Math.Nat.{min-le_right as min_right}
use Rattle.scan_values.specs.Selections.{numbers}
use Rattle.scan_core.proofs.Cutting.{is_row, AtCut, first_row, first_pushed, next_row, pushed_row}
use Rattle.scan_core.proofs.split_by.every_rows.Goals as goal

pub loop-row-init : goal.loop-row-init
loop-row-init c =
    let n = c.args.n in
    let r = c.args.range.now in
    record {
      low = omega arith;
      high = c.requires.order;
      at = inr (first_row n r);
      made = first_pushed n r c.new-splits.result.items c.push.new.self.items c.requires.order c.new-splits.ensures.items c.in_ok-push.ensures.items;
    }

pub loop-row-preserved : goal.loop-row-preserved
loop-row-preserved c =
    let n = c.args.n in
    let r = c.args.range.now in
    let row = c.loop-row.row in
    let least : c.min-row.result ≡ min n (r.end - row) = search rules in
    let next = next_row n r row c.requires.size c.loop-row.invariant.low c.loop-row-test.true c.loop-row.invariant.at in
    let m = c.min-row.result in
    record {
      low = omega (arith, c.loop-row.invariant.low);
      high = omega (arith, min_right n (r.end - row), least, c.loop-row-test.true);
      at = subst (λ z. AtCut n r (row + z)) (sym least) next.1;
      made = pushed_row n r c.loop-row.splits.items c.push-in-loop-row.new.self.items row m c.loop-row.invariant.made c.in_ok-push-2.ensures.items
          (subst (λ z. filter (is_row n r) (numbers (row + 1) (r.end + 1)) ≡ (row + z) ∷ filter (is_row n r) (numbers (row + z + 1) (r.end + 1))) (sym least) next.0);
    }
