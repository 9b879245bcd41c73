use Rattle.std.proofs.Common.{◌≡◌, ◌+◌, ◌-◌, Bool, true, false, cond, refl, sym, arith}
use mir.Val.{bool_byte}
use Rattle.std.proofs.lemmas.List.FromFn.{map-range_with_len_more}
use Rattle.std.proofs.lemmas.Grind.{common_steps}
use Rattle.scan_values.specs.Selections.{is_among}
use Rattle.scan_values.proofs.Rising.{rank-next}
use Rattle.scan_values.proofs.selection.StrictSorted.marks.Goals as goal

bool_byte-is : (b : Bool) → bool_byte b ≡ cond b 1 0
bool_byte-is true = refl
bool_byte-is false = refl

pub loop-n-preserved : goal.loop-n-preserved
loop-n-preserved c =
    let items = c.as_slice-items.result.now in
    let next = rank-next c.loop-n.n items (rw c.as_slice-items.ensures.items c.as_slice-items.ensures.rising) in
    let more = map-range_with_len_more (is_among items) c.args.r.now.start (c.loop-n.n - c.args.r.now.start) c.loop-n.n (omega (arith, c.loop-n.auto.n)) in
    let long : c.loop-n.n - c.args.r.now.start + 1 ≡ c.loop-n.n + 1 - c.args.r.now.start = omega (arith, c.loop-n.auto.n) in
    record {
      ranked = rw (bool_byte-is, c.is_at-is_here.ensures, c.loop-n.invariant.ranked) (sym next);
      same = rw (← long, more, ← c.is_at-is_here.ensures, ← c.loop-n.invariant.same) (grind (arith, common_steps));
    }
