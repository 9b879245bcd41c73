use Rattle.std.proofs.Common.{◌≡◌, ◌<◌, ◌-◌, length, take, drop, refl, ap, ◌∙◌, arith}
use Rattle.scan_drive.proofs.Exchanging.{length_exchanged}
use Rattle.scan_drive.proofs.Restoring.{range_of, makes_more, swapped_at, swapped_all, one_on}
use Rattle.scan_drive.specs.Line.{exchanged}
use Rattle.scan_drive.proofs.line.swap_places.Goals as goal

pub loop-k-init : goal.loop-k-init
loop-k-init c = record { from = omega arith; same = ap (λ n. exchanged (take n (drop c.args.from c.args.exchanges.now.items)) c.args.order.now.items) (let z : 0 ≡ c.args.from - c.args.from = omega arith in z) }

pub swap-requires-clause-i_in_bounds : goal.swap-requires-clause-i_in_bounds
swap-requires-clause-i_in_bounds c =
    let log = c.args.exchanges.now.items in
    let s = c.index.result.now in
    let from = c.args.from in
    let k = c.loop-k.k in
    let low = c.loop-k.invariant.from in
    let lt : k < length log = omega (arith, c.loop-k-test.true, c.len-k-end.ensures, c.args.exchanges.now.ok.0) in
    let at = swapped_at log from k s low lt c.index.ensures in
    let first = (range_of (length c.args.order.now.items) (drop from log) (k - from) s c.requires at.0 at.1).0 in
    let long = ap length c.loop-k.invariant.same ∙ length_exchanged (take (k - from) (drop from log)) c.args.order.now.items in
    omega (arith, first, long, c.loop-k.order.ok.0)

pub swap-requires-clause-j_in_bounds : goal.swap-requires-clause-j_in_bounds
swap-requires-clause-j_in_bounds c =
    let log = c.args.exchanges.now.items in
    let s = c.index.result.now in
    let from = c.args.from in
    let k = c.loop-k.k in
    let low = c.loop-k.invariant.from in
    let lt : k < length log = omega (arith, c.loop-k-test.true, c.len-k-end.ensures, c.args.exchanges.now.ok.0) in
    let at = swapped_at log from k s low lt c.index.ensures in
    let second = (range_of (length c.args.order.now.items) (drop from log) (k - from) s c.requires at.0 at.1).1 in
    let long = ap length c.loop-k.invariant.same ∙ length_exchanged (take (k - from) (drop from log)) c.args.order.now.items in
    omega (arith, second, long, c.loop-k.order.ok.0)

pub loop-k-preserved : goal.loop-k-preserved
loop-k-preserved c =
    let log = c.args.exchanges.now.items in
    let s = c.index.result.now in
    let from = c.args.from in
    let k = c.loop-k.k in
    let low = c.loop-k.invariant.from in
    let lt : k < length log = omega (arith, c.loop-k-test.true, c.len-k-end.ensures, c.args.exchanges.now.ok.0) in
    let at = swapped_at log from k s low lt c.index.ensures in
    record {
      from = omega (arith, low);
      same =
          c.swap.ensures.items ∙ makes_more (drop from log) (k - from) s c.args.order.now.items c.loop-k.order.items at.0 at.1 c.loop-k.invariant.same
          ∙ ap (λ n. exchanged (take n (drop from log)) c.args.order.now.items) (one_on from k low);
    }

pub returns : goal.returns
returns c = c.loop-k.invariant.same ∙ ap (λ ss. exchanged ss c.args.order.now.items) (swapped_all c.args.exchanges.now.items c.args.from c.loop-k.k (omega (arith, c.loop-k-test.false, c.len-k-end.ensures, c.args.exchanges.now.ok.0)))
