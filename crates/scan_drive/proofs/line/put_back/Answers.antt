use Rattle.std.proofs.Common.{◌≡◌, ◌-◌, ◌+◌, ◌<◌, length, subst, sym, arith}
use Rattle.scan_drive.proofs.Restoring.{Undoes, range_of, undoes_more}
use Rattle.scan_drive.proofs.line.put_back.Goals as goal

pub swap-requires-clause-i_in_bounds : goal.swap-requires-clause-i_in_bounds
swap-requires-clause-i_in_bounds g c =
    let lt : c.loop-left.left - 1 < length c.args.exchanges.now.items = omega (arith, c.loop-left.invariant.within, c.loop-left-test.true) in
    let in_range = range_of (length c.args.files.now.items) c.args.exchanges.now.items (c.loop-left.left - 1) c.index.result.now c.requires lt c.index.ensures in
    let first = in_range.0 in
    omega (arith, first, c.loop-left.invariant.long, c.loop-left.files.ok.0)

pub swap-requires-clause-j_in_bounds : goal.swap-requires-clause-j_in_bounds
swap-requires-clause-j_in_bounds g c =
    let lt : c.loop-left.left - 1 < length c.args.exchanges.now.items = omega (arith, c.loop-left.invariant.within, c.loop-left-test.true) in
    let in_range = range_of (length c.args.files.now.items) c.args.exchanges.now.items (c.loop-left.left - 1) c.index.result.now c.requires lt c.index.ensures in
    let second = in_range.1 in
    omega (arith, second, c.loop-left.invariant.long, c.loop-left.files.ok.0)

pub loop-left-preserved : goal.loop-left-preserved
loop-left-preserved g c =
    let lt : c.loop-left.left - 1 < length c.args.exchanges.now.items = omega (arith, c.loop-left.invariant.within, c.loop-left-test.true) in
    let on : c.loop-left.left ≡ c.loop-left.left - 1 + 1 = omega (arith, c.loop-left-test.true) in
    subst (Undoes c.args.exchanges.now.items (c.loop-left.left - 1) c.args.files.now.items) (sym c.swap.ensures.items)
    (undoes_more c.args.exchanges.now.items (c.loop-left.left - 1) c.index.result.now c.args.files.now.items c.loop-left.files.items lt c.index.ensures
    (subst (λ n. Undoes c.args.exchanges.now.items n c.args.files.now.items c.loop-left.files.items) on c.loop-left.invariant))
