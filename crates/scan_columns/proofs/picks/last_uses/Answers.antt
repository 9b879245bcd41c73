use Rattle.std.proofs.Common.{◌<◌, length, get_or, arith, refl, ◌∙◌}
use Rattle.std.proofs.lemmas.List.{length-set}
use Rattle.scan_columns.proofs.PickLemmas.{below_at}
use Rattle.scan_columns.proofs.LastUses.{last_written}
use Rattle.scan_columns.proofs.picks.last_uses.Goals as goal

pub index_mut-requires : goal.index_mut-requires
index_mut-requires c = omega (arith, below_at c.args.count c.args.places.now c.loop-i.i 0 c.requires c.loop-i-test.true, c.loop-i.invariant.count, c.loop-i.last.ok.0)

pub loop-i-preserved : goal.loop-i-preserved
loop-i-preserved c =
    let us = c.loop-i.last.items in
    let ps = c.args.places.now in
    let p = get_or ps c.loop-i.i 0 in
    let below : p < length us = omega (arith, below_at c.args.count ps c.loop-i.i 0 c.requires c.loop-i-test.true, c.loop-i.invariant.count) in
    record {
      count = length-set us p c.loop-i.i ∙ c.loop-i.invariant.count;
      last = last_written us ps c.loop-i.i p below refl c.loop-i.invariant.last;
    }
