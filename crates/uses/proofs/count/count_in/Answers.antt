use Rattle.std.proofs.Common.{rules, length, ◌≤◌}
use Rattle.uses.proofs.Concluding.{all-counted}
use Rattle.uses.proofs.count.count_in.Goals as goal

pub returns : goal.returns
returns c =
    let at : length c.args.chunks.now ≤ c.loop-chunk.chunk-index = search rules in
    all-counted c.args.chunks.now c.loop-chunk.chunk-index c.loop-chunk.rows at c.loop-chunk.invariant.most c.loop-chunk.invariant.count
