use Rattle.std.proofs.Common.{◌≡◌, ◌∙◌, ◌<◌, length, map, ap, rules}
use mir.Val.{to_z, of_z}
use mir.Syntax.{w128}
use Rattle.vortex_scan.specs.Values.Val.{int_val}
use Rattle.vortex_scan.specs.Multi.Output.{ChunkData}
use Rattle.uses.specs.Sums.{sum_of, chunk_values}
use Rattle.uses.proofs.Summing.{chunk_more}
use Rattle.uses.proofs.sum.sum_in.Goals as goal

pub loop-chunk-preserved : goal.loop-chunk-preserved
loop-chunk-preserved c =
    let l = c.loop-chunk in
    let chunks = c.args.chunks.now in
    let numbers = map int_val c.in_ok-numbers.field-0.now in
    let lt : l.chunk-index < length chunks = search rules in
    let next : to_z w128 (of_z w128 c.in_ok-sum.sum) ≡ c.in_ok-sum.sum = search rules in
    let values : numbers ≡ c.chunk-item.result.values.items = c.in_ok-numbers.ensures ∙ ap (λ (z : ChunkData). z.values.items) c.chunk.view_is in
    chunk_more chunks l.chunk-index c.chunk-item.result numbers (to_z w128 l.sum-bits) _ (sum_of (chunk_values chunks)) lt c.chunk-item.is values (next ∙ c.in_ok-sum.ensures) l.invariant
