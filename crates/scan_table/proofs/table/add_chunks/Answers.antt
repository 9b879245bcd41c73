use Rattle.std.proofs.Common.{◌≡◌, ◌∷◌, List, rules}
use Rattle.std.specs.Vec.Iter.{into_iter_items, into_iter_len}
use Rattle.scan_multi.specs.Output.{ChunkData}
use Rattle.scan_table.proofs.Rowing.{IsKeyed, all_parts, none_left, of_chunk, part_more}
use Rattle.scan_table.proofs.table.add_chunks.Goals as goal

pub loop-chunk-preserved : goal.loop-chunk-preserved
loop-chunk-preserved c =
    let l = c.loop-chunk in
    let keys = c.args.keys in
    let before : List ChunkData = into_iter_items l.chunk-iterator in
    let rest : List ChunkData = into_iter_items c.next.new.self in
    let x : ChunkData = c.in-Some.chunk in
    let e : before ≡ x ∷ rest = search (rules, c.in-Some.ensures.steps) in
    record {
      len = (search (rules, c.in-Some.ensures.steps));
      rows = part_more keys (of_chunk keys) (IsKeyed keys) c.args.chunks.items before rest x c.args.groups.now l.groups c.add_chunk.new.groups e l.invariant.rows (λ ms rows h k. c.in_ok-add_chunk.ensures ms rows h k);
    }

pub returns : goal.returns
returns c =
    let l = c.loop-chunk in
    let keys = c.args.keys in
    let none = none_left (into_iter_items l.chunk-iterator) (into_iter_len l.chunk-iterator) l.invariant.len c.in-None.ensures.steps.0 in
    λ ms rows h k. all_parts keys (of_chunk keys) (IsKeyed keys) c.args.chunks.items (into_iter_items l.chunk-iterator) c.args.groups.now l.groups none l.invariant.rows ms rows h k
