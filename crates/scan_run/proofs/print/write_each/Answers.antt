use Rattle.std.proofs.Common.{◌∙◌, refl, sym, subst, arith}
use Rattle.std.proofs.lemmas.List.Elements.{All-get_or}
use Rattle.std.proofs.lemmas.Result.{err_from_is_err_and}
use Rattle.scan_multi.specs.Output.{ChunkData, IsChunk}
use Rattle.scan_run.specs.Printed.{chunk_lines, chunks_lines}
use Rattle.scan_run.proofs.Sending.{sent_none, sent_more, sent_all, sent_front, rose_later, chunks_step, chunks_over, wrote_ok, wrote_err}
use Rattle.scan_run.proofs.print.write_each.Goals as goal

pub loop-chunk-init : goal.loop-chunk-init
loop-chunk-init g c = sent_none _ c.args.piece.now _ (g.O.Output.output c.args.output.now) refl

pub write_chunk-requires : goal.write_chunk-requires
write_chunk-requires g c =
    subst (λ (z : ChunkData). IsChunk c.args.heads.now z) (sym c.chunk-item.is) (All-get_or (IsChunk c.args.heads.now) c.args.chunks.now c.loop-chunk.chunk-index c.chunk-item.result (omega arith) c.requires)

pub loop-chunk-preserved : goal.loop-chunk-preserved
loop-chunk-preserved g c =
    let step = chunks_step c.args.chunks.now c.loop-chunk.chunk-index c.chunk-item.result (omega arith) c.chunk-item.is in
    sent_more (chunks_lines c.args.chunks.now) c.args.piece.now c.loop-chunk.piece c.write_chunk.new.piece (chunk_lines c.chunk-item.result) _ _
    (g.O.Output.output c.args.output.now) (g.O.Output.output c.loop-chunk.output) (g.O.Output.output c.write_chunk.new.output) c.loop-chunk.invariant step c.in_ok-write_chunk.ensures.ok

pub returns-in_err-write_chunk : goal.returns-in_err-write_chunk
returns-in_err-write_chunk g c =
    let x = chunks_lines c.args.chunks.now in
    let old = g.O.Output.output c.args.output.now in
    let mid = g.O.Output.output c.loop-chunk.output in
    let now = g.O.Output.output c.write_chunk.new.output in
    let step = chunks_step c.args.chunks.now c.loop-chunk.chunk-index c.chunk-item.result (omega arith) c.chunk-item.is in
    let front = sent_front x c.args.piece.now c.loop-chunk.piece (chunk_lines c.chunk-item.result) _ _ old mid now c.loop-chunk.invariant step c.in_err-write_chunk.ensures.err in
    let p = err_from_is_err_and c.from_residual.result c.from_residual.ensures.1 in
    rw (p.1, p.2) (wrote_err x c.args.piece.now _ old now _ front (λ h. rose_later old.faults _ _ c.loop-chunk.invariant.sends.faults (c.in_err-write_chunk.ensures.failed h))
    (λ h. sym c.loop-chunk.invariant.sends.can_fail ∙ c.in_err-write_chunk.ensures.able h))

pub returns : goal.returns
returns g c =
    let x = chunks_lines c.args.chunks.now in
    let old = g.O.Output.output c.args.output.now in
    let now = g.O.Output.output c.loop-chunk.output in
    wrote_ok x c.args.piece.now c.loop-chunk.piece old now (sent_all x c.args.piece.now c.loop-chunk.piece _ old now c.loop-chunk.invariant
    (chunks_over c.args.chunks.now c.loop-chunk.chunk-index (omega arith)))
