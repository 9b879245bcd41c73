use Rattle.std.proofs.Common.{◌≡◌, ◌*◌, ◌++◌, ◌∷◌, [], ap, ◌∙◌, map}
use Rattle.std.specs.Prelude.{slice_range}
use Rattle.scan_run.specs.Generated.{piece_at}
use Rattle.scan_run.specs.GeneratedBytes.{cut_bytes}
use Rattle.scan_run.proofs.Numbers.{carry, map_step}
use Rattle.scan_run.proofs.Cutting.{plain_column, wide_elements, length_offsets}
use Rattle.scan_run.proofs.generate.segments.push_column.Goals as goal

pub loop-piece-preserved : goal.loop-piece-preserved
loop-piece-preserved c =
    let w = c.args.width in
    let bs = c.args.slots.now in
    let k = c.loop-piece.piece in
    let old = c.loop-piece.segments.items in
    let same : c.in_ok-bytes.bytes.items ≡ cut_bytes w bs (piece_at c.args.rows k) = c.in_ok-bytes.ensures.items ∙ ap (λ e. slice_range bs (w * (1000 * k)) (w * e)) c.piece_end.ensures in
    carry old c.push_segment.new.segments.items _ _ _ _ (c.in_ok-push_segment.ensures ∙ ap (λ b. old ++ b ∷ []) same) (ap (map (cut_bytes w bs)) (map_step (piece_at c.args.rows) k _ c.loop-piece-test.true)) c.loop-piece.invariant
