use Rattle.std.proofs.Common.{◌≡◌, ◌+◌, ◌-◌, ◌*◌, ◌++◌, ◌∷◌, [], ap, ◌∙◌}
use Rattle.scan_run.specs.Generated.{piece_at, rows_of}
use Rattle.scan_run.proofs.Numbers.{carry}
use Rattle.scan_run.proofs.Cutting.{pieces_step}
use Rattle.scan_run.proofs.generate.segments.pieces_of.Goals as goal

pub loop-piece-preserved : goal.loop-piece-preserved
loop-piece-preserved c =
    let k = c.loop-piece.piece in
    let old = c.loop-piece.made.items in
    let p : c.push.new.self.items ≡ old ++ (c.args.first + k, rows_of (piece_at c.args.rows k)) ∷ [] =
    c.in_ok-push.ensures.items ∙ (ap (λ x. old ++ (x, c.piece_end.result - 1000 * k) ∷ []) c.from-id.ensures ∙ ap (λ x. old ++ (c.args.first + k, x - 1000 * k) ∷ []) c.piece_end.ensures) in
    carry old c.push.new.self.items _ _ _ _ p (pieces_step c.args.first c.args.rows k _ c.loop-piece-test.true) c.loop-piece.invariant
