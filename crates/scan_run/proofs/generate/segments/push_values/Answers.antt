use Rattle.std.proofs.Common.{◌≡◌, ◌≤◌, ◌+◌, ◌-◌, ◌*◌, ◌++◌, ◌∷◌, [], ap, sym, ◌∙◌, map, arith}
use Rattle.std.specs.Prelude.{slice_range}
use Rattle.scan_values.specs.Selections.{numbers}
use Rattle.scan_spelling.specs.Written.{spelled}
use Rattle.scan_run.specs.Generated.{piece_at, pieces, value_of, value_type, values, spelled_piece}
use Rattle.scan_run.proofs.Numbers.{carry, map_step, count_numbers}
use Rattle.scan_run.proofs.Valuing.{part_of_rows}
use Rattle.scan_run.proofs.generate.segments.push_values.Goals as goal

pub loop-piece-init : goal.loop-piece-init
loop-piece-init c =
    let vs = values c.args.first c.args.count in
    let old = c.args.segments.now.items in
    ap (λ n. old ++ map (spelled_piece c.args.spelling value_type vs) (map (piece_at c.args.count) (numbers 0 n))) c.piece_count-piece-end.ensures
    ∙ ap (λ m. old ++ map (spelled_piece c.args.spelling value_type vs) (pieces m)) (sym (count_numbers value_of c.args.first c.args.count))

pub loop-piece-preserved : goal.loop-piece-preserved
loop-piece-preserved c =
    let s = c.args.spelling in
    let vs = values c.args.first c.args.count in
    let k = c.loop-piece.piece in
    let hi = c.piece_end-end.result in
    let old = c.loop-piece.segments.items in
    let low : 1000 * k ≤ hi = omega (arith, c.piece_end-end.ensures, c.piece_count-piece-end.ensures, c.loop-piece-test.true) in
    let high : hi ≤ c.args.count = omega (arith, c.piece_end-end.ensures) in
    let same : c.in_ok-bytes.bytes.items ≡ spelled_piece s value_type vs (piece_at c.args.count k) =
    c.in_ok-bytes.ensures ∙ (ap (spelled s value_type) (sym (part_of_rows value_of c.args.first c.args.count (1000 * k) hi low high)) ∙ ap (λ h. spelled s value_type (slice_range vs (1000 * k) h)) c.piece_end-end.ensures) in
    carry old c.push_segment.new.segments.items _ _ _ _ (c.in_ok-push_segment.ensures ∙ ap (λ b. old ++ b ∷ []) same) (ap (map (spelled_piece s value_type vs)) (map_step (piece_at c.args.count) k _ c.loop-piece-test.true)) c.loop-piece.invariant
