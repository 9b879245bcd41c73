use Rattle.std.proofs.Common.{◌≡◌, ◌/◌, ◌*◌, ◌-◌, ◌∙◌, ap, map, slice_range, arith}
use Rattle.std.specs.List.{flat_map}
use Rattle.scan_spelling.specs.Spelling.{byte_bits}
use Rattle.scan_spelling.specs.LeafColumns.{is_set}
use Rattle.scan_spelling.proofs.Runs.{bits_read}
use Rattle.scan_spelling.proofs.run.set_bits.Goals as goal

pub returns : goal.returns
returns c =
    let bytes = c.args.bytes.now in
    let k = c.args.first / 8 in
    let m = c.div_ceil.result in
    let words : c.in_ok-words.words.items ≡ map (λ b. map is_set (byte_bits b)) (slice_range bytes k m) = c.in_ok-words.ensures in
    let flags : c.as_flattened-flags.result.now ≡ flat_map (λ x. x) (map (λ b. map is_set (byte_bits b)) (slice_range bytes k m)) = c.as_flattened-flags.ensures.value ∙ ap (flat_map (λ x. x)) (c.deref.ensures.value ∙ words) in
    c.in_ok-bits.ensures.items ∙ ap (λ xs. slice_range xs (c.args.first - 8 * k) (c.args.end - 8 * k)) flags
    ∙ bits_read bytes k m c.args.first c.args.end (omega arith) c.requires.ordered (omega (arith, c.div_ceil.ensures)) (omega (arith, c.div_ceil.ensures, c.requires.ordered))
