use Rattle.std.proofs.Common.{arith, rules, ◌≡◌, ◌++◌, sym, ap, ◌∙◌, ◌+◌, drop, length, List, ℕ}
use Rattle.hex.specs.Hex.{decode_pairs}
use Rattle.scan_manifest.specs.Digits.{prepend}
use Rattle.scan_manifest.proofs.HexPairs.{block_step}
use Rattle.scan_manifest.proofs.hex_digits.decode_digits.Goals as goal

pub blocks-2-preserved : goal.blocks-2-preserved
blocks-2-preserved c = record {
  within = omega arith;
  before =
      let block = c.decode_block-good.result.0 in
      let long : length block ≡ 32 = c.decode_block-good.ensures.long in
      let more : c.extend_from_slice.new.self.items ≡ c.blocks-2.bytes.items ++ block = search rules in
      block_step c.args.text.now c.blocks-2.bytes.items block c.blocks-2.at (omega arith) long
      (λ k lt i. c.decode_block-good.ensures.bytes c.if-not-good.false k (omega (arith, long)) i) c.blocks-2.invariant.before
      ∙ ap (λ (bs : List ℕ). prepend bs (decode_pairs (c.blocks-2.at + 64) (drop (c.blocks-2.at + 64) c.args.text.now))) (sym more);
}
