use Rattle.std.proofs.Common.{arith, rules, ◌≡◌, ◌∷◌, ◌++◌, [], sym, ap, ◌∙◌, ◌+◌, drop, List, ℕ}
use Rattle.hex.specs.Hex.{decode_pairs}
use Rattle.scan_manifest.specs.Digits.{prepend}
use Rattle.scan_manifest.proofs.HexPairs.{pair_step, decode_done}
use Rattle.scan_manifest.proofs.hex_digits.decode_rest.Goals as goal

pub pairs-preserved : goal.pairs-preserved
pairs-preserved c = record {
  within = omega arith;
  before =
      let pushed : c.push.new.self.items ≡ c.pairs.bytes.items ++ (c.in-Some.byte ∷ []) = search rules in
      pair_step c.args.text.now c.pairs.bytes.items c.pairs.at c.in-Some.byte (omega arith) c.in-Some.ensures c.pairs.invariant.before
      ∙ ap (λ (bs : List ℕ). prepend bs (decode_pairs (c.pairs.at + 2) (drop (c.pairs.at + 2) c.args.text.now))) (sym pushed);
}

pub returns : goal.returns
returns c = decode_done c.args.text.now c.pairs.bytes.items c.pairs.at (omega arith) c.pairs.invariant.before
