use Rattle.std.proofs.Common.{◌≡◌, ◌-◌, ◌≤◌, length, drop}
use Rattle.hex.specs.Hex.{decode_pairs}
use Rattle.scan_manifest.specs.Digits.{prepend}
use Rattle.scan_manifest.proofs.hex_digits.decode_rest.Given as goal

abbrev pub invariant-pairs : goal.invariant-pairs
invariant-pairs l = record {
  within : l.at ≤ length l.text;
  before : decode_pairs 0 l.text ≡ prepend l.bytes.items (decode_pairs l.at (drop l.at l.text));
}

abbrev pub decreases-pairs : goal.decreases-pairs
decreases-pairs l = length l.text - l.at
