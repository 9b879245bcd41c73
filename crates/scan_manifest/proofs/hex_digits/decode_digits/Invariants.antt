use Rattle.std.proofs.Common.{◌≡◌, ◌-◌, ◌≤◌, length, drop}
use Rattle.hex.specs.Hex.{decode_pairs}
use Rattle.scan_manifest.specs.Digits.{prepend}
use Rattle.scan_manifest.proofs.hex_digits.decode_digits.Given as goal

abbrev pub invariant-blocks-2 : goal.invariant-blocks-2
invariant-blocks-2 l = record {
  within : l.at ≤ length l.text;
  before : decode_pairs 0 l.text ≡ prepend l.bytes.items (decode_pairs l.at (drop l.at l.text));
}

abbrev pub decreases-blocks-2 : goal.decreases-blocks-2
decreases-blocks-2 l = length l.text - l.at
