use Rattle.std.proofs.Common.{◌≡◌, ◌-◌, ◌^◌, ◌<◌, drop, length, map}
use Rattle.scan_values.specs.Values.{val_of}
use Rattle.scan_spelling.specs.Written.{bit_in, number}
use Rattle.scan_spelling.proofs.write.byte_of.Given as goal

abbrev pub invariant-loop-i : goal.invariant-loop-i
invariant-loop-i l =
    record {
      bits : l.byte ≡ number (map (λ v. bit_in l.bit (val_of v)) (drop (length l.items - l.i) l.items));
      small : l.byte < 2 ^ l.i;
    }
