use Rattle.std.proofs.Common.{◌≡◌, ◌-◌, ◌++◌, map, length}
use Rattle.scan_values.specs.Values.{val_of}
use Rattle.scan_spelling.specs.Spelling.{bytes_for}
use Rattle.scan_spelling.specs.Written.{bit_in, in_bytes, gathered}
use Rattle.scan_spelling.proofs.write.push_bits.Given as goal

abbrev pub invariant-loop-byte : goal.invariant-loop-byte
invariant-loop-byte l =
    l.out.items ++ in_bytes (bytes_for (length l.items) - l._byte) (map (λ v. bit_in l.bit (val_of v)) l.rest) ≡ l.initial.out.items ++ gathered (map (λ v. bit_in l.bit (val_of v)) l.items)
