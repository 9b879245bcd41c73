use Rattle.std.proofs.Common.{◌≡◌, ◌++◌, drop}
use Rattle.scan_columns.specs.Nested.{sizes, Rises, spread}
use Rattle.scan_columns.proofs.ends.spread_bits.Given as goal

abbrev pub invariant-loop-i : goal.invariant-loop-i
invariant-loop-i l = record {
  bits : l.bits.items ++ spread (drop l.i l.m) (sizes l.start (drop l.i l.ends)) ≡ spread l.m (sizes 0 l.ends);
  rises : Rises l.start (drop l.i l.ends);
}
