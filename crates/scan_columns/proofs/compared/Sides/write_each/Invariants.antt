use Rattle.std.proofs.Common.{◌≡◌, ◌++◌, take, drop, vec_len, map}
use Rattle.std.specs.List.{zip}
use Rattle.std.specs.Ordering.{int_cmp}
use Rattle.scan_columns.specs.Compared.{sided}
use Rattle.scan_columns.proofs.compared.Sides.write_each.Given as goal

abbrev pub invariant-loop-i : goal.invariant-loop-i
invariant-loop-i l = record {
  long : vec_len l.bits ≡ l.i-end;
  same : take l.i l.bits.items ++ map (λ p. sided l.self (int_cmp p.0 p.1)) (zip (drop l.i l.numbers) (drop l.i l.others)) ≡ map (λ p. sided l.self (int_cmp p.0 p.1)) (zip l.numbers l.others);
}
