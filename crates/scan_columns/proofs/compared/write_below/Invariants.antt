use Rattle.std.proofs.Common.{◌≡◌, ◌++◌, take, drop, vec_len, map, true, false}
use Rattle.std.specs.Ordering.{int_cmp}
use Rattle.scan_columns.specs.Compared.{by_sides}
use Rattle.scan_columns.proofs.compared.write_below.Given as goal

abbrev pub invariant-loop-i : goal.invariant-loop-i
invariant-loop-i l =
    record {
      long : vec_len l.bits ≡ l.i-end;
      same : take l.i l.bits.items ++ map (λ z. by_sides true false l.other (int_cmp z l.literal)) (drop l.i l.numbers) ≡ map (λ z. by_sides true false l.other (int_cmp z l.literal)) l.numbers;
    }
