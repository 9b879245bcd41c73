use Rattle.std.proofs.Common.{◌≡◌, ◌≤◌, ◌++◌, ◌-◌, ℕ, length}
use Rattle.std.specs.Prelude.{replicate}
use Rattle.scan_values.specs.declared.value.Value.TheVariants.{Null}
use Rattle.scan_groups.proofs.adding.with_nulls.Given as goal

abbrev pub invariant-loop-i : goal.invariant-loop-i
invariant-loop-i l = record {
  most : (k : ℕ) → length l.fn.values.items ≤ k → l.len ≤ k → l.i ≤ k;
  same : l.values.items ≡ l.fn.values.items ++ replicate (l.i - length l.fn.values.items) Null;
}
