use Rattle.std.proofs.Common.{◌≡◌, ◌≤◌, replicate}
use Rattle.scan_seek.specs.KeptData.{unopened}
use Rattle.scan_lookup.proofs.session.all_unopened.Given as goal

abbrev pub invariant-loop-i : goal.invariant-loop-i
invariant-loop-i l = record {
  most : l._i ≤ l.count;
  same : l.kept.items ≡ replicate l._i unopened;
}
