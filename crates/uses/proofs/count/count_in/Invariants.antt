use Rattle.std.proofs.Common.{◌≡◌, ◌+◌, ◌≤◌, drop}
use Rattle.vortex_scan.specs.Segments.Faults.{capped}
use Rattle.uses.specs.Uses.{rows_in}
use Rattle.uses.proofs.count.count_in.Given as goal

abbrev pub invariant-loop-chunk : goal.invariant-loop-chunk
invariant-loop-chunk l = record {
  most : l.rows ≤ 18446744073709551615;
  count : capped (l.rows + rows_in (drop l.chunk-index l.chunks)) ≡ capped (rows_in l.chunks);
}
