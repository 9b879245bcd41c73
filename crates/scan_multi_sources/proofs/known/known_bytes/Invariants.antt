use Rattle.std.proofs.Common.{◌≡◌, ◌≤◌, drop, map}
use Rattle.scan_multi_sources.specs.ChildView.{child_data}
use Rattle.scan_multi_sources.specs.Children.{child_bytes}
use Rattle.scan_multi_sources.specs.Known.{known_of}
use Rattle.scan_multi_sources.proofs.Counting.{added}
use Rattle.scan_multi_sources.proofs.known.known_bytes.Given as goal

abbrev pub invariant-loop-child : goal.invariant-loop-child
invariant-loop-child g l = record {
  count : l.known.count ≤ l.child-index;
  same : added l.known (map child_bytes (map child_data (drop l.child-index l.children))) ≡ known_of (map child_bytes (map child_data l.fn.children));
}
