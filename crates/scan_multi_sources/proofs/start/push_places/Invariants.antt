use Rattle.std.proofs.Common.{◌≡◌, ◌++◌, drop, map}
use Rattle.scan_multi_sources.specs.ChildView.{child_data}
use Rattle.scan_multi_sources.specs.Starts.{places_of}
use Rattle.scan_multi_sources.proofs.start.push_places.Given as goal

abbrev pub invariant-loop-place : goal.invariant-loop-place
invariant-loop-place g l =
    l.places.items ++ places_of l.want (map child_data (drop l.place l.children)) l.place
    ≡ l.fn.places.items ++ places_of l.fn.want (map child_data l.fn.children) 0
