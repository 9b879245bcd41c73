use Rattle.std.proofs.Common.{◌≡◌, ◌++◌, drop, length, map}
use Rattle.scan_widen.specs.Under.{numbered, segment_behind}
use Rattle.scan_widen.proofs.under.number_segments.Given as goal

abbrev pub invariant-loop-i : goal.invariant-loop-i
invariant-loop-i l =
    (l.numbers.items ++ numbered (length l.made.items) (drop l.i l.segments) ≡ numbered (length l.initial.made.items) l.segments)
    × (l.made.items ++ map (segment_behind l.from l.to l.spelling) (drop l.i l.segments) ≡ l.initial.made.items ++ map (segment_behind l.from l.to l.spelling) l.segments)
