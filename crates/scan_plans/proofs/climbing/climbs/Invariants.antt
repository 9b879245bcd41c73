use Rattle.std.proofs.Common.{◌≡◌, ◌&&◌, pos, drop}
use Rattle.scan_plans.proofs.Rising.{rising, last_of}
use Rattle.scan_plans.proofs.climbing.climbs.Given as goal

abbrev pub invariant-loop-number : goal.invariant-loop-number
invariant-loop-number l = record {
  rises : (l.good && rising l.before (drop l.number-index l.numbers)) ≡ rising (pos 0) l.numbers;
  last : last_of l.before (drop l.number-index l.numbers) ≡ last_of (pos 0) l.numbers;
}
