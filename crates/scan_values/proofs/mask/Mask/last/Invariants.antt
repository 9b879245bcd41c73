use Rattle.std.proofs.Common.{◌≡◌, ◌≤◌, take, length}
use Rattle.scan_values.specs.Masks.{last_true}
use Rattle.scan_values.proofs.mask.Mask.last.Given as goal

abbrev pub invariant-loop-end : goal.invariant-loop-end
invariant-loop-end l =
    record {
      within : l.end ≤ length l.self-inside.bits.items;
      same : last_true (take l.end l.self-inside.bits.items) ≡ last_true l.self-inside.bits.items;
    }

abbrev pub decreases-loop-end : goal.decreases-loop-end
decreases-loop-end l = l.end
