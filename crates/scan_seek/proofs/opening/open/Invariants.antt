use Rattle.std.proofs.Common.{◌≡◌, ◌≤◌, ◌+◌}
use Rattle.scan_seek.proofs.opening.open.Given as goal

abbrev pub invariant-wait : goal.invariant-wait
invariant-wait g l = record {
  gives : (g.O.LayoutReaderFactory.opener l.opener).gives ≡ (g.O.LayoutReaderFactory.opener l.initial.opener).gives;
  faults : (g.O.LayoutReaderFactory.opener l.initial.opener).faults ≤ (g.O.LayoutReaderFactory.opener l.opener).faults;
  turns : (g.O.LayoutReaderFactory.opener l.opener).turns ≤ (g.O.LayoutReaderFactory.opener l.initial.opener).turns;
  can_fail : (g.O.LayoutReaderFactory.opener l.opener).can_fail ≡ (g.O.LayoutReaderFactory.opener l.initial.opener).can_fail;
  grows : (g.O.LayoutReaderFactory.opener l.initial.opener).polled ≤ (g.O.LayoutReaderFactory.opener l.opener).polled;
  most : (g.O.LayoutReaderFactory.opener l.opener).polled + (g.O.LayoutReaderFactory.opener l.opener).turns
      ≤ (g.O.LayoutReaderFactory.opener l.initial.opener).polled + (g.O.LayoutReaderFactory.opener l.initial.opener).turns;
}

abbrev pub decreases-wait : goal.decreases-wait
decreases-wait g l = (g.O.LayoutReaderFactory.opener l.opener).turns
