use Rattle.scan_plans.specs.Came.{came}
use Rattle.scan_plans.proofs.Outer.{Walked}
use Rattle.scan_plans.proofs.future.know_all.Given as goal

abbrev pub invariant-loop-mask : goal.invariant-loop-mask
invariant-loop-mask l = Walked l.mask-index (came l.inbox) l.masks l.fn.masks
