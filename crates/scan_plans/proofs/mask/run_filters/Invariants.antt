use Rattle.scan_plans.specs.Came.{came}
use Rattle.scan_plans.specs.Knowing.{Reaches}
use Rattle.scan_plans.specs.MaskView.{filters_of}
use Rattle.scan_plans.proofs.mask.run_filters.Given as goal

abbrev pub invariant-loop-ran : goal.invariant-loop-ran
invariant-loop-ran l = Reaches (came l.inbox) l.mask (filters_of l.filters) l.ran l.known
