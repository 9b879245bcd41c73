use Rattle.std.proofs.Common.{subst, Ok, arith}
use Rattle.std.proofs.lemmas.Result.{err_from_is_err_and}
use Rattle.scan_plans.specs.Came.{came}
use Rattle.scan_plans.specs.MaskView.{filter_of}
use Rattle.scan_plans.specs.Knowing.{Runs}
use Rattle.scan_plans.specs.declared.mask.Ran.{Ran}
use Rattle.scan_plans.proofs.Progressing.{filter_good, runs_fault, runs_pending, runs_more, runs_end}
use Rattle.scan_plans.proofs.mask.run_filters.Goals as goal

pub run-requires-clause-dtype : goal.run-requires-clause-dtype
run-requires-clause-dtype c = (filter_good (came c.args.inbox.now) c.args.mask.now c.loop-ran.known c.args.filters.now c.loop-ran.ran c.index-filters-ran.result c.requires c.loop-ran.invariant c.loop-ran-test.true c.index-filters-ran.is).1

pub run-requires-clause-within : goal.run-requires-clause-within
run-requires-clause-within c = (filter_good (came c.args.inbox.now) c.args.mask.now c.loop-ran.known c.args.filters.now c.loop-ran.ran c.index-filters-ran.result c.requires c.loop-ran.invariant c.loop-ran-test.true c.index-filters-ran.is).0

pub returns-in_err-mask : goal.returns-in_err-mask
returns-in_err-mask c =
    let q = err_from_is_err_and c.from_residual-in_err-mask.result c.from_residual-in_err-mask.ensures.1 in
    rw (q.1, q.2) (runs_fault (came c.args.inbox.now) c.args.mask.now c.loop-ran.known c.args.filters.now c.loop-ran.ran c.index-filters-ran.result c.in_err-mask.field-0.0 c.loop-ran.invariant c.loop-ran-test.true c.index-filters-ran.is c.in_err-mask.ensures)

pub returns-in-Pending : goal.returns-in-Pending
returns-in-Pending c =
    let here = came c.args.inbox.now in (
      c.loop-ran.invariant,
      runs_pending here c.args.mask.now c.loop-ran.known c.args.filters.now c.loop-ran.ran c.index-filters-ran.result c.in-Pending.ids c.loop-ran.invariant c.loop-ran-test.true c.index-filters-ran.is
          (subst (λ (x : Ran). Runs here c.loop-ran.known (filter_of c.index-filters-ran.result) (Ok x)) c.in-Pending.is c.in_ok-mask.ensures),
    )

pub loop-ran-preserved : goal.loop-ran-preserved
loop-ran-preserved c =
    let here = came c.args.inbox.now in
    runs_more here c.args.mask.now c.loop-ran.known c.in-Known.mask c.args.filters.now c.loop-ran.ran c.index-filters-ran.result c.loop-ran.invariant c.loop-ran-test.true c.index-filters-ran.is
    (subst (λ (x : Ran). Runs here c.loop-ran.known (filter_of c.index-filters-ran.result) (Ok x)) c.in-Known.is c.in_ok-mask.ensures)

pub returns : goal.returns
returns c = runs_end (came c.args.inbox.now) c.args.mask.now c.loop-ran.known c.args.filters.now c.loop-ran.ran c.loop-ran.invariant (omega (arith, c.loop-ran-test.false, c.loop-ran.auto.ran-end))
