use Rattle.std.proofs.Common.{List, None, Ok, subst, sym}
use Rattle.std.proofs.lemmas.Result.{err_from_is_err_and}
use Rattle.scan_plans.specs.Came.{came}
use Rattle.scan_plans.specs.FutureView.{source_tree, source_first, source_mask, future_of}
use Rattle.scan_plans.specs.Futures.{FutureData, SameFuture, masks_in}
use Rattle.scan_plans.specs.Given.{Gives}
use Rattle.scan_plans.specs.Masks.{MaskData}
use Rattle.scan_plans.specs.Meaning.{true_rows}
use Rattle.scan_plans.specs.Projecting.{KnowsAll, IsUnder, as_given}
use Rattle.scan_plans.specs.declared.future.Items.{Items}
use Rattle.scan_plans.proofs.Projections.{values_ready, values_wait, values_fault}
use Rattle.scan_plans.proofs.future.ArrayFuture.values.Goals as goal

pub returns-in_err-column : goal.returns-in_err-column
returns-in_err-column c = λ old s k.
    let here = came c.args.inbox.now in
    let new = future_of c.self.inside.source c.self.inside.outer.items in
    let same : SameFuture here new old = subst (λ (f : FutureData). SameFuture here f old) (sym c.self.view_is) s in
    let known : KnowsAll here (masks_in old) (masks_in new) (Ok None) = subst (λ (f : FutureData). KnowsAll here (masks_in old) (masks_in f) (Ok None)) (sym c.self.view_is) k in
    let q = err_from_is_err_and c.from_residual.result c.from_residual.ensures.1 in
    rw (q.1, q.2) (values_fault here new old same known c.in_err-column.field-0.0 c.in_err-column.ensures)

pub returns-in_ok-under-in-Ready : goal.returns-in_ok-under-in-Ready
returns-in_ok-under-in-Ready c = λ old s k.
    let here = came c.args.inbox.now in
    let src = c.self.inside.source in
    let new = future_of src c.self.inside.outer.items in
    let same : SameFuture here new old = subst (λ (f : FutureData). SameFuture here f old) (sym c.self.view_is) s in
    let known : KnowsAll here (masks_in old) (masks_in new) (Ok None) = subst (λ (f : FutureData). KnowsAll here (masks_in old) (masks_in f) (Ok None)) (sym c.self.view_is) k in
    let a = c.in-Ready.column in
    let b = c.in_ok-under-in-Ready.field-0 in
    let g = subst (λ (x : Items). Gives (source_tree src) here (true_rows (source_first src) (source_mask src).known) (as_given (Ok x))) c.in-Ready.is c.in_ok-column.ensures in
    let u : IsUnder c.self.inside.outer.items a b = subst (λ (ms : List MaskData). IsUnder ms a b) c.deref.ensures.value c.in_ok-under-in-Ready.ensures in
    values_ready here new old same known a b g u

pub returns-in-Pending : goal.returns-in-Pending
returns-in-Pending c = λ old s k.
    let here = came c.args.inbox.now in
    let src = c.self.inside.source in
    let new = future_of src c.self.inside.outer.items in
    let same : SameFuture here new old = subst (λ (f : FutureData). SameFuture here f old) (sym c.self.view_is) s in
    let known : KnowsAll here (masks_in old) (masks_in new) (Ok None) = subst (λ (f : FutureData). KnowsAll here (masks_in old) (masks_in f) (Ok None)) (sym c.self.view_is) k in
    let g = subst (λ (x : Items). Gives (source_tree src) here (true_rows (source_first src) (source_mask src).known) (as_given (Ok x))) c.in-Pending.is c.in_ok-column.ensures in
    values_wait here new old same known c.in-Pending.ids g
