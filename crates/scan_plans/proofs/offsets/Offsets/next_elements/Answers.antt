use Rattle.std.proofs.Common.{Option, Ok, subst}
use Rattle.std.proofs.lemmas.Result.{err_from_is_err_and}
use Rattle.scan_plans.specs.Came.{came}
use Rattle.scan_plans.specs.Meaning.{true_rows}
use Rattle.scan_plans.specs.OffsetReads.{CutsWhole}
use Rattle.scan_plans.specs.declared.lists.Whole.{Whole}
use Rattle.scan_plans.proofs.ListWants.{cut_known, empty_known, elements_stopped}
use Rattle.scan_plans.proofs.offsets.Offsets.next_elements.Goals as goal

pub returns-in_err-whole : goal.returns-in_err-whole
returns-in_err-whole c = λ complete.
    let q = err_from_is_err_and c.from_residual.result c.from_residual.ensures.1 in
    rw (q.1, q.2) (elements_stopped c.args.self.now (came c.args.inbox.now) (true_rows c.args.first c.args.mask.now) c.in_err-whole.field-0.0 c.in_err-whole.ensures complete)

pub returns-in-Some : goal.returns-in-Some
returns-in-Some c = λ complete.
    let o = c.args.self.now in
    let here = came c.args.inbox.now in
    let is = true_rows c.args.first c.args.mask.now in
    let k = subst (λ (x : Option Whole). CutsWhole o here is (Ok x)) c.in-Some.is c.in_ok-whole.ensures in
    cut_known o here is c.in-Some.whole complete k

pub returns-in_ok-all_elements-in-None : goal.returns-in_ok-all_elements-in-None
returns-in_ok-all_elements-in-None c = λ complete.
    let o = c.args.self.now in
    let here = came c.args.inbox.now in
    let is = true_rows c.args.first c.args.mask.now in
    let none = subst (λ (x : Option Whole). CutsWhole o here is (Ok x)) c.in-None.is c.in_ok-whole.ensures in
    empty_known o here is c.in_ok-all_elements-in-None.field-0 complete none c.in_ok-all_elements-in-None.ensures
