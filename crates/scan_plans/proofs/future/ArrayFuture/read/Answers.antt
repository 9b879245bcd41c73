use borrow.Author.Rules.{rules}
use Rattle.std.proofs.Common.{◌≡◌, ℕ, List, Option, None, Ok, subst}
use Rattle.scan_plans.specs.Came.{came}
use Rattle.scan_plans.specs.Futures.{masks_in}
use Rattle.scan_plans.specs.Projecting.{KnowsAll}
use Rattle.scan_plans.proofs.Outer.{still_runs}
use Rattle.scan_plans.proofs.Projections.{masks_wait, rows_known}
use Rattle.scan_plans.proofs.future.ArrayFuture.read.Goals as goal

pub returns-in-Some-clause-answer : goal.returns-in-Some-clause-answer
returns-in-Some-clause-answer c =
    let here = came c.args.inbox.now in
    masks_wait here c.args.self.now c.know.new.self c.in-Some.ids (subst (λ (o : Option (List ℕ)). KnowsAll here (masks_in c.args.self.now) (masks_in c.know.new.self) (Ok o)) c.in-Some.is c.in_ok-ids.ensures.answer)

pub returns-clause-rows : goal.returns-clause-rows
returns-clause-rows c =
    let here = came c.args.inbox.now in
    let none : c.in_ok-ids.field-0 ≡ None = search (rules, c.in_default.is) in
    let k : KnowsAll here (masks_in c.args.self.now) (masks_in c.know.new.self) (Ok None) = subst (λ (o : Option (List ℕ)). KnowsAll here (masks_in c.args.self.now) (masks_in c.know.new.self) (Ok o)) none c.in_ok-ids.ensures.answer in
    let same = c.know.ensures.same in
    rows_known here c.know.new.self c.args.self.now same k c.values.result (c.values.ensures c.args.self.now same k)

pub returns-clause-run : goal.returns-clause-run
returns-clause-run c = still_runs (came c.args.inbox.now) (masks_in c.know.new.self) c.values.result c.in_ok-ids.ensures.run
