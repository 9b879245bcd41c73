use borrow.Author.Rules.{rules}
use Rattle.std.proofs.Common.{◌≡◌, ◌∷◌, ℕ, List, Option, Some, None, Ok, false, subst, sym}
use Rattle.std.specs.Prelude.{IfOk}
use Rattle.scan_plans.specs.Came.{came}
use Rattle.scan_plans.specs.FutureView.{source_mask, future_of}
use Rattle.scan_plans.specs.Futures.{FutureData, SameFuture, masks_in}
use Rattle.scan_plans.specs.Given.{AreLacking}
use Rattle.scan_plans.specs.Knowing.{Knows}
use Rattle.scan_plans.specs.MaskLists.{SameMasks, can_run, masks_wanted}
use Rattle.scan_plans.specs.Masks.{MaskData}
use Rattle.scan_plans.specs.Projecting.{KnowsAll}
use Rattle.scan_plans.proofs.Outer.{same_itself, same_length, whole_back, first_waits, then_others, waits_stuck, then_runs}
use Rattle.scan_plans.proofs.future.ArrayFuture.know.Goals as goal

pub returns-in_err-ids-clause-same : goal.returns-in_err-ids-clause-same
returns-in_err-ids-clause-same c =
    let here = came c.args.inbox.now in
    let e = c.know.ensures in
    let ms = c.self.inside.outer.items in
    subst (λ (f : FutureData). SameFuture here (future_of c.know.new.self ms) f) c.self.view_is (record { tree = e.tree; first = e.first; masks = (e.same, same_itself here ms) })

pub returns-in-Some-clause-same : goal.returns-in-Some-clause-same
returns-in-Some-clause-same c =
    let here = came c.args.inbox.now in
    let e = c.know.ensures in
    let ms = c.self.inside.outer.items in
    subst (λ (f : FutureData). SameFuture here (future_of c.know.new.self ms) f) c.self.view_is (record { tree = e.tree; first = e.first; masks = (e.same, same_itself here ms) })

pub returns-in-Some-clause-answer : goal.returns-in-Some-clause-answer
returns-in-Some-clause-answer c =
    let here = came c.args.inbox.now in
    let old = source_mask c.self.inside.source in
    let new = source_mask c.know.new.self in
    let ms = c.self.inside.outer.items in
    let k : Knows here old new (Ok (Some c.in-Some.ids)) = subst (λ (o : Option (List ℕ)). Knows here old new (Ok o)) c.in-Some.is c.in_ok-ids.ensures.answer in
    λ rest. subst (λ (f : FutureData). AreLacking (masks_wanted (masks_in f) here rest) here c.in-Some.ids) c.self.view_is (first_waits here old new ms ms c.in-Some.ids k rest)

pub returns-clause-answer : goal.returns-clause-answer
returns-clause-answer c =
    let here = came c.args.inbox.now in
    let old = source_mask c.self.inside.source in
    let new = source_mask c.know.new.self in
    let olds = c.self.inside.outer.items in
    let news = c.know_all.new.masks in
    let r = c.know_all.result in
    let none : c.in_ok-ids.field-0 ≡ None = search (rules, c.in_default.is) in
    let k : Knows here old new (Ok None) = subst (λ (o : Option (List ℕ)). Knows here old new (Ok o)) none c.in_ok-ids.ensures.answer in
    let a : KnowsAll here olds news r = subst (λ (ms : List MaskData). KnowsAll here ms news r) c.deref_mut.ensures.value c.know_all.ensures.answer in
    let s : SameMasks here news olds = subst (λ (ms : List MaskData). SameMasks here news ms) c.deref_mut.ensures.value c.know_all.ensures.same in
    let back = whole_back c.self.inside.outer.len olds news c.self.inside.outer.ok.0 (same_length here news olds s) in
    subst (λ (ms : List MaskData). KnowsAll here (masks_in c.args.self.now) (new ∷ ms) r) (sym back) (subst (λ (f : FutureData). KnowsAll here (masks_in f) (new ∷ news) r) c.self.view_is (then_others here old new olds news r k a))

pub returns-in-Some-clause-run : goal.returns-in-Some-clause-run
returns-in-Some-clause-run c =
    let here = came c.args.inbox.now in
    let old = source_mask c.self.inside.source in
    let new = source_mask c.know.new.self in
    let k : Knows here old new (Ok (Some c.in-Some.ids)) = subst (λ (o : Option (List ℕ)). Knows here old new (Ok o)) c.in-Some.is c.in_ok-ids.ensures.answer in
    waits_stuck here old new c.in-Some.ids c.self.inside.outer.items c.know.ensures.same k c.in_ok-ids.ensures.run

pub returns-clause-run : goal.returns-clause-run
returns-clause-run c =
    let here = came c.args.inbox.now in
    let old = source_mask c.self.inside.source in
    let new = source_mask c.know.new.self in
    let olds = c.self.inside.outer.items in
    let news = c.know_all.new.masks in
    let r = c.know_all.result in
    let none : c.in_ok-ids.field-0 ≡ None = search (rules, c.in_default.is) in
    let k : Knows here old new (Ok None) = subst (λ (o : Option (List ℕ)). Knows here old new (Ok o)) none c.in_ok-ids.ensures.answer in
    let s : SameMasks here news olds = subst (λ (ms : List MaskData). SameMasks here news ms) c.deref_mut.ensures.value c.know_all.ensures.same in
    let back = whole_back c.self.inside.outer.len olds news c.self.inside.outer.ok.0 (same_length here news olds s) in
    subst (λ (ms : List MaskData). IfOk r (λ _. can_run here (new ∷ ms) ≡ false)) (sym back) (then_runs here new news r k.0 c.know_all.ensures.run)
