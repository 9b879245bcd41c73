use borrow.Author.Rules.{rules}
use Rattle.std.proofs.Common.{◌≡◌, ◌<◌, ◌≤◌, ℕ, List, Option, Some, None, Ok, Err, length, arith, subst, sym}
use Rattle.std.proofs.lemmas.Result.{err_from_is_err_and}
use Rattle.scan_plans.specs.Came.{came}
use Rattle.scan_plans.specs.Knowing.{Knows}
use Rattle.scan_plans.specs.Masks.{MaskData, SameMask}
use Rattle.scan_plans.proofs.Outer.{walk_same, walk_known, walk_set, walk_next, walk_waits, walk_fault, walk_stuck, known_runs}
use Rattle.scan_plans.proofs.future.know_all.Goals as goal

pub loop-mask-preserved : goal.loop-mask-preserved
loop-mask-preserved c =
    let here = came c.args.inbox.now in
    let s : SameMask here c.know.new.self c.mask-item.result = subst (λ (x : MaskData). SameMask here c.know.new.self x) (sym c.mask-item.is) c.know.ensures.same in
    let l : c.loop-mask.mask-index < length c.loop-mask.masks = omega (arith, c.loop-mask.auto.masks) in
    let none : c.in_ok-ids.field-0 ≡ None = search (rules, c.in_default.is) in
    let k : Knows here c.mask-item.result c.know.new.self (Ok None) = subst (λ (o : Option (List ℕ)). Knows here c.mask-item.result c.know.new.self (Ok o)) none (subst (λ (x : MaskData). Knows here x c.know.new.self (Ok c.in_ok-ids.field-0)) (sym c.mask-item.is) c.in_ok-ids.ensures.answer) in
    walk_next c.loop-mask.mask-index here c.loop-mask.masks c.args.masks.now c.mask-item.result c.know.new.self c.loop-mask.invariant l c.mask-item.is s k

pub returns-clause-same : goal.returns-clause-same
returns-clause-same c = walk_same c.loop-mask.mask-index (came c.args.inbox.now) c.loop-mask.masks c.args.masks.now c.loop-mask.invariant

pub returns-clause-answer : goal.returns-clause-answer
returns-clause-answer c =
    let l : length c.loop-mask.masks ≤ c.loop-mask.mask-index = omega (arith, c.loop-mask.auto.masks) in
    walk_known c.loop-mask.mask-index (came c.args.inbox.now) c.loop-mask.masks c.args.masks.now c.loop-mask.invariant l

pub returns-in-Some-clause-same : goal.returns-in-Some-clause-same
returns-in-Some-clause-same c =
    let s : SameMask (came c.args.inbox.now) c.know.new.self c.mask-item.result = subst (λ (x : MaskData). SameMask (came c.args.inbox.now) c.know.new.self x) (sym c.mask-item.is) c.know.ensures.same in
    let l : c.loop-mask.mask-index < length c.loop-mask.masks = omega (arith, c.loop-mask.auto.masks) in
    walk_set c.loop-mask.mask-index (came c.args.inbox.now) c.loop-mask.masks c.args.masks.now c.mask-item.result c.know.new.self c.loop-mask.invariant l c.mask-item.is s

pub returns-in-Some-clause-answer : goal.returns-in-Some-clause-answer
returns-in-Some-clause-answer c =
    let here = came c.args.inbox.now in
    let l : c.loop-mask.mask-index < length c.loop-mask.masks = omega (arith, c.loop-mask.auto.masks) in
    let k : Knows here c.mask-item.result c.know.new.self (Ok (Some c.in-Some.ids)) =
    subst (λ (o : Option (List ℕ)). Knows here c.mask-item.result c.know.new.self (Ok o)) c.in-Some.is
    (subst (λ (x : MaskData). Knows here x c.know.new.self (Ok c.in_ok-ids.field-0)) (sym c.mask-item.is) c.in_ok-ids.ensures.answer) in
    λ rest. walk_waits c.loop-mask.mask-index here c.loop-mask.masks c.args.masks.now c.mask-item.result c.in-Some.ids rest c.loop-mask.invariant l c.mask-item.is k

pub returns-in_err-ids-clause-same : goal.returns-in_err-ids-clause-same
returns-in_err-ids-clause-same c =
    let s : SameMask (came c.args.inbox.now) c.know.new.self c.mask-item.result = subst (λ (x : MaskData). SameMask (came c.args.inbox.now) c.know.new.self x) (sym c.mask-item.is) c.know.ensures.same in
    let l : c.loop-mask.mask-index < length c.loop-mask.masks = omega (arith, c.loop-mask.auto.masks) in
    walk_set c.loop-mask.mask-index (came c.args.inbox.now) c.loop-mask.masks c.args.masks.now c.mask-item.result c.know.new.self c.loop-mask.invariant l c.mask-item.is s

pub returns-in_err-ids-clause-answer : goal.returns-in_err-ids-clause-answer
returns-in_err-ids-clause-answer c =
    let here = came c.args.inbox.now in
    let l : c.loop-mask.mask-index < length c.loop-mask.masks = omega (arith, c.loop-mask.auto.masks) in
    let q = err_from_is_err_and c.from_residual.result c.from_residual.ensures.1 in
    rw (q.1, q.2) (walk_fault c.loop-mask.mask-index here c.loop-mask.masks c.args.masks.now c.args.masks.now c.mask-item.result c.know.new.self
    c.in_err-ids.field-0.0 c.loop-mask.invariant l c.mask-item.is
    (subst (λ (x : MaskData). Knows here x c.know.new.self (Err c.in_err-ids.field-0.0)) (sym c.mask-item.is) c.in_err-ids.ensures.answer))

pub returns-clause-run : goal.returns-clause-run
returns-clause-run c =
    let here = came c.args.inbox.now in
    let l : length c.loop-mask.masks ≤ c.loop-mask.mask-index = omega (arith, c.loop-mask.auto.masks) in
    known_runs here c.loop-mask.masks (walk_known c.loop-mask.mask-index here c.loop-mask.masks c.args.masks.now c.loop-mask.invariant l).0

pub returns-in-Some-clause-run : goal.returns-in-Some-clause-run
returns-in-Some-clause-run c =
    let here = came c.args.inbox.now in
    let s : SameMask here c.know.new.self c.mask-item.result = subst (λ (x : MaskData). SameMask here c.know.new.self x) (sym c.mask-item.is) c.know.ensures.same in
    let l : c.loop-mask.mask-index < length c.loop-mask.masks = omega (arith, c.loop-mask.auto.masks) in
    let k : Knows here c.mask-item.result c.know.new.self (Ok (Some c.in-Some.ids)) =
    subst (λ (o : Option (List ℕ)). Knows here c.mask-item.result c.know.new.self (Ok o)) c.in-Some.is
    (subst (λ (x : MaskData). Knows here x c.know.new.self (Ok c.in_ok-ids.field-0)) (sym c.mask-item.is) c.in_ok-ids.ensures.answer) in
    walk_stuck c.loop-mask.mask-index here c.loop-mask.masks c.args.masks.now c.mask-item.result c.know.new.self c.in-Some.ids c.loop-mask.invariant l s k c.in_ok-ids.ensures.run
