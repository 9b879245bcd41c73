use borrow.Author.Rules.{rules}
use Rattle.std.proofs.Common.{◌≡◌, ◌∷◌, ℕ, List, [], Option, None, Ok, subst}
use Rattle.scan_plans.specs.Came.{came}
use Rattle.scan_plans.specs.Knowing.{Knows}
use Rattle.scan_plans.proofs.Futures.{mask_ready}
use Rattle.scan_plans.proofs.mask.MaskFuture.poll.Goals as goal

pub returns-in-Ok-None-clause-answer : goal.returns-in-Ok-None-clause-answer
returns-in-Ok-None-clause-answer c =
    let here = came c.args.inbox.now in
    let old = c.args.self.now in
    let new = c.know.new.self in
    let none : c.in-Ok-None.field-0 ≡ None = search (rules, c.in-Ok-None.field-0-is) in
    let k : Knows here old new (Ok None) = subst (λ (o : Option (List ℕ)). Knows here old new (Ok o)) none c.in-Ok-None.ensures.answer in
    c.copied.ensures.answer here old (λ store h. mask_ready here old new c.known.result.now store c.know.ensures.same k.0 c.known.ensures h)

pub returns-in-Err-clause-answer : goal.returns-in-Err-clause-answer
returns-in-Err-clause-answer c = c.refused.ensures.answer (came c.args.inbox.now) c.args.self.now c.know.new.self c.in-Err.ensures.answer

pub returns-in-Ok-None-clause-run : goal.returns-in-Ok-None-clause-run
returns-in-Ok-None-clause-run c = c.copied.ensures.run (came c.args.inbox.now) (c.know.new.self ∷ []) c.in-Ok-None.ensures.run

pub returns-in-Err-clause-run : goal.returns-in-Err-clause-run
returns-in-Err-clause-run c = c.refused.ensures.run (came c.args.inbox.now) (c.know.new.self ∷ [])
