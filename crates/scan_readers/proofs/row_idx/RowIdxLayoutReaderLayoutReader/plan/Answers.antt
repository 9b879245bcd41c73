use borrow.Author.Rules.{rules}
use Rattle.std.proofs.Common.{◌≡◌, Some, None, true, false}
use Rattle.scan_expr.specs.Expr.{uses_row_index}
use Rattle.scan_readers.specs.Kept.{find_plan}
use Rattle.scan_readers.specs.RowIdxData.{numbered_state}
use Rattle.scan_readers.proofs.Keeping.{found_plan, makes_stay, makes_kept}
use Rattle.scan_readers.proofs.RowPlans.{both_stay}
use Rattle.scan_readers.proofs.RowWalk.{unnumbered_result, kept_result}
use Rattle.scan_readers.proofs.row_idx.RowIdxLayoutReaderLayoutReader.plan.Goals as goal

pub returns-then-not-uses_row_idx-clause-plan : goal.returns-then-not-uses_row_idx-clause-plan
returns-then-not-uses_row_idx-clause-plan g c =
    let free : uses_row_index c.args.expr.now.expr ≡ false = search (rules, c.if-not-uses_row_idx.true, c.uses_row_idx.ensures) in
    rw (← c.self.view_is) (unnumbered_result (g.R.LayoutReader.state c.self.inside.child) c.self.inside.row_offset c.args.expr.now c.plan.result free c.plan.ensures.plan)

pub returns-in_ok-clone-in-Some-clause-plan : goal.returns-in_ok-clone-in-Some-clause-plan
returns-in_ok-clone-in-Some-clause-plan g c =
    let at : find_plan c.self.inside.kept c.args.expr.now ≡ Some c.in_ok-clone-in-Some.field-0.value = search rules in
    rw (← c.self.view_is) (found_plan (numbered_state c.self.inside.row_offset (g.R.LayoutReader.state c.self.inside.child)) c.self.inside.kept c.args.expr.now c.in_ok-clone-in-Some.field-0.value c.self.invariant.kept at)

pub returns-in-None-clause-stay : goal.returns-in-None-clause-stay
returns-in-None-clause-stay g c = both_stay _ _ _ _ c.make.ensures.stay (makes_stay _ _ c.args.expr.now c.make.result c.make.ensures.made)

pub returns-in-None-clause-kept : goal.returns-in-None-clause-kept
returns-in-None-clause-kept g c =
    let none : find_plan c.args.self.now.kept c.args.expr.now ≡ None = search rules in
    let uses : uses_row_index c.args.expr.now.expr ≡ true = search (rules, c.if-not-uses_row_idx.false, c.uses_row_idx.ensures) in
    kept_result (g.R.LayoutReader.kept c.make.new.self.child) c.make.new.self.kept c.args.expr.now c.make.result uses (makes_kept c.args.self.now.kept c.make.new.self.kept c.args.expr.now c.make.result none c.make.ensures.made)
