use Rattle.std.proofs.Common.{rules, ◌≡◌, Some, None}
use Rattle.scan_readers.specs.Kept.{find_plan}
use Rattle.scan_readers.specs.RowsData.{rows_state}
use Rattle.scan_readers.proofs.Keeping.{found_plan, makes_stay, makes_kept}
use Rattle.scan_readers.proofs.rows.RowsReaderLayoutReader.plan.Goals as goal

pub returns-in_ok-clone-in-Some-clause-plan : goal.returns-in_ok-clone-in-Some-clause-plan
returns-in_ok-clone-in-Some-clause-plan c =
    let at : find_plan c.self.inside.kept c.args.expr.now ≡ Some c.in_ok-clone-in-Some.field-0.value = search rules in
    rw (← c.self.view_is) (found_plan (rows_state c.self.inside.name (c.self.inside.array).value) c.self.inside.kept c.args.expr.now c.in_ok-clone-in-Some.field-0.value c.self.invariant at)

pub returns-in-None-clause-stay : goal.returns-in-None-clause-stay
returns-in-None-clause-stay c = makes_stay _ _ c.args.expr.now c.make.result c.make.ensures.made

pub returns-in-None-clause-kept : goal.returns-in-None-clause-kept
returns-in-None-clause-kept c =
    let none : find_plan c.args.self.now.kept c.args.expr.now ≡ None = search rules in
    makes_kept c.args.self.now.kept _ c.args.expr.now c.make.result none c.make.ensures.made
