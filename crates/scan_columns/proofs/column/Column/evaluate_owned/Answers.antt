use Rattle.std.proofs.Common.{◌≡◌, refl, map, ap, sym, subst, ◌∙◌}
use Rattle.scan_values.specs.Val.{marked}
use Rattle.scan_expr.specs.Expr.{Expr}
use Rattle.scan_expr.specs.Infer.{infer}
use Rattle.scan_expr.specs.Eval.{eval}
use Rattle.scan_columns.proofs.RowLemmas.{is_root_is, whole_none}
use Rattle.scan_columns.proofs.column.Column.evaluate_owned.Goals as goal

pub returns-then-is_root-clause-dtype : goal.returns-then-is_root-clause-dtype
returns-then-is_root-clause-dtype c =
    c.requires.scope ∙ ap (infer c.args.expr.now.scope) (sym (is_root_is c.args.expr.now.expr (sym c.is_root.ensures ∙ c.if-is_root.true)))

pub returns-then-is_root-clause-items : goal.returns-then-is_root-clause-items
returns-then-is_root-clause-items c =
    let s = c.args.expr.now.scope in
    let vs = c.args.self.items in
    subst (λ (x : Expr). map marked vs ≡ map (λ v. eval s x (marked v) 0) vs) (sym (is_root_is c.args.expr.now.expr (sym c.is_root.ensures ∙ c.if-is_root.true))) refl

pub returns-then-is_root-clause-within : goal.returns-then-is_root-clause-within
returns-then-is_root-clause-within c = whole_none c.args.expr.now.scope c.args.expr.now.expr c.args.self.items (sym c.is_root.ensures ∙ c.if-is_root.true)
