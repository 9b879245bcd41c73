use Rattle.std.proofs.Common.{◌≡◌, false, true, sym, ap, ◌∙◌}
use Rattle.std.proofs.lemmas.Result.{err_from_is_err_and}
use Rattle.scan_expr.specs.Bound.{Bound, bound_of}
use Rattle.scan_expr.specs.Infer.{infer}
use Rattle.scan_expr.specs.Typing.{bind_fault}
use Rattle.scan_values.specs.Fits.{is_bool_type}
use Rattle.scan_table.proofs.Checking.{bind_err, bind_ok, test_other, test_passes, test_refused}
use Rattle.scan_table.proofs.check.check_test.Goals as goal

pub returns-in_err-bound-clause-ok : goal.returns-in_err-bound-clause-ok
returns-in_err-bound-clause-ok c = let p = err_from_is_err_and c.from_residual.result c.from_residual.ensures.1 in rw (p.1) tt

pub returns-in_err-bound-clause-err : goal.returns-in_err-bound-clause-err
returns-in_err-bound-clause-err c =
    let d = c.args.dtype.now in
    let e = c.args.test.now in
    let f = c.in_err-bound.field-0.0 in
    let p = err_from_is_err_and c.from_residual.result c.from_residual.ensures.1 in
    rw (p.1, p.2) (test_refused d e f (bind_err (bind_fault d e) (bound_of d e) f c.in_err-bound.ensures))

pub returns-then-not-is_bool-clause-err : goal.returns-then-not-is_bool-clause-err
returns-then-not-is_bool-clause-err c =
    let d = c.args.dtype.now in
    let e = c.args.test.now in
    let b = c.in_ok-bound.bound in
    let whole = bind_ok (bind_fault d e) (bound_of d e) b c.in_ok-bound.ensures in
    let type : c.dtype.result.now ≡ infer d e = c.dtype.ensures.dtype ∙ ap (λ (x : Bound). infer x.scope x.expr) whole.1 in
    let no_bool : is_bool_type (infer d e) ≡ false = ap is_bool_type (sym type) ∙ sym c.is_bool.ensures ∙ c.if-not-is_bool.true in
    λ ne. test_other d e whole.0 no_bool

pub returns-clause-ok : goal.returns-clause-ok
returns-clause-ok c =
    let d = c.args.dtype.now in
    let e = c.args.test.now in
    let b = c.in_ok-bound.bound in
    let whole = bind_ok (bind_fault d e) (bound_of d e) b c.in_ok-bound.ensures in
    let type : c.dtype.result.now ≡ infer d e = c.dtype.ensures.dtype ∙ ap (λ (x : Bound). infer x.scope x.expr) whole.1 in
    let is : is_bool_type (infer d e) ≡ true = ap is_bool_type (sym type) ∙ sym c.is_bool.ensures ∙ c.if-not-is_bool.false in
    test_passes d e whole.0 is
