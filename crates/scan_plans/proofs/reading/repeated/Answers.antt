use borrow.Author.Rules.{rules}
use Rattle.std.proofs.Common.{◌≡◌, ◌<◌}
use Rattle.std.proofs.lemmas.Result.{err_from_is_err_and}
use Rattle.scan_values.specs.Values.{val_of}
use Rattle.scan_expr.specs.Infer.{infer}
use Rattle.scan_plans.proofs.Nodes.{constant_ok, constant_fault, constant_fits}
use Rattle.scan_plans.proofs.reading.repeated.Goals as goal

pub returns-in_err-value : goal.returns-in_err-value
returns-in_err-value c = λ here is l.
    let q = err_from_is_err_and c.from_residual-in_err-value.result c.from_residual-in_err-value.ensures.1 in
    let some : 0 < c.args.len = search (rules, c.if-len-eq0.false) in
    rw (q.1, q.2) (constant_fault _ c.args.expr.now.scope c.args.expr.now.expr here is c.args.len c.value_at.result c.in_err-value.field-0.0 c.in_err-value.was c.value_at.ensures.overflow some l)

pub constant-requires : goal.constant-requires
constant-requires c =
    let e = c.args.expr.now in
    let typed : c.in_ok-dtype.dtype.value ≡ infer e.scope e.expr = search (rules, c.in_ok-dtype.ensures.ok, c.in_ok-try_clone.ensures, c.dtype-2.ensures.dtype) in
    rw typed (constant_fits e.scope e.expr (val_of c.in_ok-value.value) c.requires.reads c.requires.scope c.dtype-2.ensures.faultless c.in_ok-value.ensures.value)

pub returns : goal.returns
returns c = λ here is l.
    let e = c.args.expr.now in
    let typed : c.in_ok-dtype.dtype.value ≡ infer e.scope e.expr = search (rules, c.in_ok-dtype.ensures.ok, c.in_ok-try_clone.ensures, c.dtype-2.ensures.dtype) in
    constant_ok e.scope e.expr here is c.args.len (val_of c.in_ok-value.value) c.in_ok-dtype.dtype.value c.constant.result c.constant.ensures typed c.in_ok-value.ensures.value c.in_ok-value.ensures.within l
