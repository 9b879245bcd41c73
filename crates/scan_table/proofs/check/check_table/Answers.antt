use Rattle.std.proofs.Common.{◌≡◌, ◌≢◌, None, Some, sym, ap, ◌∙◌}
use Rattle.std.proofs.lemmas.Result.{err_from_is_err_and}
use Rattle.scan_expr.specs.Bound.{Bound, bound_of}
use Rattle.scan_expr.specs.Typing.{bind_fault, filter_fault}
use Rattle.scan_expr.specs.declared.op.BindFault.TheVariants as bind
use Rattle.scan_expr.specs.declared.request.ScanRequest.{ScanRequest}
use Rattle.scan_table.specs.Request.{of_bind, type_fault}
use Rattle.scan_table.specs.Spec.{projection_of}
use Rattle.scan_table.proofs.Checking.{bind_err, bind_ok, filter_refused, memory_refused, names_refused, none_is, passes, plain_refused, read_refused, types_refused}
use Rattle.scan_table.proofs.check.check_table.Goals as goal

pub returns-in-Some-clause-err : goal.returns-in-Some-clause-err
returns-in-Some-clause-err c = plain_refused c.args.workers c.args.dtype.now c.args.spec.now c.in-Some.fault c.in-Some.ensures

pub returns-in_err-check_names-clause-ok : goal.returns-in_err-check_names-clause-ok
returns-in_err-check_names-clause-ok c = let p = err_from_is_err_and c.from_residual.result c.from_residual.ensures.1 in rw (p.1) tt

pub returns-in_err-check_names-clause-err : goal.returns-in_err-check_names-clause-err
returns-in_err-check_names-clause-err c =
    let none = none_is _ _ c.plain_fault.ensures c.in_default.not-Some in
    let p = err_from_is_err_and c.from_residual.result c.from_residual.ensures.1 in
    rw (p.1, p.2) (names_refused c.args.workers c.args.dtype.now c.args.spec.now none _ c.in_err-check_names.ensures.err)

pub returns-in_err-request-clause-ok : goal.returns-in_err-request-clause-ok
returns-in_err-request-clause-ok c = let p = err_from_is_err_and c.from_residual-in_err-request.result c.from_residual-in_err-request.ensures.1 in rw (p.1) tt

pub returns-in_err-request-clause-err : goal.returns-in_err-request-clause-err
returns-in_err-request-clause-err c =
    let none = none_is _ _ c.plain_fault.ensures c.in_default.not-Some in
    let p = err_from_is_err_and c.from_residual-in_err-request.result c.from_residual-in_err-request.ensures.1 in
    rw (p.1, p.2) (memory_refused c.args.workers c.args.dtype.now c.args.spec.now none)

pub returns-in_err-projection-clause-ok : goal.returns-in_err-projection-clause-ok
returns-in_err-projection-clause-ok c = let p = err_from_is_err_and c.from_residual-in_err-projection.result c.from_residual-in_err-projection.ensures.1 in rw (p.1) tt

pub returns-in_err-projection-clause-err : goal.returns-in_err-projection-clause-err
returns-in_err-projection-clause-err c =
    let d = c.args.dtype.now in
    let s = c.args.spec.now in
    let q = c.in_ok-request.request in
    let none = none_is _ _ c.plain_fault.ensures c.in_default.not-Some in
    let part : q.projection ≡ projection_of s = ap (λ (r : ScanRequest). r.projection) c.in_ok-request.ensures in
    let f = c.in_err-projection.field-0.0 in
    let told : f ≢ bind.NoMemory → bind_fault d (projection_of s) ≡ Some f = λ ne. ap (bind_fault d) (sym part) ∙ bind_err (bind_fault d q.projection) (bound_of d q.projection) f c.in_err-projection.ensures ne in
    let p = err_from_is_err_and c.from_residual-in_err-projection.result c.from_residual-in_err-projection.ensures.1 in
    rw (p.1, p.2) (read_refused c.args.workers d s none c.in_ok-check_names.ensures.ok f told)

pub returns-in_err-check_filter-clause-ok : goal.returns-in_err-check_filter-clause-ok
returns-in_err-check_filter-clause-ok c = let p = err_from_is_err_and c.from_residual-in_err-check_filter.result c.from_residual-in_err-check_filter.ensures.1 in rw (p.1) tt

pub returns-in_err-check_filter-clause-err : goal.returns-in_err-check_filter-clause-err
returns-in_err-check_filter-clause-err c =
    let d = c.args.dtype.now in
    let s = c.args.spec.now in
    let q = c.in_ok-request.request in
    let none = none_is _ _ c.plain_fault.ensures c.in_default.not-Some in
    let part : q.projection ≡ projection_of s = ap (λ (r : ScanRequest). r.projection) c.in_ok-request.ensures in
    let same : q.filter ≡ s.filter = ap (λ (r : ScanRequest). r.filter) c.in_ok-request.ensures in
    let bound = bind_ok (bind_fault d q.projection) (bound_of d q.projection) c.in_ok-projection.projection c.in_ok-projection.ensures in
    let free : bind_fault d (projection_of s) ≡ None = ap (bind_fault d) (sym part) ∙ bound.0 in
    let p = err_from_is_err_and c.from_residual-in_err-check_filter.result c.from_residual-in_err-check_filter.ensures.1 in
    rw (p.1, p.2) (filter_refused c.args.workers d s none c.in_ok-check_names.ensures.ok free _ (λ ne. ap (λ o. of_bind (filter_fault d o)) (sym same) ∙ c.in_err-check_filter.ensures.err ne))

pub check_types-requires : goal.check_types-requires
check_types-requires c =
    let d = c.args.dtype.now in
    let q = c.in_ok-request.request in
    let bound = bind_ok (bind_fault d q.projection) (bound_of d q.projection) c.in_ok-projection.projection c.in_ok-projection.ensures in
    ap (λ (b : Bound). b.expr) bound.1 ∙ ap (λ (r : ScanRequest). r.projection) c.in_ok-request.ensures

pub returns-in_err-check_types-clause-ok : goal.returns-in_err-check_types-clause-ok
returns-in_err-check_types-clause-ok c = let p = err_from_is_err_and c.from_residual-in_err-check_types.result c.from_residual-in_err-check_types.ensures.1 in rw (p.1) tt

pub returns-in_err-check_types-clause-err : goal.returns-in_err-check_types-clause-err
returns-in_err-check_types-clause-err c =
    let d = c.args.dtype.now in
    let s = c.args.spec.now in
    let q = c.in_ok-request.request in
    let none = none_is _ _ c.plain_fault.ensures c.in_default.not-Some in
    let part : q.projection ≡ projection_of s = ap (λ (r : ScanRequest). r.projection) c.in_ok-request.ensures in
    let same : q.filter ≡ s.filter = ap (λ (r : ScanRequest). r.filter) c.in_ok-request.ensures in
    let bound = bind_ok (bind_fault d q.projection) (bound_of d q.projection) c.in_ok-projection.projection c.in_ok-projection.ensures in
    let free : bind_fault d (projection_of s) ≡ None = ap (bind_fault d) (sym part) ∙ bound.0 in
    let passed : filter_fault d s.filter ≡ None = ap (filter_fault d) (sym same) ∙ c.in_ok-check_filter.ensures.ok in
    let p = err_from_is_err_and c.from_residual-in_err-check_types.result c.from_residual-in_err-check_types.ensures.1 in
    rw (p.1, p.2) (types_refused c.args.workers d s none c.in_ok-check_names.ensures.ok free passed _ (ap (λ t. type_fault t s) (sym (ap (λ (b : Bound). b.scope) bound.1)) ∙ c.in_err-check_types.ensures.err))

pub returns-clause-ok : goal.returns-clause-ok
returns-clause-ok c =
    let d = c.args.dtype.now in
    let s = c.args.spec.now in
    let q = c.in_ok-request.request in
    let none = none_is _ _ c.plain_fault.ensures c.in_default.not-Some in
    let part : q.projection ≡ projection_of s = ap (λ (r : ScanRequest). r.projection) c.in_ok-request.ensures in
    let same : q.filter ≡ s.filter = ap (λ (r : ScanRequest). r.filter) c.in_ok-request.ensures in
    let bound = bind_ok (bind_fault d q.projection) (bound_of d q.projection) c.in_ok-projection.projection c.in_ok-projection.ensures in
    let free : bind_fault d (projection_of s) ≡ None = ap (bind_fault d) (sym part) ∙ bound.0 in
    let passed : filter_fault d s.filter ≡ None = ap (filter_fault d) (sym same) ∙ c.in_ok-check_filter.ensures.ok in
    let types : type_fault d s ≡ None = ap (λ t. type_fault t s) (sym (ap (λ (b : Bound). b.scope) bound.1)) ∙ c.in_ok-check_types.ensures.ok in
    (c.in_ok-request.ensures, passes c.args.workers d s none c.in_ok-check_names.ensures.ok free passed types)
