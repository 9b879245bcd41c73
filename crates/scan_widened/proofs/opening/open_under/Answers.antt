use Rattle.std.proofs.Common.{◌≡◌, Some, IfSome, subst}
use Rattle.std.proofs.lemmas.Result.{err_from_is_err_and}
use Rattle.scan_opener.specs.OpenerMemory.{given_of}
use Rattle.scan_widened.specs.Faults.{file_fault, IsUnder}
use Rattle.scan_widened.proofs.Checking.{under_err, under_ok}
use Rattle.scan_widened.proofs.opening.open_under.Goals as goal

pub returns-in_err-layout_under-in-Some-clause-err : goal.returns-in_err-layout_under-in-Some-clause-err
returns-in_err-layout_under-in-Some-clause-err g c =
    let opener = g.O.LayoutReaderFactory.opener in
    let e = c.in_err-layout_under-in-Some.field-0.0 in
    let told = subst (λ o. IfSome (opener c.args.opener.now).gives (λ x. x ≡ given_of o)) c.in-Some.is c.in_ok-layout.ensures.given in
    let p = err_from_is_err_and c.from_residual-in_err-layout_under-in-Some.result c.from_residual-in_err-layout_under-in-Some.ensures.1 in
    rw (p.1, p.2) (under_err c.args.dtype.now c.args.range.now c.args.before (opener c.args.opener.now) (opener c.open.new.opener) c.in-Some.layout.value e told
    (λ other. subst (λ l. file_fault c.args.dtype.now c.args.range.now c.args.before l ≡ Some e) c.deref.ensures (c.in_err-layout_under-in-Some.ensures.err other)))

pub returns-in_ok-layout_under-in-Some-clause-ok : goal.returns-in_ok-layout_under-in-Some-clause-ok
returns-in_ok-layout_under-in-Some-clause-ok g c =
    let opener = g.O.LayoutReaderFactory.opener in
    let u = c.in_ok-layout_under-in-Some.field-0 in
    let told = subst (λ o. IfSome (opener c.args.opener.now).gives (λ x. x ≡ given_of o)) c.in-Some.is c.in_ok-layout.ensures.given in
    under_ok c.args.dtype.now c.args.range.now c.args.before (opener c.args.opener.now) c.in-Some.layout.value u told
    (subst (λ l. IsUnder c.args.dtype.now c.args.range.now c.args.before l u) c.deref.ensures c.in_ok-layout_under-in-Some.ensures.ok)
