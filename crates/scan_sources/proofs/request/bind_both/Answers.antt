use Rattle.std.proofs.Common.{rules, ◌≡◌, Err, sym, subst}
use Rattle.scan_expr.specs.Typing.{bind_fault, filter_fault}
use Rattle.scan_sources.specs.Faults.{Refuses, bind_refusal}
use Rattle.scan_sources.proofs.Binding.{second_fault}
use Rattle.scan_sources.proofs.request.bind_both.Goals as goal

pub returns-in_err-filter-clause-fault : goal.returns-in_err-filter-clause-fault
returns-in_err-filter-clause-fault c =
    let d = c.args.dtype.now in
    let e = c.args.projection.now in
    let o = c.args.filter.now in
    let f = c.in_err-filter.field-0.0 in
    let is : c.from_residual-in_err-filter.result ≡ Err f = search rules in
    subst (λ z. Refuses z (bind_refusal d e o)) (sym is) (λ ne. second_fault (bind_fault d e) (filter_fault d o) f c.in_ok-projection.ensures.fault (c.in_err-filter.ensures.fault ne))
