use Rattle.std.proofs.Common.{ap, ◌∙◌}
use Rattle.std.proofs.lemmas.Result.{err_from_is_err_and}
use Rattle.scan_file.specs.FileAsks.{file_ask}
use Rattle.scan_multi.proofs.Requesting.{none-plain, plain_refused, memory_refused, projection_refused, filter_refused, asks_it, may_ask}
use Rattle.scan_multi.proofs.scan.request.check_request.Goals as goal

pub returns-in-Some-clause-err : goal.returns-in-Some-clause-err
returns-in-Some-clause-err c = plain_refused c.args.workers c.args.dtype.now c.args.request.now c.in-Some.fault c.in-Some.ensures

pub returns-in_err-projection-clause-ok : goal.returns-in_err-projection-clause-ok
returns-in_err-projection-clause-ok c = let p = err_from_is_err_and c.from_residual.result c.from_residual.ensures.1 in rw (p.1) tt

pub returns-in_err-projection-clause-err : goal.returns-in_err-projection-clause-err
returns-in_err-projection-clause-err c =
    let none = none-plain _ _ c.plain_fault.ensures c.in_default.not-Some in
    let p = err_from_is_err_and c.from_residual.result c.from_residual.ensures.1 in
    rw (p.1, p.2) (projection_refused c.args.workers c.args.dtype.now c.args.request.now none _ c.in_err-projection.ensures)

pub returns-in_err-filter-clause-ok : goal.returns-in_err-filter-clause-ok
returns-in_err-filter-clause-ok c = let p = err_from_is_err_and c.from_residual-in_err-filter.result c.from_residual-in_err-filter.ensures.1 in rw (p.1) tt

pub returns-in_err-filter-clause-err : goal.returns-in_err-filter-clause-err
returns-in_err-filter-clause-err c =
    let none = none-plain _ _ c.plain_fault.ensures c.in_default.not-Some in
    let p = err_from_is_err_and c.from_residual-in_err-filter.result c.from_residual-in_err-filter.ensures.1 in
    rw (p.1, p.2) (filter_refused c.args.workers c.args.dtype.now c.args.request.now c.in_ok-projection.projection c.in_ok-projection.ensures none _ c.in_err-filter.ensures)

pub returns-in_err-selection-clause-ok : goal.returns-in_err-selection-clause-ok
returns-in_err-selection-clause-ok c = let p = err_from_is_err_and c.from_residual-in_err-selection.result c.from_residual-in_err-selection.ensures.1 in rw (p.1) tt

pub returns-in_err-selection-clause-err : goal.returns-in_err-selection-clause-err
returns-in_err-selection-clause-err c =
    let none = none-plain _ _ c.plain_fault.ensures c.in_default.not-Some in
    let p = err_from_is_err_and c.from_residual-in_err-selection.result c.from_residual-in_err-selection.ensures.1 in
    rw (p.1, p.2) (memory_refused c.args.workers c.args.dtype.now c.args.request.now none)

pub new-requires : goal.new-requires
new-requires c =
    let none = none-plain _ _ c.plain_fault.ensures c.in_default.not-Some in
    may_ask c.args.workers c.args.dtype.now c.args.request.now c.in_ok-projection.projection c.in_ok-filter.filter none
    c.in_ok-projection.ensures c.in_ok-filter.ensures c.copy_of-range.result c.copy_of-range.ensures c.in_ok-selection.selection

pub returns-clause-ok : goal.returns-clause-ok
returns-clause-ok c =
    let q = c.args.request.now in
    let b = c.in_ok-projection.projection in
    let f = c.in_ok-filter.filter in
    let none = none-plain _ _ c.plain_fault.ensures c.in_default.not-Some in
    let asks = c.new.ensures ∙ ap (λ r. file_ask b f r c.in_ok-selection.selection) c.copy_of-range.ensures ∙ ap (λ s. file_ask b f q.row_range s) c.in_ok-selection.ensures in
    asks_it c.args.workers c.args.dtype.now q b c.in_ok-projection.ensures f c.in_ok-filter.ensures none c.rises.ensures c.new.result asks
