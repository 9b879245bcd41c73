use borrow.Author.Rules.{rules}
use Rattle.std.proofs.Common.{◌+◌, ◌<◌, Option, Ok, length, arith, subst}
use Rattle.std.proofs.lemmas.Result.{err_from_is_err_and}
use Rattle.scan_plans.specs.Came.{came, arrived}
use Rattle.scan_plans.specs.Meaning.{true_rows}
use Rattle.scan_plans.specs.OffsetReads.{Cuts}
use Rattle.scan_plans.specs.declared.lists.Cut.{Cut}
use Rattle.scan_plans.proofs.ListCells.{cut_count, whole_fault}
use Rattle.scan_plans.proofs.offsets.Offsets.whole.Goals as goal

pub returns-in_err-cut : goal.returns-in_err-cut
returns-in_err-cut c =
    let q = err_from_is_err_and c.from_residual.result c.from_residual.ensures.1 in
    rw (q.1, q.2) (whole_fault c.args.self.now (came c.args.inbox.now) (true_rows c.args.first c.args.mask.now) c.in_err-cut.field-0.0 c.in_err-cut.ensures)

pub rows_read-requires-clause-some : goal.rows_read-requires-clause-some
rows_read-requires-clause-some c =
    let o = c.args.self.now in
    let k = subst (λ (x : Option Cut). Cuts o (came c.args.inbox.now) (true_rows c.args.first c.args.mask.now) (Ok x)) c.in-Some.is c.in_ok-cut.ensures in
    let n = cut_count o (arrived (came c.args.inbox.now)) c.in-Some.cut.first (length c.in-Some.cut.mask + 1) c.in-Some.cut.offsets.items k.offsets in
    let some : 0 < length c.in-Some.cut.offsets.items = omega (arith, n) in
    search (rules, some)

pub rows_read-requires-clause-climbs : goal.rows_read-requires-clause-climbs
rows_read-requires-clause-climbs c =
    let o = c.args.self.now in
    let k = subst (λ (x : Option Cut). Cuts o (came c.args.inbox.now) (true_rows c.args.first c.args.mask.now) (Ok x)) c.in-Some.is c.in_ok-cut.ensures in
    search (rules, (k.offsets).climbs)
