use borrow.Author.Rules.{rules}
use Rattle.std.proofs.Common.{◌+◌, Option, Ok, length, ap, subst, ◌∙◌}
use Rattle.std.proofs.lemmas.Result.{err_from_is_err_and}
use Rattle.scan_plans.specs.Came.{came, arrived}
use Rattle.scan_plans.specs.Meaning.{true_rows}
use Rattle.scan_plans.specs.OffsetReads.{Cuts}
use Rattle.scan_plans.specs.declared.lists.Cut.{Cut}
use Rattle.scan_plans.proofs.ListCells.{cut_count, lengths_fault}
use Rattle.scan_plans.proofs.ListRows.{lengths_ok, lengths_none}
use Rattle.scan_plans.proofs.lists.read_lengths.Goals as goal

pub returns-in_err-cut : goal.returns-in_err-cut
returns-in_err-cut c =
    let q = err_from_is_err_and c.from_residual.result c.from_residual.ensures.1 in
    rw (q.1, q.2) (lengths_fault c.args.offsets.now (came c.args.inbox.now) (true_rows c.args.first c.args.mask.now) c.in_err-cut.field-0.0 c.in_err-cut.ensures)

pub returns-in_ok-lengths_of-in-Some : goal.returns-in_ok-lengths_of-in-Some
returns-in_ok-lengths_of-in-Some c =
    let here = came c.args.inbox.now in
    let is = true_rows c.args.first c.args.mask.now in
    let k = subst (λ (x : Option Cut). Cuts c.args.offsets.now here is (Ok x)) c.in-Some.is c.in_ok-cut.ensures in
    lengths_ok c.args.offsets.now here is c.in-Some.cut c.in_ok-lengths_of-in-Some.field-0 k (search (rules, c.in_ok-lengths_of-in-Some.ensures))

pub returns-in_ok-no_lengths-in-None : goal.returns-in_ok-no_lengths-in-None
returns-in_ok-no_lengths-in-None c =
    let here = came c.args.inbox.now in
    let is = true_rows c.args.first c.args.mask.now in
    let none = subst (λ (x : Option Cut). Cuts c.args.offsets.now here is (Ok x)) c.in-None.is c.in_ok-cut.ensures in
    lengths_none c.args.offsets.now here is c.in_ok-no_lengths-in-None.field-0 none c.in_ok-no_lengths-in-None.ensures

pub lengths_of-requires-clause-length : goal.lengths_of-requires-clause-length
lengths_of-requires-clause-length c =
    let here = came c.args.inbox.now in
    let is = true_rows c.args.first c.args.mask.now in
    let k = subst (λ (x : Option Cut). Cuts c.args.offsets.now here is (Ok x)) c.in-Some.is c.in_ok-cut.ensures in
    ap length c.deref.ensures.value ∙ cut_count c.args.offsets.now (arrived here) c.in-Some.cut.first (length c.in-Some.cut.mask + 1) c.in-Some.cut.offsets.items k.offsets
