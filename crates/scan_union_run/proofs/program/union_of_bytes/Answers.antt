use Rattle.std.proofs.Common.{sym, ◌∙◌}
use Rattle.std.proofs.lemmas.Result.{err_from_is_err_and}
use Rattle.scan_union_run.proofs.Reading.{no_other, none_at_all}
use Rattle.scan_union_run.proofs.program.union_of_bytes.Goals as goal

pub returns-in_err-manifest-clause-bad : goal.returns-in_err-manifest-clause-bad
returns-in_err-manifest-clause-bad c =
    let p = err_from_is_err_and c.from_residual.result c.from_residual.ensures.1 in
    rw (p.1, p.2) (λ e. none_at_all c.args.bytes.now (c.in_err-manifest.ensures.bad e))

pub returns-then-not-is_lru-clause-bad : goal.returns-then-not-is_lru-clause-bad
returns-then-not-is_lru-clause-bad c = λ e. no_other c.args.bytes.now c.in_ok-manifest.manifest c.in_ok-manifest.ensures.ok (sym c.is_lru.ensures ∙ c.if-not-is_lru.true)

pub returns-clause-ok : goal.returns-clause-ok
returns-clause-ok c = (c.in_ok-manifest.ensures.ok, sym c.is_lru.ensures ∙ c.if-not-is_lru.false)
