use Rattle.std.proofs.Common.{◌∙◌, inr, refl, sym, rules}
use Rattle.std.proofs.lemmas.Result.{err_from_is_err_and, IfErr-weaker, IfOk-weaker}
use Rattle.scan_lookup_run.specs.Runs.{status_of_fault}
use Rattle.scan_lookup_run.proofs.Serving.{new_end, new_ends, new_lines}
use Rattle.scan_lookup_run.proofs.program.made_text.Goals as goal

pub new-requires : goal.new-requires
new-requires g c = let idle = c.requires.idle in search (rules, idle)

pub returns-in_err-cache-clause-ok : goal.returns-in_err-cache-clause-ok
returns-in_err-cache-clause-ok g c = let p = err_from_is_err_and c.from_residual.result c.from_residual.ensures.1 in rw (p.1) tt

pub returns-in_err-cache-clause-err : goal.returns-in_err-cache-clause-err
returns-in_err-cache-clause-err g c = let p = err_from_is_err_and c.from_residual.result c.from_residual.ensures.1 in rw (p.1, p.2) (λ j is are. inr (inr (inr refl)))

pub returns-in-Ok-clause-ok : goal.returns-in-Ok-clause-ok
returns-in-Ok-clause-ok g c =
    IfOk-weaker c.session_text.result _ _
    (λ text h. λ j is are. new_lines c.args.asked.now c.args.made.items c.requires j is are c.in-Ok.session c.in_ok-cache.cache text.items c.in-Ok.ensures.bound c.in_ok-cache.ensures.empty c.in-Ok.ensures.made
    (λ s. h j s (is.lookups ∙ sym c.as_slice.ensures)))
    c.session_text.ensures.ok

pub returns-in-Ok-clause-err : goal.returns-in-Ok-clause-err
returns-in-Ok-clause-err g c =
    IfErr-weaker c.session_text.result _ _
    (λ e h. λ j is are. new_ends c.args.asked.now c.args.made.items c.requires j is are c.in-Ok.session c.in_ok-cache.cache (status_of_fault e) c.in-Ok.ensures.bound c.in_ok-cache.ensures.empty c.in-Ok.ensures.made
    (λ s. h j s (is.lookups ∙ sym c.as_slice.ensures)))
    c.session_text.ensures.err

pub returns-in-Err-clause-err : goal.returns-in-Err-clause-err
returns-in-Err-clause-err g c = λ j is are. new_end c.args.asked.now c.args.made.items c.requires j is are c.in-Err.fault c.in-Err.ensures.bound
