use Rattle.std.proofs.Common.{refl, rules}
use Rattle.std.proofs.lemmas.Result.{IfOk-weaker, IfErr-weaker}
use Rattle.scan_run.proofs.Stopping.{ready}
use Rattle.scan_lookup_run.proofs.program.lookup_text.Goals as goal

pub made_text-requires : goal.made_text-requires
made_text-requires g c =
    let are = ready c.args.job.files c.in-Ok.made.items c.requires c.in-Ok.ensures in
    search (rules, are)

pub returns-in-Ok-clause-ok : goal.returns-in-Ok-clause-ok
returns-in-Ok-clause-ok g c = IfOk-weaker c.made_text.result _ _ (λ t h. h c.args.job (record { dtype = refl; projection = refl; lookups = refl }) c.in-Ok.ensures) c.made_text.ensures.ok

pub returns-in-Ok-clause-err : goal.returns-in-Ok-clause-err
returns-in-Ok-clause-err g c = IfErr-weaker c.made_text.result _ _ (λ e h. h c.args.job (record { dtype = refl; projection = refl; lookups = refl }) c.in-Ok.ensures) c.made_text.ensures.err
