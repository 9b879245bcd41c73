use Rattle.std.proofs.Common.{refl, rules}
use Rattle.std.proofs.lemmas.Result.{IfOk-weaker, IfErr-weaker}
use Rattle.scan_run.proofs.Stopping.{ready}
use Rattle.scan_union_run.proofs.program.run_manifest.Goals as goal

pub scan_made-requires : goal.scan_made-requires
scan_made-requires g c =
    let are = ready c.args.manifest.files c.in-Ok.made.items c.requires c.in-Ok.ensures in
    search (rules, are)

pub returns-in-Ok-clause-ok : goal.returns-in-Ok-clause-ok
returns-in-Ok-clause-ok g c = IfOk-weaker c.scan_made.result _ _ (λ o h. h c.args.manifest (record { dtype = refl; request = refl; workers = refl }) c.in-Ok.ensures) c.scan_made.ensures.ok

pub returns-in-Ok-clause-stop : goal.returns-in-Ok-clause-stop
returns-in-Ok-clause-stop g c = IfErr-weaker c.scan_made.result _ _ (λ o h. h c.args.manifest (record { dtype = refl; request = refl; workers = refl }) c.in-Ok.ensures) c.scan_made.ensures.stop
