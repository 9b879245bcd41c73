use Rattle.std.proofs.Common.{sym, subst, rules}
use Rattle.scan_manifest.specs.declared.manifest.Manifest.{Manifest}
use Rattle.scan_run.specs.FileOf.{AreFilesOf}
use Rattle.scan_run.specs.declared.run.Stop.{Stop}
use Rattle.scan_union_run.specs.AskedOf.{IsAsked}
use Rattle.scan_union_run.specs.Unions.{IsUnionStop}
use Rattle.scan_union_run.proofs.Stopping.{asked_stopped, asked_united}
use Rattle.scan_union_run.proofs.program.scan_made.Goals as goal

pub scan_union_columns-requires-clause-idle : goal.scan_union_columns-requires-clause-idle
scan_union_columns-requires-clause-idle g c = let idle = c.requires.idle in search (rules, idle)

pub returns-in-Ok-clause-ok : goal.returns-in-Ok-clause-ok
returns-in-Ok-clause-ok g c =
    asked_united c.args.asked.now c.args.made.items c.scan_union_columns.new.files.items c.requires c.in-Ok.out c.in-Ok.ensures.ok

pub returns-clause-stop : goal.returns-clause-stop
returns-clause-stop g c =
    let a = c.args.asked.now in
    let made = c.args.made.items in
    let P : Stop → Type 0 = λ s. (m : Manifest) → IsAsked m a → AreFilesOf m.files made → IsUnionStop m s in
    subst P (sym c.stop_by.ensures) (asked_stopped a made c.scan_union_columns.new.files.items c.requires c.scan_union_columns.ensures.moves c.in-Err.fault c.in-Err.ensures.err.cause)
