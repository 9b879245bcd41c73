use Rattle.std.proofs.Common.{sym, subst, rules}
use Rattle.scan_segments.specs.Cache.{CacheState, empty_cache}
use Rattle.scan_segments.specs.MemorySource.{source_state}
use Rattle.scan_segments.specs.declared.segment.SegmentKey.{SegmentKey}
use Rattle.scan_multi.specs.Answer.{answer}
use Rattle.scan_multi.specs.Causes.{HasCause}
use Rattle.scan_multi.specs.Lawful.{IsLawful, told}
use Rattle.scan_multi.specs.Output.{Admits}
use Rattle.scan_manifest.specs.declared.manifest.Manifest.{Manifest}
use Rattle.scan_run.specs.declared.run.Stop.{Stop}
use Rattle.scan_run.specs.AskedOf.{IsAsked}
use Rattle.scan_run.specs.FileOf.{memory_opener, AreFilesOf}
use Rattle.scan_run.specs.Stops.{IsStop}
use Rattle.scan_run.proofs.Stopping.{asked_scanned, asked_stopped}
use Rattle.scan_run.proofs.run.scan_made.Goals as goal

pub scan_columns_of-requires : goal.scan_columns_of-requires
scan_columns_of-requires g c = let idle = c.requires.idle in search (rules, idle)

pub returns-in-Ok-scan_columns_of-clause-ok : goal.returns-in-Ok-scan_columns_of-clause-ok
returns-in-Ok-scan_columns_of-clause-ok g c =
    let a = c.args.asked.now in
    let P : CacheState SegmentKey → Type 0 = λ z. IsLawful memory_opener source_state c.args.made.items z → Admits a.dtype a.request (answer a.dtype a.request (told memory_opener source_state c.args.made.items)) c.in-Ok-scan_columns_of.out.chunks in
    asked_scanned a c.args.made.items c.requires _ c.in-Ok-scan_columns_of.ensures.ok.types (subst P c.in-Ok.ensures.empty c.in-Ok-scan_columns_of.ensures.ok.admits)

pub returns-clause-stop : goal.returns-clause-stop
returns-clause-stop g c =
    let a = c.args.asked.now in
    let e = c.in-Err-scan_columns_of.e in
    let P : Stop → Type 0 = λ s. (m : Manifest) → IsAsked m a → AreFilesOf m.files c.args.made.items → IsStop m s in
    let Q : CacheState SegmentKey → Type 0 = λ z. HasCause memory_opener source_state a.workers a.dtype a.request z c.args.made.items c.scan_columns_of.new.files.items e in
    subst P (sym c.stop_of.ensures) (asked_stopped a c.args.made.items c.requires c.scan_columns_of.new.files.items e (subst Q c.in-Ok.ensures.empty c.in-Err-scan_columns_of.ensures.err.cause))
