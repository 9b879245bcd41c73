use Rattle.std.proofs.Common.{rules}
use Rattle.scan_manifest.proofs.CallerLemmas.{manifest_agrees}
use Rattle.scan_run.proofs.Stopping.{ready}
use Rattle.scan_run_tests.proofs.scans.scanned.Goals as goal

pub scan_twice-requires : goal.scan_twice-requires
scan_twice-requires g c =
    let agree = manifest_agrees c.as_bytes.result.now c.in_ok-manifest.manifest c.in_ok-manifest.ensures.ok in
    let are = ready c.in_ok-manifest.manifest.files c.in_ok-files.files.items agree c.in_ok-files.ensures in
    let idle = are.idle in
    search (rules, idle)
