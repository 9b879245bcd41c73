use Rattle.scan_manifest.proofs.CallerLemmas.{manifest_agrees}
use Rattle.scan_run.proofs.Stopping.{ready}
use Rattle.scan_table_tests.proofs.files.make.Goals as goal

pub returns : goal.returns
returns c =
    let agree = manifest_agrees c.as_bytes.result.now c.in_ok-manifest.manifest c.in_ok-manifest.ensures.ok in
    let are = ready c.in_ok-manifest.manifest.files c.in_ok-files.files.items agree c.in_ok-files.ensures in
    are.idle
