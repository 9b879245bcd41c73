use Rattle.std.proofs.Common.{◌≡◌, drop}
use Rattle.scan_manifest.specs.Manifest.{all_agree}
use Rattle.scan_manifest.proofs.Firsts.{settled, looked_up}
use Rattle.scan_manifest.proofs.agreement.files_agree.Given as goal

abbrev pub invariant-loop-file : goal.invariant-loop-file
invariant-loop-file l = all_agree l.files ≡ settled (looked_up l.firsts) (drop l.file-index l.files)
