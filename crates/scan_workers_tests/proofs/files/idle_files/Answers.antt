use Rattle.scan_workers_tests.proofs.Idle.{all_idle}
use Rattle.scan_workers_tests.proofs.files.idle_files.Goals as goal

pub returns : goal.returns
returns c = all_idle c.args.files c.in_ok-made.made.items c.in_ok-made.ensures
