use Rattle.scan_pool.proofs.mail.run_work.Goals as goal

pub run-requires : goal.run-requires
run-requires g c = c.requires.callable _

pub returns : goal.returns
returns g c = c.requires.does _ _ c.run.ensures
