use Rattle.uses.proofs.files_twice.files_asked.Goals as goal

pub returns-in-Ok-clause-count : goal.returns-in-Ok-clause-count
returns-in-Ok-clause-count g c = (c.in-Ok.scan.files, (c.in-Ok.ensures.scan, c.partition_count.ensures))
