use Rattle.scan_lookup.proofs.looking.read_file.Goals as goal

pub returns-in-Err-clause-fault : goal.returns-in-Err-clause-fault
returns-in-Err-clause-fault g c = record { why = c.in-Err.fault; is = c.fault_of.ensures; cause = c.in-Err.ensures.fault }
