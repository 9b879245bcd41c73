use Rattle.scan_file.specs.declared.split.FileSplit.{FileSplit}
use Rattle.scan_file.proofs.Splitting.{finds_bad, gives_rows, same_split, wants_ids}
use Rattle.scan_file.proofs.split.FileSplitSplitWork.poll.Goals as goal

pub returns-in-Ok-clause-same : goal.returns-in-Ok-clause-same
returns-in-Ok-clause-same c = let new : FileSplit = record { future = c.poll_column.new.self } in same_split c.args.inbox.now new c.args.self.now c.poll_column.ensures.same

pub returns-in-Err-clause-same : goal.returns-in-Err-clause-same
returns-in-Err-clause-same c = let new : FileSplit = record { future = c.poll_column.new.self } in same_split c.args.inbox.now new c.args.self.now c.poll_column.ensures.same

pub returns-in-Pending-clause-answer : goal.returns-in-Pending-clause-answer
returns-in-Pending-clause-answer c = wants_ids c.args.inbox.now c.args.self.now c.in-Pending.ids c.in-Pending.ensures.answer

pub returns-in-Pending-clause-same : goal.returns-in-Pending-clause-same
returns-in-Pending-clause-same c = let new : FileSplit = record { future = c.poll_column.new.self } in same_split c.args.inbox.now new c.args.self.now c.poll_column.ensures.same

pub returns-in-Corrupt-clause-same : goal.returns-in-Corrupt-clause-same
returns-in-Corrupt-clause-same c = let new : FileSplit = record { future = c.poll_column.new.self } in same_split c.args.inbox.now new c.args.self.now c.poll_column.ensures.same

pub returns-in-Overflow-clause-same : goal.returns-in-Overflow-clause-same
returns-in-Overflow-clause-same c = let new : FileSplit = record { future = c.poll_column.new.self } in same_split c.args.inbox.now new c.args.self.now c.poll_column.ensures.same

pub returns-in-NoMemory-clause-same : goal.returns-in-NoMemory-clause-same
returns-in-NoMemory-clause-same c = let new : FileSplit = record { future = c.poll_column.new.self } in same_split c.args.inbox.now new c.args.self.now c.poll_column.ensures.same

pub returns-in-Ok-clause-answer : goal.returns-in-Ok-clause-answer
returns-in-Ok-clause-answer c = gives_rows c.args.inbox.now c.args.self.now c.poll_column.new.self c.in-Ready.values c.in-Ok.rows c.in-Ready.ensures.answer c.in-Ready.ensures.rows c.in-Ok.ensures

pub returns-in-Corrupt-clause-answer : goal.returns-in-Corrupt-clause-answer
returns-in-Corrupt-clause-answer c = finds_bad c.args.inbox.now c.args.self.now c.in-Corrupt.id c.in-Corrupt.ensures.answer
