use Rattle.scan_sharing.proofs.Slots.{unused_if}
use Rattle.scan_sharing.proofs.shared.new_number.Goals as goal

pub returns-clause-free : goal.returns-clause-free
returns-clause-free c = unused_if c.free_number.result c.args.entries.now.entries c.free_number.ensures.free
