use Rattle.scan_sharing.proofs.Holders.{taken}
use Rattle.scan_sharing.proofs.entry.take_number.Goals as goal

pub returns : goal.returns
returns c = taken c.args.number c.args.holders.now.keys c.remove.new.self.keys c.remove.ensures.keys c.remove.ensures.updates.1
