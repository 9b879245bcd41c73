use Rattle.std.proofs.Common.{sym}
use Rattle.scan_disk.proofs.JsonValues.{four_of-not}
use Rattle.scan_disk.proofs.place.four.Goals as goal

pub returns-then-items-ne4 : goal.returns-then-items-ne4
returns-then-items-ne4 c = sym (four_of-not _ c.if-items-ne4.true)
