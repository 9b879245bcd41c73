use Rattle.std.proofs.Common.{sym}
use Rattle.scan_manifest.proofs.Lists.{pair_of-not}
use Rattle.scan_manifest.proofs.json.two.Goals as goal

pub returns-then-items-ne2 : goal.returns-then-items-ne2
returns-then-items-ne2 c = sym (pair_of-not _ c.if-items-ne2.true)
