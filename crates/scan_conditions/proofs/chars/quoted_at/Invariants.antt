use Rattle.std.proofs.Common.{◌<◌}
use Rattle.scan_conditions.proofs.chars.quoted_at.Given as goal

abbrev pub invariant-quoted : goal.invariant-quoted
invariant-quoted l = l.at < l.end-2
