use Rattle.std.proofs.Common.{◌+◌, ◌-◌, ◌≤◌, length, vec_len}
use Rattle.scan_run.specs.ReadAll.{CameIn}
use Rattle.scan_run.proofs.input.read_all.Given as goal

abbrev pub invariant-reading : goal.invariant-reading
invariant-reading g l = CameIn l.bytes.items (g.I.Input.input l.fn.input) (g.I.Input.input l.input) × (length l.bytes.items ≤ 67108864 + 65536)

abbrev pub decreases-reading : goal.decreases-reading
decreases-reading g l = 67108865 - vec_len l.bytes
