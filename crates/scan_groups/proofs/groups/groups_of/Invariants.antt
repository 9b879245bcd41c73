use Rattle.std.proofs.Common.{◌≡◌, ◌++◌, map}
use Rattle.scan_groups.specs.Running.{made_of}
use Rattle.scan_groups.proofs.groups.groups_of.Given as goal

abbrev pub invariant-loop-key : goal.invariant-loop-key
invariant-loop-key l = l.made.items ++ map (made_of l.tallies) l.key-iterator ≡ map (made_of l.tallies) l.fn.keys.entries
