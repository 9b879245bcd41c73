use Rattle.std.proofs.Common.{◌+◌, ◌*◌}
use Rattle.scan_tool.proofs.explain.+wanted.Given as goal

abbrev pub decreases-push_wanted : goal.decreases-push_wanted
decreases-push_wanted l = 4 * l.levels

abbrev pub decreases-push_children : goal.decreases-push_children
decreases-push_children l = 4 * l.levels + 1
