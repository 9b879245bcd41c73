use Rattle.std.proofs.Common.{◌+◌, ◌*◌}
use Rattle.scan_tool.proofs.show.+show.Given as goal

abbrev pub decreases-push_layout : goal.decreases-push_layout
decreases-push_layout l = 4 * l.levels

abbrev pub decreases-push_children : goal.decreases-push_children
decreases-push_children l = 4 * l.levels + 1
