use Rattle.std.proofs.Common.{◌+◌, ◌*◌}
use Rattle.scan_tool.proofs.files.+segments.Given as goal

abbrev pub decreases-push_segments : goal.decreases-push_segments
decreases-push_segments l = 4 * l.levels

abbrev pub decreases-push_below : goal.decreases-push_below
decreases-push_below l = 4 * l.levels + 1
