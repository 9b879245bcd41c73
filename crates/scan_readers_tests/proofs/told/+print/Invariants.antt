use Rattle.std.proofs.Common.{◌+◌, ◌*◌}
use Rattle.scan_readers_tests.proofs.told.+print.Given as goal

abbrev pub decreases-push_value : goal.decreases-push_value
decreases-push_value g l = 2 * l.levels

abbrev pub decreases-push_values : goal.decreases-push_values
decreases-push_values g l = 2 * l.levels + 1
