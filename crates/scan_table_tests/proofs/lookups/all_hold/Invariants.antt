use Rattle.std.proofs.Common.{◌≤◌, length}
use Rattle.scan_table_tests.proofs.lookups.all_hold.Given as goal

abbrev pub invariant-loop-line : goal.invariant-loop-line
invariant-loop-line g l = l.files ≤ length l.session.files
