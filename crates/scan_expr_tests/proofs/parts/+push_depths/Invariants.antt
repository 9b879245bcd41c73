use Rattle.scan_expr_tests.proofs.parts.+push_depths.Given as goal

abbrev pub decreases-push_depths : goal.decreases-push_depths
decreases-push_depths g l = l.levels
