use Rattle.scan_limit.proofs.limit.RowLimit.split.Given as goal

abbrev pub ghosts-cut : goal.ghosts-cut
ghosts-cut a = record { amount = a.room }
