use Rattle.std.proofs.Common.{◌+◌, ◌<◌, arith}
use Rattle.scan_readers.proofs.Evaluating.{fewer_rows}
use Rattle.scan_seek.proofs.reading.only_row.Goals as goal

pub project-requires-clause-rows : goal.project-requires-clause-rows
project-requires-clause-rows c = fewer_rows (c.args.plan.now.value).tree (c.args.row + 1) c.args.count (let l = c.requires.below in omega (arith, l)) c.requires.rows
