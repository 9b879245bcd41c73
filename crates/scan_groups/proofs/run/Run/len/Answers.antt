use Rattle.scan_groups.proofs.Runs.{numbers_long, cells_long, nulls_long}
use Rattle.scan_groups.proofs.run.Run.len.Goals as goal

pub returns-in-Numbers : goal.returns-in-Numbers
returns-in-Numbers c = numbers_long c.args.self c.in-Numbers.numbers c.in-Numbers.is

pub returns-in-Cells : goal.returns-in-Cells
returns-in-Cells c = cells_long c.args.self c.in-Cells.cells c.in-Cells.is

pub returns-in-Nulls : goal.returns-in-Nulls
returns-in-Nulls c = nulls_long c.args.self c.in-Nulls.len c.in-Nulls.is
