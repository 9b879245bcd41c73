use Rattle.scan_drive.proofs.Giving.{gives_all}
use Rattle.scan_drive.proofs.delivery.give.Goals as goal

pub returns-in_ok-push_rows-in-None-clause-gives : goal.returns-in_ok-push_rows-in-None-clause-gives
returns-in_ok-push_rows-in-None-clause-gives g c =
    gives_all g.W.SplitWork.items c.args.file (g.W.SplitWork.items c.args.rows) c.args.chunks.now.items c.push_rows-in-None.new.chunks.items c.count-count.result c.args.left.now c.less.result c.in_ok-push_rows-in-None.ensures.given c.count-count.ensures c.in-None.ensures c.less.ensures
