use Rattle.scan_streams.proofs.Picks.{mask-fits, limited-fits}
use Rattle.scan_streams.proofs.queue.mask_of.Goals as goal

pub returns-in-Some-clause-length : goal.returns-in-Some-clause-length
returns-in-Some-clause-length c =
    limited-fits c.in-Some.most c.args.selection.now c.args.rows.now.range c.in_ok-mask.mask c.limit.result c.requires c.in_ok-mask.ensures c.limit.ensures

pub returns-in-None-clause-length : goal.returns-in-None-clause-length
returns-in-None-clause-length c = mask-fits c.args.selection.now c.args.rows.now.range c.in_ok-mask.mask c.requires c.in_ok-mask.ensures
