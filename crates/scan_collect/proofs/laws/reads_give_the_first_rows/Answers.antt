use Rattle.scan_collect.proofs.Picking.{reads_give}
use Rattle.scan_collect.proofs.laws.reads_give_the_first_rows.Goals as goal

pub returns : goal.returns
returns g c = λ state b s r t store arrays builder rises is scan past made room read.
    reads_give c.streams_give_the_first_rows.ensures c.splits_give_what_is_asked.ensures state b s r t store arrays builder rises is scan past made room read
