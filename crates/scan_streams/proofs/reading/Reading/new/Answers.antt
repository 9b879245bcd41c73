use Rattle.std.proofs.Common.{[], refl, arith}
use Rattle.scan_streams.proofs.Standing.{standing, stands_new}
use Rattle.scan_streams.proofs.reading.Reading.new.Goals as goal

pub returns-clause-stands : goal.returns-clause-stands
returns-clause-stands c = standing _ c.args.ordered 0 c.start_all.new.slots.items c.start_all.new.queue c.start_all.new.news.items [] [] (record { ordered = refl; head = refl; slots = refl; queue = refl; news = refl; done = c.new.ensures.items; desk = c.new-2.ensures })
    (stands_new c.args.ordered c.min-count.result c.args.splits c.start_all.new.slots.items c.start_all.new.queue c.start_all.new.news.items c.in_ok-start_all.ensures (λ e. omega (arith, e, c.requires, c.min-count.ensures, c.len.ensures)))

pub returns-clause-begun : goal.returns-clause-begun
returns-clause-begun c = let l = (c.in_ok-start_all.ensures).len in omega (arith, l, c.min-count.ensures, c.len.ensures)
