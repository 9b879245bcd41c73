use Rattle.std.proofs.Common.{arith, length, ◌<◌, ◌+◌, subst, sym, List}
use Rattle.scan_streams.specs.Readings.{Starts}
use Rattle.scan_streams.specs.declared.slot.Slot.{Slot}
use Rattle.scan_streams.proofs.Starting.{starts_none, starts_next}
use Rattle.scan_streams.proofs.start.start_all.Goals as goal

pub loop-place-preserved : goal.loop-place-preserved
loop-place-preserved c =
    let lt : c.loop-place.place < length c.args.queue.now = let n = c.requires.count in omega (arith, c.loop-place-test.true, n) in
    subst (λ (ss : List Slot). Starts (c.loop-place.place + 1) c.args.queue.now ss c.next_split.new.queue c.next_split.new.news.items) (sym c.in_ok-push.ensures.items)
    (starts_next c.loop-place.place c.args.queue.now c.loop-place.slots.items c.loop-place.queue c.loop-place.news.items c.in_ok-slot.slot c.next_split.new.queue c.next_split.new.news.items lt c.in_ok-slot.ensures.slot c.in_ok-slot.ensures.queue c.in_ok-slot.ensures.news c.loop-place.invariant)

pub loop-place-init : goal.loop-place-init
loop-place-init c = starts_none c.args.queue.now c.args.slots.now.items c.args.news.now.items c.requires.none
