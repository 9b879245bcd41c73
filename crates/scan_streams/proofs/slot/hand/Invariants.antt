use Rattle.std.proofs.Common.{drop}
use Rattle.scan_streams.proofs.Handing.{Hands}
use Rattle.scan_streams.proofs.slot.hand.Given as goal

abbrev pub invariant-loop-place : goal.invariant-loop-place
invariant-loop-place l = Hands l.id l.arrival (drop l.place-index l.places) l.places l.fn.slots.items l.slots.items l.fn.news.items l.news.items
