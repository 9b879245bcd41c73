use Rattle.scan_streams.specs.Readings.{Starts}
use Rattle.scan_streams.proofs.start.start_all.Given as goal

abbrev pub invariant-loop-place : goal.invariant-loop-place
invariant-loop-place l = Starts l.place l.fn.queue l.slots.items l.queue l.news.items
