use Rattle.scan_segments.specs.MemorySource.{source_state}
use Rattle.scan_streams.specs.Streams.{LiveAs}
use Rattle.scan_core_tests.proofs.array_streams.polls.Given as goal

abbrev pub invariant-loop : goal.invariant-loop
invariant-loop g l = LiveAs (source_state l.source).live l.stream.feed.live
