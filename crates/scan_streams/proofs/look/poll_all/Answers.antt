use Rattle.std.proofs.Common.{◌≤◌, [], length, arith}
use Rattle.scan_streams.specs.Sources.{NoId}
use Rattle.scan_streams.proofs.Asking.{moves_then}
use Rattle.scan_streams.proofs.Parting.{halts_moved}
use Rattle.scan_streams.proofs.Sweeping.{sweeps_next, sweeps_all}
use Rattle.scan_streams.proofs.look.poll_all.Goals as goal

pub loop-id-preserved : goal.loop-id-preserved
loop-id-preserved g c =
    let state = g.S.SegmentSource.state in
    record {
      agree = c.poll_one.ensures.agree;
      links = c.in-Ok.ensures.links;
      moves = moves_then NoId (state c.args.source.now) (state c.loop-id.source) (state c.poll_one.new.source) c.loop-id.invariant.moves c.poll_one.ensures.source;
      sweeps = sweeps_next c.args.ids.now c.loop-id.id-index c.id-item.result c.loop-id.came c.in-Ok.one c.args.slots.now.items c.loop-id.slots.items c.poll_one.new.slots.items c.args.news.now.items c.loop-id.news.items c.poll_one.new.news.items c.args.desk.now
          c.loop-id.desk c.poll_one.new.desk (state c.args.source.now) (state c.loop-id.source) (state c.poll_one.new.source) c.loop-id.invariant.moves.holds c.loop-id.invariant.moves.turns c.poll_one.ensures.source.turns c.in-Ok.ensures.goes c.in-Ok.ensures.news
          c.in-Ok.ensures.polled c.loop-id.invariant.sweeps;
    }

pub returns-clause-fetched : goal.returns-clause-fetched
returns-clause-fetched g c =
    let le : length c.args.ids.now ≤ c.loop-id.id-index = omega (arith, c.loop-id-test.false) in
    sweeps_all c.args.ids.now c.loop-id.id-index c.loop-id.came c.args.slots.now.items c.loop-id.slots.items c.args.news.now.items c.loop-id.news.items c.args.desk.now c.loop-id.desk (g.S.SegmentSource.state c.args.source.now) (g.S.SegmentSource.state c.loop-id.source)
    c.requires.ids le c.loop-id.invariant.sweeps

pub returns-in-Err-clause-halts : goal.returns-in-Err-clause-halts
returns-in-Err-clause-halts g c =
    let state = g.S.SegmentSource.state in
    halts_moved NoId [] (state c.args.source.now) (state c.loop-id.source) (state c.poll_one.new.source) c.in-Err.halt c.loop-id.invariant.moves c.in-Err.ensures.halts
