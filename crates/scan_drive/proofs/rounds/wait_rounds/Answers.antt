use Rattle.std.proofs.Common.{◌≡◌, ◌++◌, [], List, sym, subst}
use Rattle.scan_drive.specs.Ends.{gives_first}
use Rattle.scan_drive.specs.Handed.{with_taken, made_by, named_in, WaitTakes}
use Rattle.scan_drive.specs.Rounds.{Stands}
use Rattle.scan_drive.specs.Steps.{RoundComes, WaitComes, WaitStops}
use Rattle.scan_drive.specs.declared.delivery.Chunk.{Chunk}
use Rattle.scan_drive.specs.declared.rounds.Round.{Round}
use Rattle.scan_drive.specs.declared.rounds.Round.TheVariants as round
use Rattle.scan_drive.proofs.Freeing.{never_opened}
use Rattle.scan_drive.proofs.Outgone.{stands_back}
use Rattle.scan_drive.proofs.Sinking.{hands_none, hands_then, by_first}
use Rattle.scan_drive.proofs.Waited.{Waited, waited_start, waited_keeps, waited_stops, waited_short, waited_on, waited_opened, waited_done, takes_now, takes_then, takes_first, waited_faulty, ends_stopped, ends_faulty}
use Rattle.scan_drive.proofs.rounds.wait_rounds.Goals as goal

pub rounds-init : goal.rounds-init
rounds-init g c =
    let state = g.X.SplitOpener.state c.args.context.now in
    let polls = g.X.SplitOpener.polls in
    let refuses = g.X.SplitOpener.refuses c.args.context.now in
    let admits = g.X.SplitOpener.admits c.args.context.now in
    let source = g.S.SegmentSource.state in
    let cache = g.C.KeyedSegmentCache.cache in
    let split = g.W.SplitWork.split in
    let comes = g.W.SplitWork.comes in
    let items = g.W.SplitWork.items in
    let made = made_by g.T.FromChunk.made (named_in c.args.order.now.items) in
    let fits = g.T.FromChunk.fits in
    let takes = g.K.ChunkSink.takes in
    let taking = g.met.K.ChunkSink.taking in
    record {
      hands = hands_none made fits takes taking c.args.sink.now (Waited state polls refuses admits source split comes items c.args.workers c.args.files.now.items (cache c.args.cache.now) c.args.drive.now c.args.files.now.items c.args.desks.now.items (cache c.args.cache.now) c.args.drive.now)
          (waited_start state polls refuses admits source split comes items c.args.workers c.args.files.now.items c.args.desks.now.items (cache c.args.cache.now) c.args.drive.now c.requires.stands c.requires.links c.requires.agree);
      free = c.requires.free;
    }

pub rounds-preserved : goal.rounds-preserved
rounds-preserved g c =
    let state = g.X.SplitOpener.state c.args.context.now in
    let polls = g.X.SplitOpener.polls in
    let refuses = g.X.SplitOpener.refuses c.args.context.now in
    let admits = g.X.SplitOpener.admits c.args.context.now in
    let source = g.S.SegmentSource.state in
    let cache = g.C.KeyedSegmentCache.cache in
    let split = g.W.SplitWork.split in
    let comes = g.W.SplitWork.comes in
    let items = g.W.SplitWork.items in
    let made = made_by g.T.FromChunk.made (named_in c.args.order.now.items) in
    let fits = g.T.FromChunk.fits in
    let takes = g.K.ChunkSink.takes in
    let taking = g.met.K.ChunkSink.taking in
    let hands = c.rounds.invariant.hands in
    let over = c.hand_over.ensures.over in
    let left : c.hand_over.new.chunks.items ≡ over.rest = rw c.in-Ok-More.is at over.left in
    let r : (ts : List (Chunk g.row.W-Rows.Denot)) → RoundComes state polls refuses admits source split comes items round.More c.rounds.files.items c.make_round.new.files.items c.make_round.new.desks.items (cache c.rounds.cache) (cache c.make_round.new.cache) (with_taken ts
    c.rounds.drive) (with_taken ts c.make_round.new.drive) =
    rw c.in-More.is at c.in-Ok.ensures.comes in
    record {
      hands = hands_then made fits takes taking c.args.sink.now c.rounds.sink c.hand_over.new.sink hands.chunks over.moved (Waited state polls refuses admits source split comes items c.args.workers c.args.files.now.items (cache c.args.cache.now) c.args.drive.now
          c.make_round.new.files.items c.make_round.new.desks.items (cache c.make_round.new.cache) (record c.make_round.new.drive { chunks = c.hand_over.new.chunks }))
          hands.took hands.fitting over.took over.fitting
          (waited_on state polls refuses admits source split comes items c.args.workers c.args.files.now.items (cache c.args.cache.now) c.args.drive.now c.rounds.files.items c.rounds.desks.items (cache c.rounds.cache) c.rounds.drive hands.chunks hands.so
          c.make_round.new.files.items c.make_round.new.desks.items (cache c.make_round.new.cache) c.make_round.ensures.keeps c.make_round.new.drive over.moved over.rest over.were c.hand_over.new.chunks left r);
      free = c.in-Ok.ensures.free;
    }

pub rounds-smaller : goal.rounds-smaller
rounds-smaller g c =
    let r = (rw c.in-More.is at c.in-Ok.ensures.comes) [] in
    r.comes_to.1

pub make_round-requires-clause-agree : goal.make_round-requires-clause-agree
make_round-requires-clause-agree g c κs lives =
    (c.rounds.invariant.hands.so []).keeps.agree

pub make_round-requires-clause-stands : goal.make_round-requires-clause-stands
make_round-requires-clause-stands g c κs lives =
    let w = c.rounds.invariant.hands.so [] in
    subst (λ n. Stands n c.rounds.drive) (sym w.keeps.moves.len) (stands_back c.rounds.invariant.hands.chunks _ c.rounds.drive w.goes.stands)

pub make_round-requires-clause-links : goal.make_round-requires-clause-links
make_round-requires-clause-links g c κs lives =
    (c.rounds.invariant.hands.so []).goes.links

pub returns-in-Err-clause-keeps : goal.returns-in-Err-clause-keeps
returns-in-Err-clause-keeps g c =
    let state = g.X.SplitOpener.state c.args.context.now in
    let polls = g.X.SplitOpener.polls in
    let refuses = g.X.SplitOpener.refuses c.args.context.now in
    let admits = g.X.SplitOpener.admits c.args.context.now in
    let source = g.S.SegmentSource.state in
    let cache = g.C.KeyedSegmentCache.cache in
    let split = g.W.SplitWork.split in
    let comes = g.W.SplitWork.comes in
    let items = g.W.SplitWork.items in
    let hands = c.rounds.invariant.hands in
    waited_keeps state polls refuses admits source split comes items c.args.workers c.args.files.now.items (cache c.args.cache.now) c.args.drive.now c.rounds.files.items c.rounds.desks.items (cache c.rounds.cache) c.rounds.drive hands.chunks hands.so
    c.make_round.new.files.items c.make_round.new.desks.items (cache c.make_round.new.cache) c.make_round.ensures.keeps c.make_round.new.drive

pub returns-in-Ok-Stop-clause-keeps : goal.returns-in-Ok-Stop-clause-keeps
returns-in-Ok-Stop-clause-keeps g c =
    let state = g.X.SplitOpener.state c.args.context.now in
    let polls = g.X.SplitOpener.polls in
    let refuses = g.X.SplitOpener.refuses c.args.context.now in
    let admits = g.X.SplitOpener.admits c.args.context.now in
    let source = g.S.SegmentSource.state in
    let cache = g.C.KeyedSegmentCache.cache in
    let split = g.W.SplitWork.split in
    let comes = g.W.SplitWork.comes in
    let items = g.W.SplitWork.items in
    let hands = c.rounds.invariant.hands in
    waited_keeps state polls refuses admits source split comes items c.args.workers c.args.files.now.items (cache c.args.cache.now) c.args.drive.now c.rounds.files.items c.rounds.desks.items (cache c.rounds.cache) c.rounds.drive hands.chunks hands.so
    c.make_round.new.files.items c.make_round.new.desks.items (cache c.make_round.new.cache) c.make_round.ensures.keeps c.make_round.new.drive

pub returns-in-Err-hand_over-clause-keeps : goal.returns-in-Err-hand_over-clause-keeps
returns-in-Err-hand_over-clause-keeps g c =
    let state = g.X.SplitOpener.state c.args.context.now in
    let polls = g.X.SplitOpener.polls in
    let refuses = g.X.SplitOpener.refuses c.args.context.now in
    let admits = g.X.SplitOpener.admits c.args.context.now in
    let source = g.S.SegmentSource.state in
    let cache = g.C.KeyedSegmentCache.cache in
    let split = g.W.SplitWork.split in
    let comes = g.W.SplitWork.comes in
    let items = g.W.SplitWork.items in
    let hands = c.rounds.invariant.hands in
    waited_keeps state polls refuses admits source split comes items c.args.workers c.args.files.now.items (cache c.args.cache.now) c.args.drive.now c.rounds.files.items c.rounds.desks.items (cache c.rounds.cache) c.rounds.drive hands.chunks hands.so
    c.make_round.new.files.items c.make_round.new.desks.items (cache c.make_round.new.cache) c.make_round.ensures.keeps c.make_round.new.drive

pub returns-in-Opened-clause-keeps : goal.returns-in-Opened-clause-keeps
returns-in-Opened-clause-keeps g c =
    let state = g.X.SplitOpener.state c.args.context.now in
    let polls = g.X.SplitOpener.polls in
    let refuses = g.X.SplitOpener.refuses c.args.context.now in
    let admits = g.X.SplitOpener.admits c.args.context.now in
    let source = g.S.SegmentSource.state in
    let cache = g.C.KeyedSegmentCache.cache in
    let split = g.W.SplitWork.split in
    let comes = g.W.SplitWork.comes in
    let items = g.W.SplitWork.items in
    let hands = c.rounds.invariant.hands in
    waited_keeps state polls refuses admits source split comes items c.args.workers c.args.files.now.items (cache c.args.cache.now) c.args.drive.now c.rounds.files.items c.rounds.desks.items (cache c.rounds.cache) c.rounds.drive hands.chunks hands.so
    c.make_round.new.files.items c.make_round.new.desks.items (cache c.make_round.new.cache) c.make_round.ensures.keeps c.make_round.new.drive

pub returns-in-Done-clause-keeps : goal.returns-in-Done-clause-keeps
returns-in-Done-clause-keeps g c =
    let state = g.X.SplitOpener.state c.args.context.now in
    let polls = g.X.SplitOpener.polls in
    let refuses = g.X.SplitOpener.refuses c.args.context.now in
    let admits = g.X.SplitOpener.admits c.args.context.now in
    let source = g.S.SegmentSource.state in
    let cache = g.C.KeyedSegmentCache.cache in
    let split = g.W.SplitWork.split in
    let comes = g.W.SplitWork.comes in
    let items = g.W.SplitWork.items in
    let hands = c.rounds.invariant.hands in
    waited_keeps state polls refuses admits source split comes items c.args.workers c.args.files.now.items (cache c.args.cache.now) c.args.drive.now c.rounds.files.items c.rounds.desks.items (cache c.rounds.cache) c.rounds.drive hands.chunks hands.so
    c.make_round.new.files.items c.make_round.new.desks.items (cache c.make_round.new.cache) c.make_round.ensures.keeps c.make_round.new.drive

pub returns-in-Err-clause-takes : goal.returns-in-Err-clause-takes
returns-in-Err-clause-takes g c =
    let state = g.X.SplitOpener.state c.args.context.now in
    let polls = g.X.SplitOpener.polls in
    let refuses = g.X.SplitOpener.refuses c.args.context.now in
    let admits = g.X.SplitOpener.admits c.args.context.now in
    let source = g.S.SegmentSource.state in
    let cache = g.C.KeyedSegmentCache.cache in
    let split = g.W.SplitWork.split in
    let comes = g.W.SplitWork.comes in
    let items = g.W.SplitWork.items in
    let made : Chunk g.row.W-Rows.Denot → g.row.T.Denot = made_by g.T.FromChunk.made (named_in c.args.order.now.items) in
    let fits = g.T.FromChunk.fits in
    let takes = g.K.ChunkSink.takes in
    let taking = g.met.K.ChunkSink.taking in
    let hands = c.rounds.invariant.hands in
    let over = c.hand_first-handed.ensures.over in
    let P : List (Chunk g.row.W-Rows.Denot) → Type 0 = (λ us. (ts : List (Chunk g.row.W-Rows.Denot)) → WaitTakes state source split comes items c.args.files.now.items (cache c.args.cache.now) (with_taken ts c.args.drive.now) (ts ++ us)) in
    by_first made fits takes taking c.args.sink.now c.rounds.sink c.hand_first-handed.new.sink hands.chunks over.moved (gives_first c.rounds.drive.ordered c.in-Err.fault) P hands.took hands.fitting over.took over.fitting
    (λ first. takes_first state polls refuses admits source split comes items c.args.workers c.args.files.now.items (cache c.args.cache.now) c.args.drive.now c.rounds.files.items c.rounds.desks.items (cache c.rounds.cache) c.rounds.drive hands.chunks hands.so
    c.make_round.new.files.items c.make_round.new.desks.items (cache c.make_round.new.cache) c.make_round.ensures.keeps c.make_round.new.drive over.moved over.rest over.were c.in-Err.fault c.in-Err.ensures.stops first)
    c.hand_first-handed.ensures.none
    (takes_now state polls refuses admits source split comes items c.args.workers c.args.files.now.items (cache c.args.cache.now) c.args.drive.now c.rounds.files.items c.rounds.desks.items (cache c.rounds.cache) c.rounds.drive hands.chunks hands.so)

pub returns-in-Err-clause-comes : goal.returns-in-Err-clause-comes
returns-in-Err-clause-comes g c =
    ends_stopped c.end_wait.result c.hand_first-handed.result (g.K.ChunkSink.full c.hand_first-handed.new.sink) _ c.end_wait.ensures.ok c.hand_first-handed.ensures.ends

pub returns-in-Ok-Stop-clause-takes : goal.returns-in-Ok-Stop-clause-takes
returns-in-Ok-Stop-clause-takes g c =
    let state = g.X.SplitOpener.state c.args.context.now in
    let polls = g.X.SplitOpener.polls in
    let refuses = g.X.SplitOpener.refuses c.args.context.now in
    let admits = g.X.SplitOpener.admits c.args.context.now in
    let source = g.S.SegmentSource.state in
    let cache = g.C.KeyedSegmentCache.cache in
    let split = g.W.SplitWork.split in
    let comes = g.W.SplitWork.comes in
    let items = g.W.SplitWork.items in
    let made = made_by g.T.FromChunk.made (named_in c.args.order.now.items) in
    let fits = g.T.FromChunk.fits in
    let takes = g.K.ChunkSink.takes in
    let taking = g.met.K.ChunkSink.taking in
    let hands = c.rounds.invariant.hands in
    let over = c.hand_over.ensures.over in
    hands_then made fits takes taking c.args.sink.now c.rounds.sink c.hand_over.new.sink hands.chunks over.moved (λ us. (ts : List (Chunk g.row.W-Rows.Denot)) → WaitTakes state source split comes items c.args.files.now.items (cache c.args.cache.now) (with_taken ts
    c.args.drive.now) (ts ++ us))
    hands.took hands.fitting over.took over.fitting
    (takes_then state polls refuses admits source split comes items c.args.workers c.args.files.now.items (cache c.args.cache.now) c.args.drive.now c.rounds.files.items c.rounds.desks.items (cache c.rounds.cache) c.rounds.drive hands.chunks hands.so
    c.make_round.new.files.items c.make_round.new.desks.items (cache c.make_round.new.cache) c.make_round.ensures.keeps c.make_round.new.drive over.moved over.rest over.were c.in-Ok.round c.in-Ok.ensures.comes)

pub returns-in-Err-hand_over-clause-takes : goal.returns-in-Err-hand_over-clause-takes
returns-in-Err-hand_over-clause-takes g c =
    let state = g.X.SplitOpener.state c.args.context.now in
    let polls = g.X.SplitOpener.polls in
    let refuses = g.X.SplitOpener.refuses c.args.context.now in
    let admits = g.X.SplitOpener.admits c.args.context.now in
    let source = g.S.SegmentSource.state in
    let cache = g.C.KeyedSegmentCache.cache in
    let split = g.W.SplitWork.split in
    let comes = g.W.SplitWork.comes in
    let items = g.W.SplitWork.items in
    let made = made_by g.T.FromChunk.made (named_in c.args.order.now.items) in
    let fits = g.T.FromChunk.fits in
    let takes = g.K.ChunkSink.takes in
    let taking = g.met.K.ChunkSink.taking in
    let hands = c.rounds.invariant.hands in
    let over = c.hand_over.ensures.over in
    hands_then made fits takes taking c.args.sink.now c.rounds.sink c.hand_over.new.sink hands.chunks over.moved (λ us. (ts : List (Chunk g.row.W-Rows.Denot)) → WaitTakes state source split comes items c.args.files.now.items (cache c.args.cache.now) (with_taken ts
    c.args.drive.now) (ts ++ us))
    hands.took hands.fitting over.took over.fitting
    (takes_then state polls refuses admits source split comes items c.args.workers c.args.files.now.items (cache c.args.cache.now) c.args.drive.now c.rounds.files.items c.rounds.desks.items (cache c.rounds.cache) c.rounds.drive hands.chunks hands.so
    c.make_round.new.files.items c.make_round.new.desks.items (cache c.make_round.new.cache) c.make_round.ensures.keeps c.make_round.new.drive over.moved over.rest over.were c.in-Ok.round c.in-Ok.ensures.comes)

pub returns-in-Opened-clause-takes : goal.returns-in-Opened-clause-takes
returns-in-Opened-clause-takes g c =
    let state = g.X.SplitOpener.state c.args.context.now in
    let polls = g.X.SplitOpener.polls in
    let refuses = g.X.SplitOpener.refuses c.args.context.now in
    let admits = g.X.SplitOpener.admits c.args.context.now in
    let source = g.S.SegmentSource.state in
    let cache = g.C.KeyedSegmentCache.cache in
    let split = g.W.SplitWork.split in
    let comes = g.W.SplitWork.comes in
    let items = g.W.SplitWork.items in
    let made = made_by g.T.FromChunk.made (named_in c.args.order.now.items) in
    let fits = g.T.FromChunk.fits in
    let takes = g.K.ChunkSink.takes in
    let taking = g.met.K.ChunkSink.taking in
    let hands = c.rounds.invariant.hands in
    let over = c.hand_over.ensures.over in
    hands_then made fits takes taking c.args.sink.now c.rounds.sink c.hand_over.new.sink hands.chunks over.moved (λ us. (ts : List (Chunk g.row.W-Rows.Denot)) → WaitTakes state source split comes items c.args.files.now.items (cache c.args.cache.now) (with_taken ts
    c.args.drive.now) (ts ++ us))
    hands.took hands.fitting over.took over.fitting
    (takes_then state polls refuses admits source split comes items c.args.workers c.args.files.now.items (cache c.args.cache.now) c.args.drive.now c.rounds.files.items c.rounds.desks.items (cache c.rounds.cache) c.rounds.drive hands.chunks hands.so
    c.make_round.new.files.items c.make_round.new.desks.items (cache c.make_round.new.cache) c.make_round.ensures.keeps c.make_round.new.drive over.moved over.rest over.were c.in-Ok.round c.in-Ok.ensures.comes)

pub returns-in-Done-clause-takes : goal.returns-in-Done-clause-takes
returns-in-Done-clause-takes g c =
    let state = g.X.SplitOpener.state c.args.context.now in
    let polls = g.X.SplitOpener.polls in
    let refuses = g.X.SplitOpener.refuses c.args.context.now in
    let admits = g.X.SplitOpener.admits c.args.context.now in
    let source = g.S.SegmentSource.state in
    let cache = g.C.KeyedSegmentCache.cache in
    let split = g.W.SplitWork.split in
    let comes = g.W.SplitWork.comes in
    let items = g.W.SplitWork.items in
    let made = made_by g.T.FromChunk.made (named_in c.args.order.now.items) in
    let fits = g.T.FromChunk.fits in
    let takes = g.K.ChunkSink.takes in
    let taking = g.met.K.ChunkSink.taking in
    let hands = c.rounds.invariant.hands in
    let over = c.hand_over.ensures.over in
    hands_then made fits takes taking c.args.sink.now c.rounds.sink c.hand_over.new.sink hands.chunks over.moved (λ us. (ts : List (Chunk g.row.W-Rows.Denot)) → WaitTakes state source split comes items c.args.files.now.items (cache c.args.cache.now) (with_taken ts
    c.args.drive.now) (ts ++ us))
    hands.took hands.fitting over.took over.fitting
    (takes_then state polls refuses admits source split comes items c.args.workers c.args.files.now.items (cache c.args.cache.now) c.args.drive.now c.rounds.files.items c.rounds.desks.items (cache c.rounds.cache) c.rounds.drive hands.chunks hands.so
    c.make_round.new.files.items c.make_round.new.desks.items (cache c.make_round.new.cache) c.make_round.ensures.keeps c.make_round.new.drive over.moved over.rest over.were c.in-Ok.round c.in-Ok.ensures.comes)

pub returns-in-Ok-Stop-clause-comes : goal.returns-in-Ok-Stop-clause-comes
returns-in-Ok-Stop-clause-comes g c =
    rw c.in-Ok-Stop.field-0-is at c.in-Ok-Stop.ensures.ends

pub returns-in-Opened-clause-comes : goal.returns-in-Opened-clause-comes
returns-in-Opened-clause-comes g c =
    let state = g.X.SplitOpener.state c.args.context.now in
    let polls = g.X.SplitOpener.polls in
    let refuses = g.X.SplitOpener.refuses c.args.context.now in
    let admits = g.X.SplitOpener.admits c.args.context.now in
    let source = g.S.SegmentSource.state in
    let cache = g.C.KeyedSegmentCache.cache in
    let split = g.W.SplitWork.split in
    let comes = g.W.SplitWork.comes in
    let items = g.W.SplitWork.items in
    let made = made_by g.T.FromChunk.made (named_in c.args.order.now.items) in
    let fits = g.T.FromChunk.fits in
    let takes = g.K.ChunkSink.takes in
    let taking = g.met.K.ChunkSink.taking in
    let hands = c.rounds.invariant.hands in
    let over = c.hand_over.ensures.over in
    let left : c.hand_over.new.chunks.items ≡ over.rest = rw c.in-Ok-More.is at over.left in
    let none : c.hand_over.new.chunks.items ≡ [] = rw c.in-Ok-More.field-0-is at c.in-Ok-More.ensures.ends in
    let r : (ts : List (Chunk g.row.W-Rows.Denot)) → RoundComes state polls refuses admits source split comes items round.Opened c.rounds.files.items c.make_round.new.files.items c.make_round.new.desks.items (cache c.rounds.cache) (cache c.make_round.new.cache) (with_taken ts
    c.rounds.drive) (with_taken ts c.make_round.new.drive) =
    rw c.in-Opened.is at c.in-Ok.ensures.comes in
    hands_then made fits takes taking c.args.sink.now c.rounds.sink c.hand_over.new.sink hands.chunks over.moved
    (λ us. (c.hand_over.new.chunks.items ≡ []) × ((ts : List (Chunk g.row.W-Rows.Denot)) → WaitComes state polls refuses admits source split comes items round.Opened c.args.files.now.items c.make_round.new.files.items c.make_round.new.desks.items (cache c.args.cache.now)
    (cache c.make_round.new.cache) (with_taken ts c.args.drive.now) (with_taken (ts ++ us) (record c.make_round.new.drive { chunks = c.hand_over.new.chunks }))))
    hands.took hands.fitting over.took over.fitting (
      none,
      waited_opened state polls refuses admits source split comes items c.args.workers c.args.files.now.items (cache c.args.cache.now) c.args.drive.now c.rounds.files.items c.rounds.desks.items (cache c.rounds.cache) c.rounds.drive hands.chunks hands.so
          c.make_round.new.files.items c.make_round.new.desks.items (cache c.make_round.new.cache) c.make_round.ensures.keeps c.make_round.new.drive over.moved over.rest over.were c.hand_over.new.chunks left r,
    )

pub returns-in-Done-clause-comes : goal.returns-in-Done-clause-comes
returns-in-Done-clause-comes g c =
    let state = g.X.SplitOpener.state c.args.context.now in
    let polls = g.X.SplitOpener.polls in
    let refuses = g.X.SplitOpener.refuses c.args.context.now in
    let admits = g.X.SplitOpener.admits c.args.context.now in
    let source = g.S.SegmentSource.state in
    let cache = g.C.KeyedSegmentCache.cache in
    let split = g.W.SplitWork.split in
    let comes = g.W.SplitWork.comes in
    let items = g.W.SplitWork.items in
    let made = made_by g.T.FromChunk.made (named_in c.args.order.now.items) in
    let fits = g.T.FromChunk.fits in
    let takes = g.K.ChunkSink.takes in
    let taking = g.met.K.ChunkSink.taking in
    let hands = c.rounds.invariant.hands in
    let over = c.hand_over.ensures.over in
    let left : c.hand_over.new.chunks.items ≡ over.rest = rw c.in-Ok-More.is at over.left in
    let none : c.hand_over.new.chunks.items ≡ [] = rw c.in-Ok-More.field-0-is at c.in-Ok-More.ensures.ends in
    let r : (ts : List (Chunk g.row.W-Rows.Denot)) → RoundComes state polls refuses admits source split comes items round.Done c.rounds.files.items c.make_round.new.files.items c.make_round.new.desks.items (cache c.rounds.cache) (cache c.make_round.new.cache) (with_taken ts
    c.rounds.drive) (with_taken ts c.make_round.new.drive) =
    rw c.in-Done.is at c.in-Ok.ensures.comes in
    hands_then made fits takes taking c.args.sink.now c.rounds.sink c.hand_over.new.sink hands.chunks over.moved
    (λ us. (c.hand_over.new.chunks.items ≡ []) × ((ts : List (Chunk g.row.W-Rows.Denot)) → WaitComes state polls refuses admits source split comes items round.Done c.args.files.now.items c.make_round.new.files.items c.make_round.new.desks.items (cache c.args.cache.now) (cache
    c.make_round.new.cache) (with_taken ts c.args.drive.now) (with_taken (ts ++ us) (record c.make_round.new.drive { chunks = c.hand_over.new.chunks }))))
    hands.took hands.fitting over.took over.fitting (
      none,
      waited_done state polls refuses admits source split comes items c.args.workers c.args.files.now.items (cache c.args.cache.now) c.args.drive.now c.rounds.files.items c.rounds.desks.items (cache c.rounds.cache) c.rounds.drive hands.chunks hands.so
          c.make_round.new.files.items c.make_round.new.desks.items (cache c.make_round.new.cache) c.make_round.ensures.keeps c.make_round.new.drive over.moved over.rest over.were c.hand_over.new.chunks left r,
    )

pub returns-in-Err-clause-stops : goal.returns-in-Err-clause-stops
returns-in-Err-clause-stops g c =
    let state = g.X.SplitOpener.state c.args.context.now in
    let polls = g.X.SplitOpener.polls in
    let refuses = g.X.SplitOpener.refuses c.args.context.now in
    let admits = g.X.SplitOpener.admits c.args.context.now in
    let source = g.S.SegmentSource.state in
    let cache = g.C.KeyedSegmentCache.cache in
    let split = g.W.SplitWork.split in
    let comes = g.W.SplitWork.comes in
    let items = g.W.SplitWork.items in
    let made : Chunk g.row.W-Rows.Denot → g.row.T.Denot = made_by g.T.FromChunk.made (named_in c.args.order.now.items) in
    let fits = g.T.FromChunk.fits in
    let takes = g.K.ChunkSink.takes in
    let taking = g.met.K.ChunkSink.taking in
    let hands = c.rounds.invariant.hands in
    let over = c.hand_first-handed.ensures.over in
    ends_faulty c.end_wait.result c.hand_first-handed.result c.in-Err.fault (c.hand_first-handed.new.chunks.items ≡ over.rest)
    (λ e. (us : List (Chunk g.row.W-Rows.Denot)) × ((ts : List (Chunk g.row.W-Rows.Denot)) → WaitStops state polls refuses admits source split comes items c.args.files.now.items c.make_round.new.files.items (cache c.args.cache.now) (with_taken ts c.args.drive.now) (with_taken
    (ts ++ us) (record c.make_round.new.drive { chunks = c.hand_first-handed.new.chunks })) e))
    c.end_wait.ensures.err over.left
    (λ left. (
      hands.chunks ++ over.moved,
      waited_faulty state polls refuses admits source split comes items c.args.workers c.args.files.now.items (cache c.args.cache.now) c.args.drive.now c.rounds.files.items c.rounds.desks.items (cache c.rounds.cache) c.rounds.drive hands.chunks hands.so
          c.make_round.new.files.items c.make_round.new.desks.items (cache c.make_round.new.cache) c.make_round.ensures.keeps c.make_round.new.drive over.moved over.rest over.were c.hand_first-handed.new.chunks left c.in-Err.fault c.in-Err.ensures.stops,
    )) (
      hands.chunks,
      waited_short state polls refuses admits source split comes items c.args.workers c.args.files.now.items (cache c.args.cache.now) c.args.drive.now c.rounds.files.items c.rounds.desks.items (cache c.rounds.cache) c.rounds.drive hands.chunks hands.so
          c.make_round.new.files.items c.make_round.new.desks.items (cache c.make_round.new.cache) c.make_round.ensures.keeps (record c.make_round.new.drive { chunks = c.hand_first-handed.new.chunks }),
    )

pub returns-in-Err-hand_over-clause-stops : goal.returns-in-Err-hand_over-clause-stops
returns-in-Err-hand_over-clause-stops g c =
    let state = g.X.SplitOpener.state c.args.context.now in
    let polls = g.X.SplitOpener.polls in
    let refuses = g.X.SplitOpener.refuses c.args.context.now in
    let admits = g.X.SplitOpener.admits c.args.context.now in
    let source = g.S.SegmentSource.state in
    let cache = g.C.KeyedSegmentCache.cache in
    let split = g.W.SplitWork.split in
    let comes = g.W.SplitWork.comes in
    let items = g.W.SplitWork.items in
    let hands = c.rounds.invariant.hands in (
      hands.chunks,
      waited_short state polls refuses admits source split comes items c.args.workers c.args.files.now.items (cache c.args.cache.now) c.args.drive.now c.rounds.files.items c.rounds.desks.items (cache c.rounds.cache) c.rounds.drive hands.chunks hands.so
          c.make_round.new.files.items c.make_round.new.desks.items (cache c.make_round.new.cache) c.make_round.ensures.keeps (record c.make_round.new.drive { chunks = c.hand_over.new.chunks }),
    )

pub returns-in-Err-clause-free : goal.returns-in-Err-clause-free
returns-in-Err-clause-free g c = never_opened c.end_wait.result _ _ c.end_wait.ensures.ok
