use Rattle.std.proofs.Common.{◌≡◌, ◌∙◌, ◌++◌, ℕ, [], List, length, drop, refl, sym, ap, subst, arith, ◌<◌}
use Rattle.std.specs.List.{range_with_len}
use Rattle.std.specs.List.Sorted.{SwapsInRange}
use Rattle.std.proofs.Math.Seq.{drop-append_seam}
use Rattle.std.proofs.lemmas.List.FromFn.{length-range_with_len}
use Rattle.scan_drive.specs.Chunks.{IsOf}
use Rattle.scan_drive.specs.Ends.{limit_in}
use Rattle.scan_drive.specs.Handed.{with_taken, Hands, made_by, WaitTakes, DriveTakes}
use Rattle.scan_drive.specs.Line.{exchanged, placed_by}
use Rattle.scan_drive.specs.Rounds.{Stands}
use Rattle.scan_drive.specs.Steps.{WaitComes, LineEnds}
use Rattle.scan_drive.specs.declared.delivery.Chunk.{Chunk}
use Rattle.scan_drive.specs.declared.rounds.Round.TheVariants as round
use Rattle.scan_drive.proofs.Exchanging.{length_exchanged, range_more}
use Rattle.scan_drive.proofs.Lined.{Lined, lined_start}
use Rattle.scan_drive.proofs.LinePolls.{exchanged_append}
use Rattle.scan_drive.proofs.LineSteps.{line_now, line_short, line_keeps, line_ends, line_stops, line_brought, line_fewer, line_waits, line_takes, line_taken_now}
use Rattle.scan_drive.proofs.Outgone.{all_first, line_taken, stands_back}
use Rattle.scan_drive.proofs.Restoring.{named_by}
use Rattle.scan_drive.proofs.Sinking.{hands_none, hands_then, hands_both, placed_on}
use Rattle.scan_drive.proofs.Starting.{starts_limit}
use Rattle.scan_drive.proofs.rounds.run_rounds.Goals as goal

pub opens-init : goal.opens-init
opens-init g c =
    let state = g.X.SplitOpener.state c.args.context.now in
    let polls = g.X.SplitOpener.polls in
    let refuses = g.X.SplitOpener.refuses c.args.context.now in
    let admits = g.X.SplitOpener.admits c.args.context.now in
    let source = g.S.SegmentSource.state in
    let cache = g.C.KeyedSegmentCache.cache in
    let split = g.W.SplitWork.split in
    let comes = g.W.SplitWork.comes in
    let items = g.W.SplitWork.items in
    let files = c.args.files.now.items in
    let made : Chunk g.row.W-Rows.Denot → g.row.T.Denot = made_by g.T.FromChunk.made (placed_by c.args.exchanges.now.items) in
    record {
      hands = hands_none made g.T.FromChunk.fits g.K.ChunkSink.takes g.met.K.ChunkSink.taking c.args.sink.now
          (λ us. Lined state polls refuses admits source split comes items (cache c.args.cache.now) c.args.drive.now c.args.workers files c.args.exchanges.now.items files c.args.desks.now.items (cache c.args.cache.now) (with_taken us c.args.drive.now))
          (lined_start state polls refuses admits source split comes items (cache c.args.cache.now) c.args.drive.now c.args.workers files c.args.exchanges.now.items c.args.desks.now.items c.requires.none.0 c.requires.starts.0 c.requires.starts.1 c.requires.idle c.requires.agree);
      order = c.requires.none.1 ∙ ap (λ ss. exchanged ss (range_with_len 0 (length files))) (sym c.requires.none.0);
      free = c.requires.free;
    }

pub wait_rounds-requires-clause-stands : goal.wait_rounds-requires-clause-stands
wait_rounds-requires-clause-stands g c κs lives =
    let h = c.opens.invariant.hands in
    subst (λ n. Stands n c.opens.drive) (sym h.so.runs.moves.len) (stands_back h.chunks _ c.opens.drive h.so.runs.stands)

pub wait_rounds-requires-clause-agree : goal.wait_rounds-requires-clause-agree
wait_rounds-requires-clause-agree g c κs lives =
    c.opens.invariant.hands.so.runs.agree

pub wait_rounds-requires-clause-links : goal.wait_rounds-requires-clause-links
wait_rounds-requires-clause-links g c κs lives =
    c.opens.invariant.hands.so.runs.links

pub returns-in-Ok-Done-clause-keeps : goal.returns-in-Ok-Done-clause-keeps
returns-in-Ok-Done-clause-keeps g c =
    let state = g.X.SplitOpener.state c.args.context.now in
    let polls = g.X.SplitOpener.polls in
    let refuses = g.X.SplitOpener.refuses c.args.context.now in
    let admits = g.X.SplitOpener.admits c.args.context.now in
    let source = g.S.SegmentSource.state in
    let cache = g.C.KeyedSegmentCache.cache in
    let split = g.W.SplitWork.split in
    let comes = g.W.SplitWork.comes in
    let items = g.W.SplitWork.items in
    let fits = g.T.FromChunk.fits in
    let takes = g.K.ChunkSink.takes in
    let taking = g.met.K.ChunkSink.taking in
    let files = c.args.files.now.items in
    let inv = c.opens.invariant in
    let hands = inv.hands in
    let log = c.opens.exchanges.items in
    let made : Chunk g.row.W-Rows.Denot → g.row.T.Denot = made_by g.T.FromChunk.made (placed_by log) in
    let same = named_by log (length files) c.opens.order.items hands.so.places inv.order in
    let lim : limit_in split comes items c.args.drive.now ≡ c.args.drive.now.left = starts_limit (length files) c.args.drive.now.left c.args.drive.now c.requires.starts.0 split comes items in
    line_keeps state polls refuses admits source split comes items (cache c.args.cache.now) c.args.drive.now c.args.workers c.requires.workers files log c.opens.files.items c.opens.desks.items (cache c.opens.cache) (with_taken hands.chunks c.opens.drive) lim hands.so
    c.wait_rounds.new.files.items c.wait_rounds.new.desks.items (cache c.wait_rounds.new.cache) (with_taken hands.chunks c.wait_rounds.new.drive) (c.wait_rounds.ensures.keeps hands.chunks)

pub returns-in-Ok-Done-clause-order : goal.returns-in-Ok-Done-clause-order
returns-in-Ok-Done-clause-order g c =
    c.opens.invariant.order

pub returns-in-Ok-Done-clause-takes : goal.returns-in-Ok-Done-clause-takes
returns-in-Ok-Done-clause-takes g c =
    let state = g.X.SplitOpener.state c.args.context.now in
    let polls = g.X.SplitOpener.polls in
    let refuses = g.X.SplitOpener.refuses c.args.context.now in
    let admits = g.X.SplitOpener.admits c.args.context.now in
    let source = g.S.SegmentSource.state in
    let cache = g.C.KeyedSegmentCache.cache in
    let split = g.W.SplitWork.split in
    let comes = g.W.SplitWork.comes in
    let items = g.W.SplitWork.items in
    let fits = g.T.FromChunk.fits in
    let takes = g.K.ChunkSink.takes in
    let taking = g.met.K.ChunkSink.taking in
    let files = c.args.files.now.items in
    let inv = c.opens.invariant in
    let hands = inv.hands in
    let log = c.opens.exchanges.items in
    let made : Chunk g.row.W-Rows.Denot → g.row.T.Denot = made_by g.T.FromChunk.made (placed_by log) in
    let same = named_by log (length files) c.opens.order.items hands.so.places inv.order in
    let lim : limit_in split comes items c.args.drive.now ≡ c.args.drive.now.left = starts_limit (length files) c.args.drive.now.left c.args.drive.now c.requires.starts.0 split comes items in
    let P : List (Chunk g.row.W-Rows.Denot) → Type 0 = λ us. (ts : List (Chunk g.row.W-Rows.Denot)) → WaitTakes state source split comes items c.opens.files.items (cache c.opens.cache) (with_taken ts c.opens.drive) (ts ++ us) in
    let w : Hands made fits takes c.opens.sink c.wait_rounds.new.sink P = subst (λ f. Hands (made_by g.T.FromChunk.made f) fits takes c.opens.sink c.wait_rounds.new.sink P) same c.wait_rounds.ensures.takes in
    hands_then made fits takes taking c.args.sink.now c.opens.sink c.wait_rounds.new.sink hands.chunks w.chunks
    (DriveTakes state source items c.args.drive.now.left c.args.drive.now.ordered (exchanged log files) (cache c.args.cache.now)) hands.took hands.fitting w.took w.fitting
    (line_takes state polls refuses admits source split comes items (cache c.args.cache.now) c.args.drive.now c.args.workers c.requires.workers files log c.opens.files.items c.opens.desks.items (cache c.opens.cache) (with_taken hands.chunks c.opens.drive) lim hands.so
    (hands.chunks ++ w.chunks) (w.so hands.chunks))

pub returns-in-Ok-Stopped-clause-keeps : goal.returns-in-Ok-Stopped-clause-keeps
returns-in-Ok-Stopped-clause-keeps g c =
    let state = g.X.SplitOpener.state c.args.context.now in
    let polls = g.X.SplitOpener.polls in
    let refuses = g.X.SplitOpener.refuses c.args.context.now in
    let admits = g.X.SplitOpener.admits c.args.context.now in
    let source = g.S.SegmentSource.state in
    let cache = g.C.KeyedSegmentCache.cache in
    let split = g.W.SplitWork.split in
    let comes = g.W.SplitWork.comes in
    let items = g.W.SplitWork.items in
    let fits = g.T.FromChunk.fits in
    let takes = g.K.ChunkSink.takes in
    let taking = g.met.K.ChunkSink.taking in
    let files = c.args.files.now.items in
    let inv = c.opens.invariant in
    let hands = inv.hands in
    let log = c.opens.exchanges.items in
    let made : Chunk g.row.W-Rows.Denot → g.row.T.Denot = made_by g.T.FromChunk.made (placed_by log) in
    let same = named_by log (length files) c.opens.order.items hands.so.places inv.order in
    let lim : limit_in split comes items c.args.drive.now ≡ c.args.drive.now.left = starts_limit (length files) c.args.drive.now.left c.args.drive.now c.requires.starts.0 split comes items in
    line_keeps state polls refuses admits source split comes items (cache c.args.cache.now) c.args.drive.now c.args.workers c.requires.workers files log c.opens.files.items c.opens.desks.items (cache c.opens.cache) (with_taken hands.chunks c.opens.drive) lim hands.so
    c.wait_rounds.new.files.items c.wait_rounds.new.desks.items (cache c.wait_rounds.new.cache) (with_taken hands.chunks c.wait_rounds.new.drive) (c.wait_rounds.ensures.keeps hands.chunks)

pub returns-in-Ok-Stopped-clause-order : goal.returns-in-Ok-Stopped-clause-order
returns-in-Ok-Stopped-clause-order g c =
    c.opens.invariant.order

pub returns-in-Ok-Stopped-clause-takes : goal.returns-in-Ok-Stopped-clause-takes
returns-in-Ok-Stopped-clause-takes g c =
    let state = g.X.SplitOpener.state c.args.context.now in
    let polls = g.X.SplitOpener.polls in
    let refuses = g.X.SplitOpener.refuses c.args.context.now in
    let admits = g.X.SplitOpener.admits c.args.context.now in
    let source = g.S.SegmentSource.state in
    let cache = g.C.KeyedSegmentCache.cache in
    let split = g.W.SplitWork.split in
    let comes = g.W.SplitWork.comes in
    let items = g.W.SplitWork.items in
    let fits = g.T.FromChunk.fits in
    let takes = g.K.ChunkSink.takes in
    let taking = g.met.K.ChunkSink.taking in
    let files = c.args.files.now.items in
    let inv = c.opens.invariant in
    let hands = inv.hands in
    let log = c.opens.exchanges.items in
    let made : Chunk g.row.W-Rows.Denot → g.row.T.Denot = made_by g.T.FromChunk.made (placed_by log) in
    let same = named_by log (length files) c.opens.order.items hands.so.places inv.order in
    let lim : limit_in split comes items c.args.drive.now ≡ c.args.drive.now.left = starts_limit (length files) c.args.drive.now.left c.args.drive.now c.requires.starts.0 split comes items in
    let P : List (Chunk g.row.W-Rows.Denot) → Type 0 = λ us. (ts : List (Chunk g.row.W-Rows.Denot)) → WaitTakes state source split comes items c.opens.files.items (cache c.opens.cache) (with_taken ts c.opens.drive) (ts ++ us) in
    let w : Hands made fits takes c.opens.sink c.wait_rounds.new.sink P = subst (λ f. Hands (made_by g.T.FromChunk.made f) fits takes c.opens.sink c.wait_rounds.new.sink P) same c.wait_rounds.ensures.takes in
    hands_then made fits takes taking c.args.sink.now c.opens.sink c.wait_rounds.new.sink hands.chunks w.chunks
    (DriveTakes state source items c.args.drive.now.left c.args.drive.now.ordered (exchanged log files) (cache c.args.cache.now)) hands.took hands.fitting w.took w.fitting
    (line_takes state polls refuses admits source split comes items (cache c.args.cache.now) c.args.drive.now c.args.workers c.requires.workers files log c.opens.files.items c.opens.desks.items (cache c.opens.cache) (with_taken hands.chunks c.opens.drive) lim hands.so
    (hands.chunks ++ w.chunks) (w.so hands.chunks))

pub returns-in-Err-clause-keeps : goal.returns-in-Err-clause-keeps
returns-in-Err-clause-keeps g c =
    let state = g.X.SplitOpener.state c.args.context.now in
    let polls = g.X.SplitOpener.polls in
    let refuses = g.X.SplitOpener.refuses c.args.context.now in
    let admits = g.X.SplitOpener.admits c.args.context.now in
    let source = g.S.SegmentSource.state in
    let cache = g.C.KeyedSegmentCache.cache in
    let split = g.W.SplitWork.split in
    let comes = g.W.SplitWork.comes in
    let items = g.W.SplitWork.items in
    let fits = g.T.FromChunk.fits in
    let takes = g.K.ChunkSink.takes in
    let taking = g.met.K.ChunkSink.taking in
    let files = c.args.files.now.items in
    let inv = c.opens.invariant in
    let hands = inv.hands in
    let log = c.opens.exchanges.items in
    let made : Chunk g.row.W-Rows.Denot → g.row.T.Denot = made_by g.T.FromChunk.made (placed_by log) in
    let same = named_by log (length files) c.opens.order.items hands.so.places inv.order in
    let lim : limit_in split comes items c.args.drive.now ≡ c.args.drive.now.left = starts_limit (length files) c.args.drive.now.left c.args.drive.now c.requires.starts.0 split comes items in
    line_keeps state polls refuses admits source split comes items (cache c.args.cache.now) c.args.drive.now c.args.workers c.requires.workers files log c.opens.files.items c.opens.desks.items (cache c.opens.cache) (with_taken hands.chunks c.opens.drive) lim hands.so
    c.wait_rounds.new.files.items c.wait_rounds.new.desks.items (cache c.wait_rounds.new.cache) (with_taken hands.chunks c.wait_rounds.new.drive) (c.wait_rounds.ensures.keeps hands.chunks)

pub returns-in-Err-clause-order : goal.returns-in-Err-clause-order
returns-in-Err-clause-order g c =
    c.opens.invariant.order

pub returns-in-Err-clause-takes : goal.returns-in-Err-clause-takes
returns-in-Err-clause-takes g c =
    let state = g.X.SplitOpener.state c.args.context.now in
    let polls = g.X.SplitOpener.polls in
    let refuses = g.X.SplitOpener.refuses c.args.context.now in
    let admits = g.X.SplitOpener.admits c.args.context.now in
    let source = g.S.SegmentSource.state in
    let cache = g.C.KeyedSegmentCache.cache in
    let split = g.W.SplitWork.split in
    let comes = g.W.SplitWork.comes in
    let items = g.W.SplitWork.items in
    let fits = g.T.FromChunk.fits in
    let takes = g.K.ChunkSink.takes in
    let taking = g.met.K.ChunkSink.taking in
    let files = c.args.files.now.items in
    let inv = c.opens.invariant in
    let hands = inv.hands in
    let log = c.opens.exchanges.items in
    let made : Chunk g.row.W-Rows.Denot → g.row.T.Denot = made_by g.T.FromChunk.made (placed_by log) in
    let same = named_by log (length files) c.opens.order.items hands.so.places inv.order in
    let lim : limit_in split comes items c.args.drive.now ≡ c.args.drive.now.left = starts_limit (length files) c.args.drive.now.left c.args.drive.now c.requires.starts.0 split comes items in
    let P : List (Chunk g.row.W-Rows.Denot) → Type 0 = λ us. (ts : List (Chunk g.row.W-Rows.Denot)) → WaitTakes state source split comes items c.opens.files.items (cache c.opens.cache) (with_taken ts c.opens.drive) (ts ++ us) in
    let w : Hands made fits takes c.opens.sink c.wait_rounds.new.sink P = subst (λ f. Hands (made_by g.T.FromChunk.made f) fits takes c.opens.sink c.wait_rounds.new.sink P) same c.wait_rounds.ensures.takes in
    hands_then made fits takes taking c.args.sink.now c.opens.sink c.wait_rounds.new.sink hands.chunks w.chunks
    (DriveTakes state source items c.args.drive.now.left c.args.drive.now.ordered (exchanged log files) (cache c.args.cache.now)) hands.took hands.fitting w.took w.fitting
    (line_takes state polls refuses admits source split comes items (cache c.args.cache.now) c.args.drive.now c.args.workers c.requires.workers files log c.opens.files.items c.opens.desks.items (cache c.opens.cache) (with_taken hands.chunks c.opens.drive) lim hands.so
    (hands.chunks ++ w.chunks) (w.so hands.chunks))

pub returns-in-Ok-Stopped-clause-runs : goal.returns-in-Ok-Stopped-clause-runs
returns-in-Ok-Stopped-clause-runs g c = record {
  comes_to = (rw c.in-Ok-Stopped.field-0-is at c.in-Ok-Stopped.ensures.comes);
  stops = tt;
}

pub returns-in-Ok-Done-clause-runs : goal.returns-in-Ok-Done-clause-runs
returns-in-Ok-Done-clause-runs g c =
    let state = g.X.SplitOpener.state c.args.context.now in
    let polls = g.X.SplitOpener.polls in
    let refuses = g.X.SplitOpener.refuses c.args.context.now in
    let admits = g.X.SplitOpener.admits c.args.context.now in
    let source = g.S.SegmentSource.state in
    let cache = g.C.KeyedSegmentCache.cache in
    let split = g.W.SplitWork.split in
    let comes = g.W.SplitWork.comes in
    let items = g.W.SplitWork.items in
    let fits = g.T.FromChunk.fits in
    let takes = g.K.ChunkSink.takes in
    let taking = g.met.K.ChunkSink.taking in
    let files = c.args.files.now.items in
    let inv = c.opens.invariant in
    let hands = inv.hands in
    let log = c.opens.exchanges.items in
    let made : Chunk g.row.W-Rows.Denot → g.row.T.Denot = made_by g.T.FromChunk.made (placed_by log) in
    let same = named_by log (length files) c.opens.order.items hands.so.places inv.order in
    let lim : limit_in split comes items c.args.drive.now ≡ c.args.drive.now.left = starts_limit (length files) c.args.drive.now.left c.args.drive.now c.requires.starts.0 split comes items in
    let P : List (Chunk g.row.W-Rows.Denot) → Type 0 = (λ us. (c.wait_rounds.new.drive.chunks.items ≡ []) × ((ts : List (Chunk g.row.W-Rows.Denot)) → WaitComes state polls refuses admits source split comes items round.Done c.opens.files.items c.wait_rounds.new.files.items
    c.wait_rounds.new.desks.items (cache c.opens.cache) (cache c.wait_rounds.new.cache) (with_taken ts c.opens.drive) (with_taken (ts ++ us) c.wait_rounds.new.drive))) in
    let w : Hands made fits takes c.opens.sink c.wait_rounds.new.sink P = subst (λ f. Hands (made_by g.T.FromChunk.made f) fits takes c.opens.sink c.wait_rounds.new.sink P) same (rw c.in-Ok-Done.field-0-is at c.in-Ok-Done.ensures.comes) in
    record {
      comes_to = hands_then made fits takes taking c.args.sink.now c.opens.sink c.wait_rounds.new.sink hands.chunks w.chunks
          (λ us. (c.wait_rounds.new.drive.chunks.items ≡ []) × LineEnds state polls refuses admits source split comes items files log c.wait_rounds.new.files.items c.wait_rounds.new.desks.items (cache c.args.cache.now) (cache c.wait_rounds.new.cache) c.args.drive.now (with_taken us
          c.wait_rounds.new.drive))
          hands.took hands.fitting w.took w.fitting (
            w.so.0,
            line_ends state polls refuses admits source split comes items (cache c.args.cache.now) c.args.drive.now c.args.workers c.requires.workers files log c.opens.files.items c.opens.desks.items (cache c.opens.cache) (with_taken hands.chunks c.opens.drive) lim hands.so
                c.wait_rounds.new.files.items c.wait_rounds.new.desks.items (cache c.wait_rounds.new.cache) (with_taken (hands.chunks ++ w.chunks) c.wait_rounds.new.drive) (c.wait_rounds.ensures.keeps hands.chunks)
                (w.so.1 hands.chunks),
          );
      stops = tt;
    }

pub returns-in-Err-clause-runs : goal.returns-in-Err-clause-runs
returns-in-Err-clause-runs g c =
    let state = g.X.SplitOpener.state c.args.context.now in
    let polls = g.X.SplitOpener.polls in
    let refuses = g.X.SplitOpener.refuses c.args.context.now in
    let admits = g.X.SplitOpener.admits c.args.context.now in
    let source = g.S.SegmentSource.state in
    let cache = g.C.KeyedSegmentCache.cache in
    let split = g.W.SplitWork.split in
    let comes = g.W.SplitWork.comes in
    let items = g.W.SplitWork.items in
    let fits = g.T.FromChunk.fits in
    let takes = g.K.ChunkSink.takes in
    let taking = g.met.K.ChunkSink.taking in
    let files = c.args.files.now.items in
    let inv = c.opens.invariant in
    let hands = inv.hands in
    let log = c.opens.exchanges.items in
    let made : Chunk g.row.W-Rows.Denot → g.row.T.Denot = made_by g.T.FromChunk.made (placed_by log) in
    let same = named_by log (length files) c.opens.order.items hands.so.places inv.order in
    let lim : limit_in split comes items c.args.drive.now ≡ c.args.drive.now.left = starts_limit (length files) c.args.drive.now.left c.args.drive.now c.requires.starts.0 split comes items in
    let s = c.in-Err.ensures.stops in
    record {
      comes_to = tt;
      stops = (
        hands.chunks ++ s.0,
        line_stops state polls refuses admits source split comes items (cache c.args.cache.now) c.args.drive.now c.args.workers c.requires.workers files log c.opens.files.items c.opens.desks.items (cache c.opens.cache) (with_taken hands.chunks c.opens.drive) lim hands.so
            c.wait_rounds.new.files.items c.wait_rounds.new.desks.items (cache c.wait_rounds.new.cache) (with_taken (hands.chunks ++ s.0) c.wait_rounds.new.drive) (c.wait_rounds.ensures.keeps hands.chunks)
            c.in-Err.fault (s.1 hands.chunks),
      );
    }

pub opens-preserved : goal.opens-preserved
opens-preserved g c =
    let state = g.X.SplitOpener.state c.args.context.now in
    let polls = g.X.SplitOpener.polls in
    let refuses = g.X.SplitOpener.refuses c.args.context.now in
    let admits = g.X.SplitOpener.admits c.args.context.now in
    let source = g.S.SegmentSource.state in
    let cache = g.C.KeyedSegmentCache.cache in
    let split = g.W.SplitWork.split in
    let comes = g.W.SplitWork.comes in
    let items = g.W.SplitWork.items in
    let fits = g.T.FromChunk.fits in
    let takes = g.K.ChunkSink.takes in
    let taking = g.met.K.ChunkSink.taking in
    let files = c.args.files.now.items in
    let inv = c.opens.invariant in
    let hands = inv.hands in
    let log = c.opens.exchanges.items in
    let made : Chunk g.row.W-Rows.Denot → g.row.T.Denot = made_by g.T.FromChunk.made (placed_by log) in
    let same = named_by log (length files) c.opens.order.items hands.so.places inv.order in
    let lim : limit_in split comes items c.args.drive.now ≡ c.args.drive.now.left = starts_limit (length files) c.args.drive.now.left c.args.drive.now c.requires.starts.0 split comes items in
    let P : List (Chunk g.row.W-Rows.Denot) → Type 0 = (λ us. (c.wait_rounds.new.drive.chunks.items ≡ []) × ((ts : List (Chunk g.row.W-Rows.Denot)) → WaitComes state polls refuses admits source split comes items round.Opened c.opens.files.items c.wait_rounds.new.files.items
    c.wait_rounds.new.desks.items (cache c.opens.cache) (cache c.wait_rounds.new.cache) (with_taken ts c.opens.drive) (with_taken (ts ++ us) c.wait_rounds.new.drive))) in
    let w : Hands made fits takes c.opens.sink c.wait_rounds.new.sink P = subst (λ f. Hands (made_by g.T.FromChunk.made f) fits takes c.opens.sink c.wait_rounds.new.sink P) same (rw c.in-Ok-Opened.field-0-is at c.in-Ok-Opened.ensures.comes) in
    let us = hands.chunks ++ w.chunks in
    let b = c.bring_forward-brought.new in
    let line = line_taken us c.args.workers log b.exchanges.items c.wait_rounds.new.files.items b.files.items c.wait_rounds.new.desks.items b.desks.items c.wait_rounds.new.drive b.drive c.bring_forward-brought.ensures.line in
    let here = line_brought state polls refuses admits source split comes items (cache c.args.cache.now) c.args.drive.now c.args.workers c.requires.workers files log c.opens.files.items c.opens.desks.items (cache c.opens.cache) (with_taken hands.chunks c.opens.drive) lim hands.so
    c.wait_rounds.new.files.items c.wait_rounds.new.desks.items (cache c.wait_rounds.new.cache) (with_taken us c.wait_rounds.new.drive) (c.wait_rounds.ensures.keeps hands.chunks)
    (w.so.1 hands.chunks)
    b.exchanges.items b.files.items b.desks.items (with_taken us b.drive) line c.bring_forward-brought.ensures.order in
    let v1 = with_taken us c.wait_rounds.new.drive in
    let waits = line_waits state polls refuses admits source split comes items (cache c.args.cache.now) c.args.drive.now c.args.workers c.requires.workers files log c.opens.files.items c.opens.desks.items (cache c.opens.cache) (with_taken hands.chunks c.opens.drive) lim hands.so
    c.wait_rounds.new.files.items c.wait_rounds.new.desks.items (cache c.wait_rounds.new.cache) v1 (c.wait_rounds.ensures.keeps hands.chunks)
    (w.so.1 hands.chunks) in
    let names : (k : ℕ) → k < c.wait_rounds.new.drive.tally.files → placed_by log k ≡ placed_by b.exchanges.items k =
    subst (λ ss. (k : ℕ) → k < c.wait_rounds.new.drive.tally.files → placed_by log k ≡ placed_by ss k) (sym c.bring_forward-brought.ensures.line.brings.log_is)
    (placed_on log c.bring_forward-brought.ensures.line.brings.places c.wait_rounds.new.drive.first c.wait_rounds.new.drive.tally c.wait_rounds.new.drive.phases.items c.bring_forward-brought.ensures.line.brings.spare waits.runs.grounded.counted) in
    let low = all_first (IsOf c.wait_rounds.new.drive.tally.files) us c.wait_rounds.new.drive.chunks.items waits.runs.grounded.given in
    let named = hands_both g.T.FromChunk.made fits takes taking (placed_by log) (placed_by b.exchanges.items) c.wait_rounds.new.drive.tally.files c.args.sink.now c.opens.sink c.wait_rounds.new.sink hands.chunks w.chunks names low hands.took hands.fitting w.took w.fitting in
    let known : c.len-known.result ≡ length log = omega (arith, c.len-known.ensures, c.opens.exchanges.ok.0) in
    let n = length files in
    let grown : c.swap_places.new.order.items ≡ exchanged b.exchanges.items (range_with_len 0 n) =
    c.swap_places.ensures
    ∙ ap (λ m. exchanged (drop m b.exchanges.items) c.opens.order.items) known
    ∙ ap (λ ss. exchanged (drop (length log) ss) c.opens.order.items) c.bring_forward-brought.ensures.line.brings.log_is
    ∙ ap (λ ss. exchanged ss c.opens.order.items) (drop-append_seam log c.bring_forward-brought.ensures.line.brings.places)
    ∙ ap (exchanged c.bring_forward-brought.ensures.line.brings.places) inv.order
    ∙ sym (exchanged_append log c.bring_forward-brought.ensures.line.brings.places (range_with_len 0 n))
    ∙ ap (λ ss. exchanged ss (range_with_len 0 n)) (sym c.bring_forward-brought.ensures.line.brings.log_is) in
    record {
      hands = named (λ vs. Lined state polls refuses admits source split comes items (cache c.args.cache.now) c.args.drive.now c.args.workers files b.exchanges.items b.files.items b.desks.items (cache c.wait_rounds.new.cache) (with_taken vs b.drive)) here;
      order = grown;
      free = c.in-Ok-Opened.ensures.free c.in-Ok-Opened.field-0-is;
    }

pub opens-smaller : goal.opens-smaller
opens-smaller g c =
    let state = g.X.SplitOpener.state c.args.context.now in
    let polls = g.X.SplitOpener.polls in
    let refuses = g.X.SplitOpener.refuses c.args.context.now in
    let admits = g.X.SplitOpener.admits c.args.context.now in
    let source = g.S.SegmentSource.state in
    let cache = g.C.KeyedSegmentCache.cache in
    let split = g.W.SplitWork.split in
    let comes = g.W.SplitWork.comes in
    let items = g.W.SplitWork.items in
    let fits = g.T.FromChunk.fits in
    let takes = g.K.ChunkSink.takes in
    let taking = g.met.K.ChunkSink.taking in
    let files = c.args.files.now.items in
    let inv = c.opens.invariant in
    let hands = inv.hands in
    let log = c.opens.exchanges.items in
    let made : Chunk g.row.W-Rows.Denot → g.row.T.Denot = made_by g.T.FromChunk.made (placed_by log) in
    let same = named_by log (length files) c.opens.order.items hands.so.places inv.order in
    let lim : limit_in split comes items c.args.drive.now ≡ c.args.drive.now.left = starts_limit (length files) c.args.drive.now.left c.args.drive.now c.requires.starts.0 split comes items in
    let P : List (Chunk g.row.W-Rows.Denot) → Type 0 = (λ us. (c.wait_rounds.new.drive.chunks.items ≡ []) × ((ts : List (Chunk g.row.W-Rows.Denot)) → WaitComes state polls refuses admits source split comes items round.Opened c.opens.files.items c.wait_rounds.new.files.items
    c.wait_rounds.new.desks.items (cache c.opens.cache) (cache c.wait_rounds.new.cache) (with_taken ts c.opens.drive) (with_taken (ts ++ us) c.wait_rounds.new.drive))) in
    let w : Hands made fits takes c.opens.sink c.wait_rounds.new.sink P = subst (λ f. Hands (made_by g.T.FromChunk.made f) fits takes c.opens.sink c.wait_rounds.new.sink P) same (rw c.in-Ok-Opened.field-0-is at c.in-Ok-Opened.ensures.comes) in
    let us = hands.chunks ++ w.chunks in
    let b = c.bring_forward-brought.new in
    let line = line_taken us c.args.workers log b.exchanges.items c.wait_rounds.new.files.items b.files.items c.wait_rounds.new.desks.items b.desks.items c.wait_rounds.new.drive b.drive c.bring_forward-brought.ensures.line in
    let here = line_brought state polls refuses admits source split comes items (cache c.args.cache.now) c.args.drive.now c.args.workers c.requires.workers files log c.opens.files.items c.opens.desks.items (cache c.opens.cache) (with_taken hands.chunks c.opens.drive) lim hands.so
    c.wait_rounds.new.files.items c.wait_rounds.new.desks.items (cache c.wait_rounds.new.cache) (with_taken us c.wait_rounds.new.drive) (c.wait_rounds.ensures.keeps hands.chunks)
    (w.so.1 hands.chunks)
    b.exchanges.items b.files.items b.desks.items (with_taken us b.drive) line c.bring_forward-brought.ensures.order in
    line_fewer state polls refuses admits source split comes items (cache c.args.cache.now) c.args.drive.now c.args.workers c.requires.workers files log c.opens.files.items c.opens.desks.items (cache c.opens.cache) (with_taken hands.chunks c.opens.drive) lim hands.so
    c.wait_rounds.new.files.items c.wait_rounds.new.desks.items (cache c.wait_rounds.new.cache) (with_taken us c.wait_rounds.new.drive) (c.wait_rounds.ensures.keeps hands.chunks)
    (w.so.1 hands.chunks)
    b.exchanges.items b.files.items b.desks.items (with_taken us b.drive) line

pub bring_forward-brought-requires-clause-files : goal.bring_forward-brought-requires-clause-files
bring_forward-brought-requires-clause-files g c κs lives =
    let r = (rw c.in-Ok-Opened.field-0-is at c.in-Ok-Opened.ensures.comes) in
    (c.wait_rounds.ensures.keeps []).moves.len ∙ sym (r.so.1 []).comes_to.stands.lens

pub bring_forward-brought-requires-clause-desks : goal.bring_forward-brought-requires-clause-desks
bring_forward-brought-requires-clause-desks g c κs lives =
    let r = (rw c.in-Ok-Opened.field-0-is at c.in-Ok-Opened.ensures.comes) in
    (c.wait_rounds.ensures.keeps []).agree.len ∙ (c.wait_rounds.ensures.keeps []).moves.len ∙ sym (r.so.1 []).comes_to.stands.lens

pub bring_forward-brought-requires-clause-seated : goal.bring_forward-brought-requires-clause-seated
bring_forward-brought-requires-clause-seated g c κs lives =
    let r = (rw c.in-Ok-Opened.field-0-is at c.in-Ok-Opened.ensures.comes) in
    (c.wait_rounds.new.drive.active.free.items, (r.so.1 []).comes_to.stands.ready.seated)

pub swap_places-requires : goal.swap_places-requires
swap_places-requires g c =
    let state = g.X.SplitOpener.state c.args.context.now in
    let polls = g.X.SplitOpener.polls in
    let refuses = g.X.SplitOpener.refuses c.args.context.now in
    let admits = g.X.SplitOpener.admits c.args.context.now in
    let source = g.S.SegmentSource.state in
    let cache = g.C.KeyedSegmentCache.cache in
    let split = g.W.SplitWork.split in
    let comes = g.W.SplitWork.comes in
    let items = g.W.SplitWork.items in
    let fits = g.T.FromChunk.fits in
    let takes = g.K.ChunkSink.takes in
    let taking = g.met.K.ChunkSink.taking in
    let files = c.args.files.now.items in
    let inv = c.opens.invariant in
    let hands = inv.hands in
    let log = c.opens.exchanges.items in
    let made : Chunk g.row.W-Rows.Denot → g.row.T.Denot = made_by g.T.FromChunk.made (placed_by log) in
    let same = named_by log (length files) c.opens.order.items hands.so.places inv.order in
    let lim : limit_in split comes items c.args.drive.now ≡ c.args.drive.now.left = starts_limit (length files) c.args.drive.now.left c.args.drive.now c.requires.starts.0 split comes items in
    let P : List (Chunk g.row.W-Rows.Denot) → Type 0 = (λ us. (c.wait_rounds.new.drive.chunks.items ≡ []) × ((ts : List (Chunk g.row.W-Rows.Denot)) → WaitComes state polls refuses admits source split comes items round.Opened c.opens.files.items c.wait_rounds.new.files.items
    c.wait_rounds.new.desks.items (cache c.opens.cache) (cache c.wait_rounds.new.cache) (with_taken ts c.opens.drive) (with_taken (ts ++ us) c.wait_rounds.new.drive))) in
    let w : Hands made fits takes c.opens.sink c.wait_rounds.new.sink P = subst (λ f. Hands (made_by g.T.FromChunk.made f) fits takes c.opens.sink c.wait_rounds.new.sink P) same (rw c.in-Ok-Opened.field-0-is at c.in-Ok-Opened.ensures.comes) in
    let us = hands.chunks ++ w.chunks in
    let b = c.bring_forward-brought.new in
    let line = line_taken us c.args.workers log b.exchanges.items c.wait_rounds.new.files.items b.files.items c.wait_rounds.new.desks.items b.desks.items c.wait_rounds.new.drive b.drive c.bring_forward-brought.ensures.line in
    let here = line_brought state polls refuses admits source split comes items (cache c.args.cache.now) c.args.drive.now c.args.workers c.requires.workers files log c.opens.files.items c.opens.desks.items (cache c.opens.cache) (with_taken hands.chunks c.opens.drive) lim hands.so
    c.wait_rounds.new.files.items c.wait_rounds.new.desks.items (cache c.wait_rounds.new.cache) (with_taken us c.wait_rounds.new.drive) (c.wait_rounds.ensures.keeps hands.chunks)
    (w.so.1 hands.chunks)
    b.exchanges.items b.files.items b.desks.items (with_taken us b.drive) line c.bring_forward-brought.ensures.order in
    let known : c.len-known.result ≡ length log = omega (arith, c.len-known.ensures, c.opens.exchanges.ok.0) in
    let places = c.bring_forward-brought.ensures.line.brings.places in
    let is : drop c.len-known.result b.exchanges.items ≡ places = ap (λ m. drop m b.exchanges.items) known ∙ ap (drop (length log)) c.bring_forward-brought.ensures.line.brings.log_is ∙ drop-append_seam log places in
    let long : length c.opens.order.items ≡ length files = ap length inv.order ∙ length_exchanged log (range_with_len 0 (length files)) ∙ length-range_with_len 0 (length files) in
    let count : length c.wait_rounds.new.files.items ≡ length files = (c.wait_rounds.ensures.keeps []).moves.len ∙ hands.so.runs.moves.len ∙ length_exchanged log files in
    subst (SwapsInRange (length c.opens.order.items)) (sym is) (range_more c.bring_forward-brought.ensures.line.last (length c.opens.order.items) places (let t = c.bring_forward-brought.ensures.line.there in omega (arith, t, count, long)) c.bring_forward-brought.ensures.line.brings.within)

pub returns-in-Err-brought-clause-keeps : goal.returns-in-Err-brought-clause-keeps
returns-in-Err-brought-clause-keeps g c =
    let state = g.X.SplitOpener.state c.args.context.now in
    let polls = g.X.SplitOpener.polls in
    let refuses = g.X.SplitOpener.refuses c.args.context.now in
    let admits = g.X.SplitOpener.admits c.args.context.now in
    let source = g.S.SegmentSource.state in
    let cache = g.C.KeyedSegmentCache.cache in
    let split = g.W.SplitWork.split in
    let comes = g.W.SplitWork.comes in
    let items = g.W.SplitWork.items in
    let fits = g.T.FromChunk.fits in
    let takes = g.K.ChunkSink.takes in
    let taking = g.met.K.ChunkSink.taking in
    let files = c.args.files.now.items in
    let inv = c.opens.invariant in
    let hands = inv.hands in
    let log = c.opens.exchanges.items in
    let made : Chunk g.row.W-Rows.Denot → g.row.T.Denot = made_by g.T.FromChunk.made (placed_by log) in
    let same = named_by log (length files) c.opens.order.items hands.so.places inv.order in
    let lim : limit_in split comes items c.args.drive.now ≡ c.args.drive.now.left = starts_limit (length files) c.args.drive.now.left c.args.drive.now c.requires.starts.0 split comes items in
    let P : List (Chunk g.row.W-Rows.Denot) → Type 0 = (λ us. (c.wait_rounds.new.drive.chunks.items ≡ []) × ((ts : List (Chunk g.row.W-Rows.Denot)) → WaitComes state polls refuses admits source split comes items round.Opened c.opens.files.items c.wait_rounds.new.files.items
    c.wait_rounds.new.desks.items (cache c.opens.cache) (cache c.wait_rounds.new.cache) (with_taken ts c.opens.drive) (with_taken (ts ++ us) c.wait_rounds.new.drive))) in
    let w : Hands made fits takes c.opens.sink c.wait_rounds.new.sink P = subst (λ f. Hands (made_by g.T.FromChunk.made f) fits takes c.opens.sink c.wait_rounds.new.sink P) same (rw c.in-Ok-Opened.field-0-is at c.in-Ok-Opened.ensures.comes) in
    let us = hands.chunks ++ w.chunks in
    let b = c.bring_forward-brought.new in
    let line = line_taken us c.args.workers log b.exchanges.items c.wait_rounds.new.files.items b.files.items c.wait_rounds.new.desks.items b.desks.items c.wait_rounds.new.drive b.drive c.bring_forward-brought.ensures.line in
    let here = line_brought state polls refuses admits source split comes items (cache c.args.cache.now) c.args.drive.now c.args.workers c.requires.workers files log c.opens.files.items c.opens.desks.items (cache c.opens.cache) (with_taken hands.chunks c.opens.drive) lim hands.so
    c.wait_rounds.new.files.items c.wait_rounds.new.desks.items (cache c.wait_rounds.new.cache) (with_taken us c.wait_rounds.new.drive) (c.wait_rounds.ensures.keeps hands.chunks)
    (w.so.1 hands.chunks)
    b.exchanges.items b.files.items b.desks.items (with_taken us b.drive) line c.bring_forward-brought.ensures.order in
    line_now state polls refuses admits source split comes items (cache c.args.cache.now) c.args.drive.now c.args.workers c.requires.workers files
    b.exchanges.items b.files.items b.desks.items (cache c.wait_rounds.new.cache) (with_taken us b.drive) lim here

pub returns-in-Err-brought-clause-runs : goal.returns-in-Err-brought-clause-runs
returns-in-Err-brought-clause-runs g c =
    let state = g.X.SplitOpener.state c.args.context.now in
    let polls = g.X.SplitOpener.polls in
    let refuses = g.X.SplitOpener.refuses c.args.context.now in
    let admits = g.X.SplitOpener.admits c.args.context.now in
    let source = g.S.SegmentSource.state in
    let cache = g.C.KeyedSegmentCache.cache in
    let split = g.W.SplitWork.split in
    let comes = g.W.SplitWork.comes in
    let items = g.W.SplitWork.items in
    let fits = g.T.FromChunk.fits in
    let takes = g.K.ChunkSink.takes in
    let taking = g.met.K.ChunkSink.taking in
    let files = c.args.files.now.items in
    let inv = c.opens.invariant in
    let hands = inv.hands in
    let log = c.opens.exchanges.items in
    let made : Chunk g.row.W-Rows.Denot → g.row.T.Denot = made_by g.T.FromChunk.made (placed_by log) in
    let same = named_by log (length files) c.opens.order.items hands.so.places inv.order in
    let lim : limit_in split comes items c.args.drive.now ≡ c.args.drive.now.left = starts_limit (length files) c.args.drive.now.left c.args.drive.now c.requires.starts.0 split comes items in
    let P : List (Chunk g.row.W-Rows.Denot) → Type 0 = (λ us. (c.wait_rounds.new.drive.chunks.items ≡ []) × ((ts : List (Chunk g.row.W-Rows.Denot)) → WaitComes state polls refuses admits source split comes items round.Opened c.opens.files.items c.wait_rounds.new.files.items
    c.wait_rounds.new.desks.items (cache c.opens.cache) (cache c.wait_rounds.new.cache) (with_taken ts c.opens.drive) (with_taken (ts ++ us) c.wait_rounds.new.drive))) in
    let w : Hands made fits takes c.opens.sink c.wait_rounds.new.sink P = subst (λ f. Hands (made_by g.T.FromChunk.made f) fits takes c.opens.sink c.wait_rounds.new.sink P) same (rw c.in-Ok-Opened.field-0-is at c.in-Ok-Opened.ensures.comes) in
    let us = hands.chunks ++ w.chunks in
    let b = c.bring_forward-brought.new in
    let line = line_taken us c.args.workers log b.exchanges.items c.wait_rounds.new.files.items b.files.items c.wait_rounds.new.desks.items b.desks.items c.wait_rounds.new.drive b.drive c.bring_forward-brought.ensures.line in
    let here = line_brought state polls refuses admits source split comes items (cache c.args.cache.now) c.args.drive.now c.args.workers c.requires.workers files log c.opens.files.items c.opens.desks.items (cache c.opens.cache) (with_taken hands.chunks c.opens.drive) lim hands.so
    c.wait_rounds.new.files.items c.wait_rounds.new.desks.items (cache c.wait_rounds.new.cache) (with_taken us c.wait_rounds.new.drive) (c.wait_rounds.ensures.keeps hands.chunks)
    (w.so.1 hands.chunks)
    b.exchanges.items b.files.items b.desks.items (with_taken us b.drive) line c.bring_forward-brought.ensures.order in
    record {
      comes_to = tt;
      stops = (
        us,
        line_short state polls refuses admits source split comes items (cache c.args.cache.now) c.args.drive.now c.args.workers c.requires.workers files
            b.exchanges.items b.files.items b.desks.items (cache c.wait_rounds.new.cache) (with_taken us b.drive) lim here,
      );
    }

pub returns-in-Err-brought-clause-order : goal.returns-in-Err-brought-clause-order
returns-in-Err-brought-clause-order g c =
    let state = g.X.SplitOpener.state c.args.context.now in
    let polls = g.X.SplitOpener.polls in
    let refuses = g.X.SplitOpener.refuses c.args.context.now in
    let admits = g.X.SplitOpener.admits c.args.context.now in
    let source = g.S.SegmentSource.state in
    let cache = g.C.KeyedSegmentCache.cache in
    let split = g.W.SplitWork.split in
    let comes = g.W.SplitWork.comes in
    let items = g.W.SplitWork.items in
    let fits = g.T.FromChunk.fits in
    let takes = g.K.ChunkSink.takes in
    let taking = g.met.K.ChunkSink.taking in
    let files = c.args.files.now.items in
    let inv = c.opens.invariant in
    let hands = inv.hands in
    let log = c.opens.exchanges.items in
    let made : Chunk g.row.W-Rows.Denot → g.row.T.Denot = made_by g.T.FromChunk.made (placed_by log) in
    let same = named_by log (length files) c.opens.order.items hands.so.places inv.order in
    let lim : limit_in split comes items c.args.drive.now ≡ c.args.drive.now.left = starts_limit (length files) c.args.drive.now.left c.args.drive.now c.requires.starts.0 split comes items in
    let P : List (Chunk g.row.W-Rows.Denot) → Type 0 = (λ us. (c.wait_rounds.new.drive.chunks.items ≡ []) × ((ts : List (Chunk g.row.W-Rows.Denot)) → WaitComes state polls refuses admits source split comes items round.Opened c.opens.files.items c.wait_rounds.new.files.items
    c.wait_rounds.new.desks.items (cache c.opens.cache) (cache c.wait_rounds.new.cache) (with_taken ts c.opens.drive) (with_taken (ts ++ us) c.wait_rounds.new.drive))) in
    let w : Hands made fits takes c.opens.sink c.wait_rounds.new.sink P = subst (λ f. Hands (made_by g.T.FromChunk.made f) fits takes c.opens.sink c.wait_rounds.new.sink P) same (rw c.in-Ok-Opened.field-0-is at c.in-Ok-Opened.ensures.comes) in
    let us = hands.chunks ++ w.chunks in
    let b = c.bring_forward-brought.new in
    let line = line_taken us c.args.workers log b.exchanges.items c.wait_rounds.new.files.items b.files.items c.wait_rounds.new.desks.items b.desks.items c.wait_rounds.new.drive b.drive c.bring_forward-brought.ensures.line in
    let here = line_brought state polls refuses admits source split comes items (cache c.args.cache.now) c.args.drive.now c.args.workers c.requires.workers files log c.opens.files.items c.opens.desks.items (cache c.opens.cache) (with_taken hands.chunks c.opens.drive) lim hands.so
    c.wait_rounds.new.files.items c.wait_rounds.new.desks.items (cache c.wait_rounds.new.cache) (with_taken us c.wait_rounds.new.drive) (c.wait_rounds.ensures.keeps hands.chunks)
    (w.so.1 hands.chunks)
    b.exchanges.items b.files.items b.desks.items (with_taken us b.drive) line c.bring_forward-brought.ensures.order in
    let known : c.len-known.result ≡ length log = omega (arith, c.len-known.ensures, c.opens.exchanges.ok.0) in
    let n = length files in
    let grown : c.swap_places.new.order.items ≡ exchanged b.exchanges.items (range_with_len 0 n) =
    c.swap_places.ensures
    ∙ ap (λ m. exchanged (drop m b.exchanges.items) c.opens.order.items) known
    ∙ ap (λ ss. exchanged (drop (length log) ss) c.opens.order.items) c.bring_forward-brought.ensures.line.brings.log_is
    ∙ ap (λ ss. exchanged ss c.opens.order.items) (drop-append_seam log c.bring_forward-brought.ensures.line.brings.places)
    ∙ ap (exchanged c.bring_forward-brought.ensures.line.brings.places) inv.order
    ∙ sym (exchanged_append log c.bring_forward-brought.ensures.line.brings.places (range_with_len 0 n))
    ∙ ap (λ ss. exchanged ss (range_with_len 0 n)) (sym c.bring_forward-brought.ensures.line.brings.log_is) in
    grown

pub returns-in-Err-brought-clause-takes : goal.returns-in-Err-brought-clause-takes
returns-in-Err-brought-clause-takes g c =
    let state = g.X.SplitOpener.state c.args.context.now in
    let polls = g.X.SplitOpener.polls in
    let refuses = g.X.SplitOpener.refuses c.args.context.now in
    let admits = g.X.SplitOpener.admits c.args.context.now in
    let source = g.S.SegmentSource.state in
    let cache = g.C.KeyedSegmentCache.cache in
    let split = g.W.SplitWork.split in
    let comes = g.W.SplitWork.comes in
    let items = g.W.SplitWork.items in
    let fits = g.T.FromChunk.fits in
    let takes = g.K.ChunkSink.takes in
    let taking = g.met.K.ChunkSink.taking in
    let files = c.args.files.now.items in
    let inv = c.opens.invariant in
    let hands = inv.hands in
    let log = c.opens.exchanges.items in
    let made : Chunk g.row.W-Rows.Denot → g.row.T.Denot = made_by g.T.FromChunk.made (placed_by log) in
    let same = named_by log (length files) c.opens.order.items hands.so.places inv.order in
    let lim : limit_in split comes items c.args.drive.now ≡ c.args.drive.now.left = starts_limit (length files) c.args.drive.now.left c.args.drive.now c.requires.starts.0 split comes items in
    let P : List (Chunk g.row.W-Rows.Denot) → Type 0 = (λ us. (c.wait_rounds.new.drive.chunks.items ≡ []) × ((ts : List (Chunk g.row.W-Rows.Denot)) → WaitComes state polls refuses admits source split comes items round.Opened c.opens.files.items c.wait_rounds.new.files.items
    c.wait_rounds.new.desks.items (cache c.opens.cache) (cache c.wait_rounds.new.cache) (with_taken ts c.opens.drive) (with_taken (ts ++ us) c.wait_rounds.new.drive))) in
    let w : Hands made fits takes c.opens.sink c.wait_rounds.new.sink P = subst (λ f. Hands (made_by g.T.FromChunk.made f) fits takes c.opens.sink c.wait_rounds.new.sink P) same (rw c.in-Ok-Opened.field-0-is at c.in-Ok-Opened.ensures.comes) in
    let us = hands.chunks ++ w.chunks in
    let b = c.bring_forward-brought.new in
    let line = line_taken us c.args.workers log b.exchanges.items c.wait_rounds.new.files.items b.files.items c.wait_rounds.new.desks.items b.desks.items c.wait_rounds.new.drive b.drive c.bring_forward-brought.ensures.line in
    let here = line_brought state polls refuses admits source split comes items (cache c.args.cache.now) c.args.drive.now c.args.workers c.requires.workers files log c.opens.files.items c.opens.desks.items (cache c.opens.cache) (with_taken hands.chunks c.opens.drive) lim hands.so
    c.wait_rounds.new.files.items c.wait_rounds.new.desks.items (cache c.wait_rounds.new.cache) (with_taken us c.wait_rounds.new.drive) (c.wait_rounds.ensures.keeps hands.chunks)
    (w.so.1 hands.chunks)
    b.exchanges.items b.files.items b.desks.items (with_taken us b.drive) line c.bring_forward-brought.ensures.order in
    let v1 = with_taken us c.wait_rounds.new.drive in
    let waits = line_waits state polls refuses admits source split comes items (cache c.args.cache.now) c.args.drive.now c.args.workers c.requires.workers files log c.opens.files.items c.opens.desks.items (cache c.opens.cache) (with_taken hands.chunks c.opens.drive) lim hands.so
    c.wait_rounds.new.files.items c.wait_rounds.new.desks.items (cache c.wait_rounds.new.cache) v1 (c.wait_rounds.ensures.keeps hands.chunks)
    (w.so.1 hands.chunks) in
    let names : (k : ℕ) → k < c.wait_rounds.new.drive.tally.files → placed_by log k ≡ placed_by b.exchanges.items k =
    subst (λ ss. (k : ℕ) → k < c.wait_rounds.new.drive.tally.files → placed_by log k ≡ placed_by ss k) (sym c.bring_forward-brought.ensures.line.brings.log_is)
    (placed_on log c.bring_forward-brought.ensures.line.brings.places c.wait_rounds.new.drive.first c.wait_rounds.new.drive.tally c.wait_rounds.new.drive.phases.items c.bring_forward-brought.ensures.line.brings.spare waits.runs.grounded.counted) in
    let low = all_first (IsOf c.wait_rounds.new.drive.tally.files) us c.wait_rounds.new.drive.chunks.items waits.runs.grounded.given in
    let named = hands_both g.T.FromChunk.made fits takes taking (placed_by log) (placed_by b.exchanges.items) c.wait_rounds.new.drive.tally.files c.args.sink.now c.opens.sink c.wait_rounds.new.sink hands.chunks w.chunks names low hands.took hands.fitting w.took w.fitting in
    named (DriveTakes state source items c.args.drive.now.left c.args.drive.now.ordered (exchanged b.exchanges.items files) (cache c.args.cache.now))
    (line_taken_now state polls refuses admits source split comes items (cache c.args.cache.now) c.args.drive.now c.args.workers c.requires.workers files
    b.exchanges.items b.files.items b.desks.items (cache c.wait_rounds.new.cache) (with_taken us b.drive) lim here us b.drive.chunks.items refl)
