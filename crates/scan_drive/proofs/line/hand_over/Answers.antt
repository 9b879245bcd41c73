use Rattle.std.proofs.Common.{◌≡◌, ◌∙◌, ◌++◌, ◌<◌, [], length, refl, ap, arith}
use Rattle.scan_drive.specs.Handed.{made_by, named_in}
use Rattle.scan_drive.specs.declared.delivery.Chunk.{Chunk}
use Rattle.scan_drive.specs.declared.sink.Flow.TheVariants as flow
use Rattle.scan_drive.proofs.Sinking.{hands_none, over_all, over_short, over_more, over_stop}
use Rattle.scan_drive.proofs.line.hand_over.Goals as goal

pub waiting-init : goal.waiting-init
waiting-init g c = record {
  hands = hands_none (made_by g.T.FromChunk.made (named_in c.args.order.now.items)) g.T.FromChunk.fits g.K.ChunkSink.takes g.met.K.ChunkSink.taking c.args.sink.now (λ us. c.args.chunks.now.items ≡ us ++ c.args.chunks.now.items) refl;
}

pub waiting-preserved : goal.waiting-preserved
waiting-preserved g c =
    let made : Chunk g.row.R.Denot → g.row.T.Denot = made_by g.T.FromChunk.made (named_in c.args.order.now.items) in
    let fits = g.T.FromChunk.fits in
    let takes = g.K.ChunkSink.takes in
    let taking = g.met.K.ChunkSink.taking in
    let is : c.from_chunk.result ≡ made c.in-Some.chunk = c.from_chunk.ensures.made ∙ ap g.T.FromChunk.made c.name_chunk.ensures in
    record {
      hands = over_more made fits takes taking c.args.sink.now c.waiting.sink c.args.chunks.now.items c.waiting.chunks.items c.waiting.invariant.hands
          c.in-Some.chunk c.pop.new.self.items c.in-Some.ensures c.from_chunk.result c.take.new.self c.in-Ok-More.ensures.taken is c.from_chunk.ensures.fits;
    }

pub waiting-smaller : goal.waiting-smaller
waiting-smaller g c = let e = ap length c.in-Some.ensures in omega (arith, e)

pub returns-in_default-clause-over : goal.returns-in_default-clause-over
returns-in_default-clause-over g c =
    let made : Chunk g.row.R.Denot → g.row.T.Denot = made_by g.T.FromChunk.made (named_in c.args.order.now.items) in
    let fits = g.T.FromChunk.fits in
    let takes = g.K.ChunkSink.takes in
    let taking = g.met.K.ChunkSink.taking in
    over_all made fits takes taking c.args.sink.now c.waiting.sink c.args.chunks.now.items c.waiting.chunks.items c.waiting.invariant.hands
    c.pop.new.self.items flow.More c.in_default.ensures.0 c.in_default.ensures.1

pub returns-in-Ok-Stop-clause-over : goal.returns-in-Ok-Stop-clause-over
returns-in-Ok-Stop-clause-over g c =
    let made : Chunk g.row.R.Denot → g.row.T.Denot = made_by g.T.FromChunk.made (named_in c.args.order.now.items) in
    let fits = g.T.FromChunk.fits in
    let takes = g.K.ChunkSink.takes in
    let taking = g.met.K.ChunkSink.taking in
    let is : c.from_chunk.result ≡ made c.in-Some.chunk = c.from_chunk.ensures.made ∙ ap g.T.FromChunk.made c.name_chunk.ensures in
    over_stop made fits takes taking c.args.sink.now c.waiting.sink c.args.chunks.now.items c.waiting.chunks.items c.waiting.invariant.hands
    c.in-Some.chunk c.pop.new.self.items c.in-Some.ensures c.from_chunk.result c.take.new.self c.in-Ok-Stop.ensures.taken is c.from_chunk.ensures.fits flow.Stop

pub returns-in-Err-clause-over : goal.returns-in-Err-clause-over
returns-in-Err-clause-over g c =
    let made : Chunk g.row.R.Denot → g.row.T.Denot = made_by g.T.FromChunk.made (named_in c.args.order.now.items) in
    let fits = g.T.FromChunk.fits in
    let takes = g.K.ChunkSink.takes in
    let taking = g.met.K.ChunkSink.taking in
    over_short made fits takes taking c.args.sink.now c.waiting.sink c.args.chunks.now.items c.waiting.chunks.items c.waiting.invariant.hands
    c.in-Some.chunk c.pop.new.self.items c.in-Some.ensures c.in-Err.short c.take.new.self c.in-Err.ensures.same
