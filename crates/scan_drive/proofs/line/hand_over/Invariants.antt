use Rattle.std.proofs.Common.{◌≡◌, ◌++◌, length}
use Rattle.scan_drive.specs.Handed.{Hands, made_by, named_in}
use Rattle.scan_drive.proofs.line.hand_over.Given as goal

abbrev pub invariant-waiting : goal.invariant-waiting
invariant-waiting g l = record {
  hands : Hands (made_by g.T.FromChunk.made (named_in l.fn.order.items)) g.T.FromChunk.fits g.K.ChunkSink.takes l.fn.sink l.sink (λ us. l.fn.chunks.items ≡ us ++ l.chunks.items);
}

abbrev pub decreases-waiting : goal.decreases-waiting
decreases-waiting g l = length l.chunks.items
