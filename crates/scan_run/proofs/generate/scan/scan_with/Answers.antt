use Rattle.std.proofs.Common.{subst}
use Rattle.scan_segments.specs.Cache.{CacheState}
use Rattle.scan_caches.specs.Bounded.{keyed_state}
use Rattle.scan_segments.specs.MemorySource.{source_state}
use Rattle.scan_segments.specs.declared.segment.SegmentKey.{SegmentKey}
use Rattle.scan_multi.specs.Scans.{IsScan, ScanMoves}
use Rattle.scan_run.specs.FileOf.{memory_opener}
use Rattle.scan_run.proofs.generate.scan.scan_with.Goals as goal

pub returns-in-Ok-clause-ok : goal.returns-in-Ok-clause-ok
returns-in-Ok-clause-ok g c =
    let old = c.args.files.now.items in
    let new = c.scan_columns_of.new.files.items in
    let left = keyed_state c.scan_columns_of.new.cache in
    let P : CacheState SegmentKey → Type 0 = λ z. IsScan memory_opener source_state c.args.workers c.args.dtype.now c.args.request.now old new z left c.in-Ok.out in
    let Q : CacheState SegmentKey → Type 0 = λ z. ScanMoves memory_opener source_state c.args.workers c.args.dtype.now c.args.request.now old new z left in
    record { cache = left; scan = subst P c.in_ok-cache.ensures c.in-Ok.ensures.ok; moves = subst Q c.in_ok-cache.ensures c.scan_columns_of.ensures.moves }
