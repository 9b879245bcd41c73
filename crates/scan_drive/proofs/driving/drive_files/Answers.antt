use Rattle.std.proofs.Common.{◌≡◌, ◌∙◌, List, length, ap, sym, subst, arith}
use Rattle.std.specs.List.{range_with_len}
use Rattle.std.specs.List.Sorted.{SwapsInRange}
use Rattle.std.specs.Prelude.{IfOk, IfErr, true}
use Rattle.scan_drive.specs.Before.{StopsBefore}
use Rattle.scan_drive.specs.Chunks.{HasRoom}
use Rattle.scan_drive.specs.Drivings.{StopsDrive}
use Rattle.scan_drive.specs.Handed.{Hands, DriveTakes, EndsBy, named_in}
use Rattle.scan_drive.specs.Line.{exchanged, restored, placed_by}
use Rattle.scan_drive.specs.Moves.{tells}
use Rattle.scan_drive.specs.Rounds.{IsLawful}
use Rattle.scan_drive.specs.Runnings.{Starts}
use Rattle.scan_drive.specs.Steps.{DriveKeeps, DriveGives}
use Rattle.scan_drive.specs.declared.files.ScanFile.{ScanFile}
use Rattle.scan_drive.specs.declared.round.Drive.{Drive}
use Rattle.scan_drive.proofs.DriveSteps.{drive_rests, drive_keeps, drive_takes, drive_gives, takes_none}
use Rattle.scan_drive.proofs.Driven.{out_fault}
use Rattle.scan_drive.proofs.Exchanging.{length_exchanged, length_restored}
use Rattle.scan_drive.proofs.LineSteps.{stops_fault, stops_before, stops_ends}
use Rattle.scan_drive.proofs.Restoring.{err_named, named_by}
use Rattle.scan_drive.proofs.Sinking.{hands_none, hands_named}
use Rattle.scan_drive.proofs.driving.drive_files.Goals as goal

pub returns-in_default-clause-keeps : goal.returns-in_default-clause-keeps
returns-in_default-clause-keeps g c =
    let state = g.X.SplitOpener.state c.args.context.now in
    let polls = g.X.SplitOpener.polls in
    let refuses = g.X.SplitOpener.refuses c.args.context.now in
    let admits = g.X.SplitOpener.admits c.args.context.now in
    let source = g.S.SegmentSource.state in
    let cache = g.C.KeyedSegmentCache.cache in
    let split = g.W.SplitWork.split in
    let comes = g.W.SplitWork.comes in
    let items = g.W.SplitWork.items in
    drive_rests state polls refuses admits source split comes items c.args.limit c.args.ordered c.args.workers c.args.files.now.items (cache c.args.cache.now) c.requires.idle

pub returns-in_default-clause-takes : goal.returns-in_default-clause-takes
returns-in_default-clause-takes g c =
    let state = g.X.SplitOpener.state c.args.context.now in
    let source = g.S.SegmentSource.state in
    let cache = g.C.KeyedSegmentCache.cache in
    let items = g.W.SplitWork.items in
    hands_none g.T.FromChunk.made g.T.FromChunk.fits g.K.ChunkSink.takes g.met.K.ChunkSink.taking c.args.sink.now (DriveTakes state source items c.args.limit c.args.ordered c.args.files.now.items (cache c.args.cache.now))
    (takes_none state source items c.args.limit c.args.ordered c.args.files.now.items (cache c.args.cache.now))

pub returns-in_default-places_of-clause-keeps : goal.returns-in_default-places_of-clause-keeps
returns-in_default-places_of-clause-keeps g c =
    let state = g.X.SplitOpener.state c.args.context.now in
    let polls = g.X.SplitOpener.polls in
    let refuses = g.X.SplitOpener.refuses c.args.context.now in
    let admits = g.X.SplitOpener.admits c.args.context.now in
    let source = g.S.SegmentSource.state in
    let cache = g.C.KeyedSegmentCache.cache in
    let split = g.W.SplitWork.split in
    let comes = g.W.SplitWork.comes in
    let items = g.W.SplitWork.items in
    drive_rests state polls refuses admits source split comes items c.args.limit c.args.ordered c.args.workers c.args.files.now.items (cache c.args.cache.now) c.requires.idle

pub returns-in_default-places_of-clause-takes : goal.returns-in_default-places_of-clause-takes
returns-in_default-places_of-clause-takes g c =
    let state = g.X.SplitOpener.state c.args.context.now in
    let source = g.S.SegmentSource.state in
    let cache = g.C.KeyedSegmentCache.cache in
    let items = g.W.SplitWork.items in
    hands_none g.T.FromChunk.made g.T.FromChunk.fits g.K.ChunkSink.takes g.met.K.ChunkSink.taking c.args.sink.now (DriveTakes state source items c.args.limit c.args.ordered c.args.files.now.items (cache c.args.cache.now))
    (takes_none state source items c.args.limit c.args.ordered c.args.files.now.items (cache c.args.cache.now))

pub returns-in_default-start-clause-keeps : goal.returns-in_default-start-clause-keeps
returns-in_default-start-clause-keeps g c =
    let state = g.X.SplitOpener.state c.args.context.now in
    let polls = g.X.SplitOpener.polls in
    let refuses = g.X.SplitOpener.refuses c.args.context.now in
    let admits = g.X.SplitOpener.admits c.args.context.now in
    let source = g.S.SegmentSource.state in
    let cache = g.C.KeyedSegmentCache.cache in
    let split = g.W.SplitWork.split in
    let comes = g.W.SplitWork.comes in
    let items = g.W.SplitWork.items in
    drive_rests state polls refuses admits source split comes items c.args.limit c.args.ordered c.args.workers c.args.files.now.items (cache c.args.cache.now) c.requires.idle

pub returns-in_default-start-clause-takes : goal.returns-in_default-start-clause-takes
returns-in_default-start-clause-takes g c =
    let state = g.X.SplitOpener.state c.args.context.now in
    let source = g.S.SegmentSource.state in
    let cache = g.C.KeyedSegmentCache.cache in
    let items = g.W.SplitWork.items in
    hands_none g.T.FromChunk.made g.T.FromChunk.fits g.K.ChunkSink.takes g.met.K.ChunkSink.taking c.args.sink.now (DriveTakes state source items c.args.limit c.args.ordered c.args.files.now.items (cache c.args.cache.now))
    (takes_none state source items c.args.limit c.args.ordered c.args.files.now.items (cache c.args.cache.now))

pub returns-in_default-boxes-clause-keeps : goal.returns-in_default-boxes-clause-keeps
returns-in_default-boxes-clause-keeps g c =
    let state = g.X.SplitOpener.state c.args.context.now in
    let polls = g.X.SplitOpener.polls in
    let refuses = g.X.SplitOpener.refuses c.args.context.now in
    let admits = g.X.SplitOpener.admits c.args.context.now in
    let source = g.S.SegmentSource.state in
    let cache = g.C.KeyedSegmentCache.cache in
    let split = g.W.SplitWork.split in
    let comes = g.W.SplitWork.comes in
    let items = g.W.SplitWork.items in
    drive_rests state polls refuses admits source split comes items c.args.limit c.args.ordered c.args.workers c.args.files.now.items (cache c.args.cache.now) c.requires.idle

pub returns-in_default-boxes-clause-takes : goal.returns-in_default-boxes-clause-takes
returns-in_default-boxes-clause-takes g c =
    let state = g.X.SplitOpener.state c.args.context.now in
    let source = g.S.SegmentSource.state in
    let cache = g.C.KeyedSegmentCache.cache in
    let items = g.W.SplitWork.items in
    hands_none g.T.FromChunk.made g.T.FromChunk.fits g.K.ChunkSink.takes g.met.K.ChunkSink.taking c.args.sink.now (DriveTakes state source items c.args.limit c.args.ordered c.args.files.now.items (cache c.args.cache.now))
    (takes_none state source items c.args.limit c.args.ordered c.args.files.now.items (cache c.args.cache.now))

pub run_pooled-done-requires-clause-starts : goal.run_pooled-done-requires-clause-starts
run_pooled-done-requires-clause-starts g c κs lives =
    let a : List (ScanFile g.row.O.Denot g.row.S.Denot) = c.args.files.now.items in
    let limit = c.args.limit in
    let d0 : Drive g.row.W.Denot g.row.W-Rows.Denot g.row.F.Denot = c.in-Ok-start.drive in
    let n = length a in
    let count : c.len-2.result ≡ n = omega (arith, c.len-2.ensures) in
    let starts : Starts n limit d0 = subst (λ k. Starts k limit d0) count c.in-Ok-start.ensures.starts in
    (subst (λ l. Starts n l d0) (sym starts.left) starts, subst HasRoom (sym starts.left) c.requires.limit)

pub run_pooled-done-requires-clause-none : goal.run_pooled-done-requires-clause-none
run_pooled-done-requires-clause-none g c κs lives =
    let count : c.len.result ≡ length c.args.files.now.items = omega (arith, c.len.ensures) in
    (c.new-exchanges.ensures.items, c.in-Ok-places_of.ensures ∙ ap (range_with_len 0) count)

pub close_all-requires : goal.close_all-requires
close_all-requires g c = c.run_pooled-done.ensures.keeps.agree

pub put_back-requires : goal.put_back-requires
put_back-requires g c =
    let a : List (ScanFile g.row.O.Denot g.row.S.Denot) = c.args.files.now.items in
    let b : List (ScanFile g.row.O.Denot g.row.S.Denot) = c.run_pooled-done.new.files.items in
    let e : List (ScanFile g.row.O.Denot g.row.S.Denot) = c.close_all.new.files.items in
    let log = c.run_pooled-done.new.exchanges.items in
    let r = c.run_pooled-done.ensures in
    let close = c.close_all.ensures in
    let long_b : length b ≡ length a = r.keeps.moves.len ∙ length_exchanged log a in
    let long : length e ≡ length a = close.moves.len ∙ long_b in
    subst (λ m. SwapsInRange m log) (sym long) r.keeps.places

pub returns-clause-keeps : goal.returns-clause-keeps
returns-clause-keeps g c =
    let state = g.X.SplitOpener.state c.args.context.now in
    let polls = g.X.SplitOpener.polls in
    let refuses = g.X.SplitOpener.refuses c.args.context.now in
    let admits = g.X.SplitOpener.admits c.args.context.now in
    let source = g.S.SegmentSource.state in
    let cache = g.C.KeyedSegmentCache.cache in
    let split = g.W.SplitWork.split in
    let comes = g.W.SplitWork.comes in
    let items = g.W.SplitWork.items in
    let a : List (ScanFile g.row.O.Denot g.row.S.Denot) = c.args.files.now.items in
    let e : List (ScanFile g.row.O.Denot g.row.S.Denot) = c.close_all.new.files.items in
    let d0 : Drive g.row.W.Denot g.row.W-Rows.Denot g.row.F.Denot = c.in-Ok-start.drive in
    let c0 = cache c.args.cache.now in
    let c1 = cache c.run_pooled-done.new.cache in
    let log = c.run_pooled-done.new.exchanges.items in
    let n = length a in
    let count : c.len-2.result ≡ n = omega (arith, c.len-2.ensures) in
    let starts : Starts n c.args.limit d0 = subst (λ k. Starts k c.args.limit d0) count c.in-Ok-start.ensures.starts in
    let r = c.run_pooled-done.ensures in
    let close = c.close_all.ensures in
    subst (λ (xs : List (ScanFile g.row.O.Denot g.row.S.Denot)). DriveKeeps state polls admits source items c.args.limit c.args.ordered c.args.workers a xs c0 c1) (sym c.put_back.ensures)
    (drive_keeps state polls refuses admits source split comes items c.args.limit c.args.ordered c.args.workers a c0 c.requires.idle d0 starts c.in-Ok-start.ensures.order log c.run_pooled-done.new.files.items c.run_pooled-done.new.desks.items c1 r.keeps e close.idle close.moves (close.ledger c1))

pub returns-clause-takes : goal.returns-clause-takes
returns-clause-takes g c =
    let state = g.X.SplitOpener.state c.args.context.now in
    let polls = g.X.SplitOpener.polls in
    let refuses = g.X.SplitOpener.refuses c.args.context.now in
    let admits = g.X.SplitOpener.admits c.args.context.now in
    let source = g.S.SegmentSource.state in
    let cache = g.C.KeyedSegmentCache.cache in
    let split = g.W.SplitWork.split in
    let comes = g.W.SplitWork.comes in
    let items = g.W.SplitWork.items in
    let a : List (ScanFile g.row.O.Denot g.row.S.Denot) = c.args.files.now.items in
    let e : List (ScanFile g.row.O.Denot g.row.S.Denot) = c.close_all.new.files.items in
    let d0 : Drive g.row.W.Denot g.row.W-Rows.Denot g.row.F.Denot = c.in-Ok-start.drive in
    let c0 = cache c.args.cache.now in
    let c1 = cache c.run_pooled-done.new.cache in
    let log = c.run_pooled-done.new.exchanges.items in
    let n = length a in
    let count : c.len-2.result ≡ n = omega (arith, c.len-2.ensures) in
    let starts : Starts n c.args.limit d0 = subst (λ k. Starts k c.args.limit d0) count c.in-Ok-start.ensures.starts in
    let r = c.run_pooled-done.ensures in
    let close = c.close_all.ensures in
    let made = g.T.FromChunk.made in
    let fits = g.T.FromChunk.fits in
    let takes = g.K.ChunkSink.takes in
    hands_named made fits takes (placed_by log) c.args.sink.now c.run_pooled-done.new.sink (DriveTakes state source items d0.left d0.ordered (exchanged log a) c0) (DriveTakes state source items c.args.limit c.args.ordered a c0)
    (drive_takes state polls refuses admits source split comes items c.args.limit c.args.ordered c.args.workers a c0 c.requires.idle d0 starts c.in-Ok-start.ensures.order log c.run_pooled-done.new.files.items c.run_pooled-done.new.desks.items c1 r.keeps e close.idle close.moves) r.takes

pub returns-clause-gives : goal.returns-clause-gives
returns-clause-gives g c =
    let state = g.X.SplitOpener.state c.args.context.now in
    let polls = g.X.SplitOpener.polls in
    let refuses = g.X.SplitOpener.refuses c.args.context.now in
    let admits = g.X.SplitOpener.admits c.args.context.now in
    let source = g.S.SegmentSource.state in
    let cache = g.C.KeyedSegmentCache.cache in
    let split = g.W.SplitWork.split in
    let comes = g.W.SplitWork.comes in
    let items = g.W.SplitWork.items in
    let a : List (ScanFile g.row.O.Denot g.row.S.Denot) = c.args.files.now.items in
    let e : List (ScanFile g.row.O.Denot g.row.S.Denot) = c.close_all.new.files.items in
    let d0 : Drive g.row.W.Denot g.row.W-Rows.Denot g.row.F.Denot = c.in-Ok-start.drive in
    let c0 = cache c.args.cache.now in
    let c1 = cache c.run_pooled-done.new.cache in
    let log = c.run_pooled-done.new.exchanges.items in
    let n = length a in
    let count : c.len-2.result ≡ n = omega (arith, c.len-2.ensures) in
    let starts : Starts n c.args.limit d0 = subst (λ k. Starts k c.args.limit d0) count c.in-Ok-start.ensures.starts in
    let r = c.run_pooled-done.ensures in
    let close = c.close_all.ensures in
    let made = g.T.FromChunk.made in
    let fits = g.T.FromChunk.fits in
    let takes = g.K.ChunkSink.takes in
    let d1 : Drive g.row.W.Denot g.row.W-Rows.Denot g.row.F.Denot = c.run_pooled-done.new.seated.state in
    let full = g.K.ChunkSink.full c.run_pooled-done.new.sink in
    subst (λ (xs : List (ScanFile g.row.O.Denot g.row.S.Denot)). IfOk c.end_drive.result (λ o. EndsBy o.flow full
    (Hands made fits takes c.args.sink.now c.run_pooled-done.new.sink (λ chunks. DriveGives state polls admits source items c.args.limit c.args.ordered a xs c0 c1 chunks o.report)))) (sym c.put_back.ensures)
    (drive_gives state polls refuses admits source split comes items c.args.limit c.args.ordered c.args.workers a c0 c.requires.idle d0 starts c.in-Ok-start.ensures.order log c.run_pooled-done.new.files.items c.run_pooled-done.new.desks.items c1 r.keeps e close.idle close.moves close.awaited close.balance
    made fits takes c.args.sink.now c.run_pooled-done.new.sink full d1 c.run_pooled-done.result c.end_drive.result c.end_drive.ensures.ok r.runs.comes_to)

pub returns-clause-fault : goal.returns-clause-fault
returns-clause-fault g c =
    let cache = g.C.KeyedSegmentCache.cache in
    let state = g.X.SplitOpener.state c.args.context.now in
    let polls = g.X.SplitOpener.polls in
    let refuses = g.X.SplitOpener.refuses c.args.context.now in
    let admits = g.X.SplitOpener.admits c.args.context.now in
    let source = g.S.SegmentSource.state in
    let split = g.W.SplitWork.split in
    let comes = g.W.SplitWork.comes in
    let items = g.W.SplitWork.items in
    let a : List (ScanFile g.row.O.Denot g.row.S.Denot) = c.args.files.now.items in
    let c0 = cache c.args.cache.now in
    let limit = c.args.limit in
    let ordered = c.args.ordered in
    let b : List (ScanFile g.row.O.Denot g.row.S.Denot) = c.run_pooled-done.new.files.items in
    let e : List (ScanFile g.row.O.Denot g.row.S.Denot) = c.close_all.new.files.items in
    let d0 : Drive g.row.W.Denot g.row.W-Rows.Denot g.row.F.Denot = c.in-Ok-start.drive in
    let d1 : Drive g.row.W.Denot g.row.W-Rows.Denot g.row.F.Denot = c.run_pooled-done.new.seated.state in
    let log = c.run_pooled-done.new.exchanges.items in
    let n = length a in
    let count : c.len-2.result ≡ n = omega (arith, c.len-2.ensures) in
    let starts : Starts n limit d0 = subst (λ k. Starts k limit d0) count c.in-Ok-start.ensures.starts in
    let is : d0.ordered ≡ ordered = c.in-Ok-start.ensures.order in
    let r = c.run_pooled-done.ensures in
    let close = c.close_all.ensures in
    let long_b : length b ≡ length a = r.keeps.moves.len ∙ length_exchanged log a in
    let z : List (ScanFile g.row.O.Denot g.row.S.Denot) = restored log e in
    let back : c.put_back.new.files.items ≡ z = c.put_back.ensures in
    let done = c.run_pooled-done.result in
    let out = c.end_drive.result in
    let named = named_by log n c.run_pooled-done.new.order.items r.keeps.places r.order in
    subst (λ (xs : List (ScanFile g.row.O.Denot g.row.S.Denot)). IfErr out (StopsDrive state polls refuses admits source items limit ordered c0 a xs)) (sym back)
    (out_fault log done out state polls refuses admits source split comes items limit ordered c0 a b e d0 d1 starts (λ o. r.keeps.order (is ∙ o)) r.keeps.places long_b close.moves (err_named out done (named_in c.run_pooled-done.new.order.items) (placed_by log) named c.end_drive.ensures.err)
    (stops_fault state polls refuses admits source split comes items c0 d0 done a log b d1 r.runs.stops)
    (subst (λ o. IfErr done (λ x. ordered ≡ true → IsLawful state source a c0 → StopsBefore items o (tells state source a) x)) starts.left
    (subst (λ k. IfErr done (λ x. k ≡ true → IsLawful state source a c0 → StopsBefore items d0.left (tells state source a) x)) is
    (stops_before state polls refuses admits source split comes items c0 d0 done a log b d1 r.runs.stops))) (stops_ends state polls refuses admits source split comes items c0 d0 done a log b d1 r.runs.stops))
