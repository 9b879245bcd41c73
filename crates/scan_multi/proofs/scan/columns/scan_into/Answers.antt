use denote.Param.Send.{sendable}
use Rattle.std.proofs.Common.{sym, subst}
use Rattle.std.proofs.lemmas.Result.{err_from_is_err_and}
use Rattle.scan_file.proofs.FilesSent.{FileRows-send, FileSplit-send}
use Rattle.scan_multi.specs.Scans.{IsRefusedFor}
use Rattle.scan_multi.specs.Taken.{EndsScan}
use Rattle.scan_multi.specs.declared.scan.fault.ScanFault.{ScanFault}
use Rattle.scan_multi.proofs.Laws.{means_of}
use Rattle.scan_multi.proofs.Meaning.{Means}
use Rattle.scan_multi.proofs.Requesting.{some_workers}
use Rattle.scan_multi.proofs.Resting.{moves_still, ends_none, front_still, refused_request}
use Rattle.scan_multi.proofs.Scanning.{scan_moved, refused_drive, front_taken, scan_ended}
use Rattle.scan_multi.proofs.scan.columns.scan_into.Goals as goal

-- ---- a request with a fault
pub returns-in_err-ask-clause-ok : goal.returns-in_err-ask-clause-ok
returns-in_err-ask-clause-ok g c = let p = err_from_is_err_and c.from_residual.result c.from_residual.ensures.1 in rw (p.1) tt

pub returns-in_err-ask-clause-err : goal.returns-in_err-ask-clause-err
returns-in_err-ask-clause-err g c =
    let p = err_from_is_err_and c.from_residual.result c.from_residual.ensures.1 in
    rw (p.1, p.2)
    (refused_request g.O.LayoutReaderFactory.opener g.S.SegmentSource.state c.args.files.now.items (g.C.KeyedSegmentCache.cache c.args.cache.now) c.args.workers c.args.dtype.now c.args.request.now _ c.in_err-ask.ensures.err)

pub returns-in_err-ask-clause-front : goal.returns-in_err-ask-clause-front
returns-in_err-ask-clause-front g c =
    front_still g.O.LayoutReaderFactory.opener g.S.SegmentSource.state c.args.files.now.items (g.C.KeyedSegmentCache.cache c.args.cache.now) c.args.workers c.args.dtype.now c.args.request.now g.K.ChunkSink.takes c.args.sink.now (g.met.K.ChunkSink.taking.none c.args.sink.now)

pub returns-in_err-ask-clause-moves : goal.returns-in_err-ask-clause-moves
returns-in_err-ask-clause-moves g c =
    moves_still g.O.LayoutReaderFactory.opener g.S.SegmentSource.state c.args.files.now.items (g.C.KeyedSegmentCache.cache c.args.cache.now) c.args.workers c.args.dtype.now c.args.request.now c.requires

-- ---- a limit of no rows
pub returns-then-not-has_room-clause-ok : goal.returns-then-not-has_room-clause-ok
returns-then-not-has_room-clause-ok g c =
    let opener = g.O.LayoutReaderFactory.opener in
    let source = g.S.SegmentSource.state in
    let files = c.args.files.now.items in
    let cache = g.C.KeyedSegmentCache.cache c.args.cache.now in
    let zero-rows = c.has_room.ensures.none c.if-not-has_room.true in
    let takes = g.K.ChunkSink.takes in
    let sink = c.args.sink.now in
    let full = g.K.ChunkSink.full sink in
    subst (EndsScan opener source takes c.args.workers c.args.dtype.now c.args.request.now files files cache cache full sink sink) (sym c.end_of_none.ensures)
    (ends_none opener source files cache c.args.workers c.args.dtype.now c.args.request.now takes sink (g.met.K.ChunkSink.taking.none sink) full c.in_ok-ask.ensures.ok.no_fault zero-rows)

pub returns-then-not-has_room-clause-front : goal.returns-then-not-has_room-clause-front
returns-then-not-has_room-clause-front g c =
    front_still g.O.LayoutReaderFactory.opener g.S.SegmentSource.state c.args.files.now.items (g.C.KeyedSegmentCache.cache c.args.cache.now) c.args.workers c.args.dtype.now c.args.request.now g.K.ChunkSink.takes c.args.sink.now (g.met.K.ChunkSink.taking.none c.args.sink.now)

pub returns-then-not-has_room-clause-moves : goal.returns-then-not-has_room-clause-moves
returns-then-not-has_room-clause-moves g c =
    moves_still g.O.LayoutReaderFactory.opener g.S.SegmentSource.state c.args.files.now.items (g.C.KeyedSegmentCache.cache c.args.cache.now) c.args.workers c.args.dtype.now c.args.request.now c.requires

-- ---- the drive
pub drive_files-requires-send-W : goal.drive_files-requires-send-W
drive_files-requires-send-W g c κs = let a = FileSplit-send in search sendable depth 20

pub drive_files-requires-send-W-Rows : goal.drive_files-requires-send-W-Rows
drive_files-requires-send-W-Rows g c κs = let a = FileRows-send in search sendable depth 20

pub drive_files-requires-clause-workers : goal.drive_files-requires-clause-workers
drive_files-requires-clause-workers g c κs lives = some_workers c.args.workers c.args.dtype.now c.args.request.now c.in_ok-ask.ensures.ok.no_fault

pub drive_files-requires-clause-idle : goal.drive_files-requires-clause-idle
drive_files-requires-clause-idle g c κs lives = c.requires

pub drive_files-requires-clause-limit : goal.drive_files-requires-clause-limit
drive_files-requires-clause-limit g c κs lives = c.has_room.ensures.some c.if-not-has_room.false

-- ---- all chunks, or as many as the sink wants
pub returns-in-Ok-clause-ok : goal.returns-in-Ok-clause-ok
returns-in-Ok-clause-ok g c =
    let d = c.args.dtype.now in
    let q = c.args.request.now in
    let a = c.in_ok-ask.ask in
    let asked = c.in_ok-ask.ensures.ok in
    let means : Means d q a = means_of d q a asked.asks in
    scan_ended g.O.LayoutReaderFactory.opener g.S.SegmentSource.state c.args.workers d q a asked.asks means
    (g.C.KeyedSegmentCache.cache c.args.cache.now) (g.C.KeyedSegmentCache.cache c.drive_files.new.cache) c.args.files.now.items c.drive_files.new.files.items asked.no_fault (c.has_room.ensures.some c.if-not-has_room.false)
    g.K.ChunkSink.takes c.args.sink.now c.drive_files.new.sink (g.K.ChunkSink.full c.drive_files.new.sink) c.in-Ok.end c.in-Ok.ensures.gives

pub returns-in-Ok-clause-front : goal.returns-in-Ok-clause-front
returns-in-Ok-clause-front g c =
    let d = c.args.dtype.now in
    let q = c.args.request.now in
    let a = c.in_ok-ask.ask in
    let asked = c.in_ok-ask.ensures.ok in
    let means : Means d q a = means_of d q a asked.asks in
    front_taken g.O.LayoutReaderFactory.opener g.S.SegmentSource.state c.args.workers d q a asked.asks means
    (g.C.KeyedSegmentCache.cache c.args.cache.now) (g.C.KeyedSegmentCache.cache c.drive_files.new.cache) c.args.files.now.items c.drive_files.new.files.items asked.no_fault (c.has_room.ensures.some c.if-not-has_room.false)
    g.K.ChunkSink.takes c.args.sink.now c.drive_files.new.sink c.drive_files.ensures.takes

pub returns-clause-front : goal.returns-clause-front
returns-clause-front g c =
    let d = c.args.dtype.now in
    let q = c.args.request.now in
    let a = c.in_ok-ask.ask in
    let asked = c.in_ok-ask.ensures.ok in
    let means : Means d q a = means_of d q a asked.asks in
    front_taken g.O.LayoutReaderFactory.opener g.S.SegmentSource.state c.args.workers d q a asked.asks means
    (g.C.KeyedSegmentCache.cache c.args.cache.now) (g.C.KeyedSegmentCache.cache c.drive_files.new.cache) c.args.files.now.items c.drive_files.new.files.items asked.no_fault (c.has_room.ensures.some c.if-not-has_room.false)
    g.K.ChunkSink.takes c.args.sink.now c.drive_files.new.sink c.drive_files.ensures.takes

pub returns-in-Ok-clause-moves : goal.returns-in-Ok-clause-moves
returns-in-Ok-clause-moves g c =
    let d = c.args.dtype.now in
    let q = c.args.request.now in
    let a = c.in_ok-ask.ask in
    let asked = c.in_ok-ask.ensures.ok in
    let did = c.drive_files.ensures.keeps in
    let means : Means d q a = means_of d q a asked.asks in
    scan_moved g.O.LayoutReaderFactory.opener g.S.SegmentSource.state c.args.workers d q a asked.asks means
    (g.C.KeyedSegmentCache.cache c.args.cache.now) (g.C.KeyedSegmentCache.cache c.drive_files.new.cache) c.args.files.now.items c.drive_files.new.files.items
    asked.no_fault (c.has_room.ensures.some c.if-not-has_room.false) did.moves did.polled did.trades did.cache did.lookups c.requires did.idle

-- ---- a fault of the drive
pub returns-clause-err : goal.returns-clause-err
returns-clause-err g c =
    let d = c.args.dtype.now in
    let q = c.args.request.now in
    let a = c.in_ok-ask.ask in
    let asked = c.in_ok-ask.ensures.ok in
    let did = c.drive_files.ensures.keeps in
    let means : Means d q a = means_of d q a asked.asks in
    let opener = g.O.LayoutReaderFactory.opener in
    let source = g.S.SegmentSource.state in
    let old = c.args.files.now.items in
    let new = c.drive_files.new.files.items in
    let before = g.C.KeyedSegmentCache.cache c.args.cache.now in
    let after = g.C.KeyedSegmentCache.cache c.drive_files.new.cache in
    subst (λ (e : ScanFault). IsRefusedFor opener source c.args.workers d q old new before after e) (sym c.placed.ensures)
    (refused_drive opener source c.args.workers d q a asked.asks means before after old new asked.no_fault (c.has_room.ensures.some c.if-not-has_room.false) c.in-Err.fault c.in-Err.ensures.fault)

pub returns-clause-moves : goal.returns-clause-moves
returns-clause-moves g c =
    let d = c.args.dtype.now in
    let q = c.args.request.now in
    let a = c.in_ok-ask.ask in
    let asked = c.in_ok-ask.ensures.ok in
    let did = c.drive_files.ensures.keeps in
    let means : Means d q a = means_of d q a asked.asks in
    scan_moved g.O.LayoutReaderFactory.opener g.S.SegmentSource.state c.args.workers d q a asked.asks means
    (g.C.KeyedSegmentCache.cache c.args.cache.now) (g.C.KeyedSegmentCache.cache c.drive_files.new.cache) c.args.files.now.items c.drive_files.new.files.items
    asked.no_fault (c.has_room.ensures.some c.if-not-has_room.false) did.moves did.polled did.trades did.cache did.lookups c.requires did.idle
