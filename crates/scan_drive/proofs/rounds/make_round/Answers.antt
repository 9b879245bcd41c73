use Rattle.std.proofs.Common.{[], length, refl, sym, subst}
use Rattle.scan_drive.specs.Drives.{FilesWithin}
use Rattle.scan_drive.specs.Handed.{with_taken}
use Rattle.scan_drive.specs.declared.round.Drive.{Drive}
use Rattle.scan_drive.proofs.Going.{agree_kept}
use Rattle.scan_drive.proofs.Outgone.{rest_taken, rows_taken, stands_back}
use Rattle.scan_drive.proofs.RoundSteps.{stops_short, keeps_brought, comes_done, comes_not, keeps_served, comes_opened, comes_more}
use Rattle.scan_drive.proofs.rounds.make_round.Goals as goal

pub returns-in-Err-clause-keeps : goal.returns-in-Err-clause-keeps
returns-in-Err-clause-keeps g c ts =
    let state = g.X.SplitOpener.state c.args.context.now in
    let polls = g.X.SplitOpener.polls in
    let refuses = g.X.SplitOpener.refuses c.args.context.now in
    let admits = g.X.SplitOpener.admits c.args.context.now in
    let source = g.S.SegmentSource.state in
    let cache = g.C.KeyedSegmentCache.cache in
    let split = g.W.SplitWork.split in
    let comes = g.W.SplitWork.comes in
    let items = g.W.SplitWork.items in
    let b = c.bring_in.ensures in
    keeps_brought state polls refuses admits source split comes items c.args.workers c.args.files.now.items c.bring_in.new.files.items c.args.desks.now.items (cache c.args.cache.now) (with_taken ts c.args.drive.now) (with_taken ts c.bring_in.new.drive)
    c.requires.agree b.moves b.sources (b.polls ts)

pub returns-in-Ok-None-clause-keeps : goal.returns-in-Ok-None-clause-keeps
returns-in-Ok-None-clause-keeps g c ts =
    let state = g.X.SplitOpener.state c.args.context.now in
    let polls = g.X.SplitOpener.polls in
    let refuses = g.X.SplitOpener.refuses c.args.context.now in
    let admits = g.X.SplitOpener.admits c.args.context.now in
    let source = g.S.SegmentSource.state in
    let cache = g.C.KeyedSegmentCache.cache in
    let split = g.W.SplitWork.split in
    let comes = g.W.SplitWork.comes in
    let items = g.W.SplitWork.items in
    let b = c.bring_in.ensures in
    keeps_brought state polls refuses admits source split comes items c.args.workers c.args.files.now.items c.bring_in.new.files.items c.args.desks.now.items (cache c.args.cache.now) (with_taken ts c.args.drive.now) (with_taken ts c.bring_in.new.drive)
    c.requires.agree b.moves b.sources (b.polls ts)

pub returns-in-Err-settle-clause-keeps : goal.returns-in-Err-settle-clause-keeps
returns-in-Err-settle-clause-keeps g c ts =
    let state = g.X.SplitOpener.state c.args.context.now in
    let polls = g.X.SplitOpener.polls in
    let refuses = g.X.SplitOpener.refuses c.args.context.now in
    let admits = g.X.SplitOpener.admits c.args.context.now in
    let source = g.S.SegmentSource.state in
    let cache = g.C.KeyedSegmentCache.cache in
    let split = g.W.SplitWork.split in
    let comes = g.W.SplitWork.comes in
    let items = g.W.SplitWork.items in
    let b = c.bring_in.ensures in
    keeps_brought state polls refuses admits source split comes items c.args.workers c.args.files.now.items c.bring_in.new.files.items c.args.desks.now.items (cache c.args.cache.now) (with_taken ts c.args.drive.now) (with_taken ts c.bring_in.new.drive)
    c.requires.agree b.moves b.sources (b.polls ts)

pub returns-in-Err-serve-clause-keeps : goal.returns-in-Err-serve-clause-keeps
returns-in-Err-serve-clause-keeps g c ts =
    let state = g.X.SplitOpener.state c.args.context.now in
    let polls = g.X.SplitOpener.polls in
    let refuses = g.X.SplitOpener.refuses c.args.context.now in
    let admits = g.X.SplitOpener.admits c.args.context.now in
    let source = g.S.SegmentSource.state in
    let cache = g.C.KeyedSegmentCache.cache in
    let split = g.W.SplitWork.split in
    let comes = g.W.SplitWork.comes in
    let items = g.W.SplitWork.items in
    let b = c.bring_in.ensures in
    keeps_served state polls refuses admits source split comes items c.args.workers c.args.files.now.items c.bring_in.new.files.items c.args.desks.now.items (cache c.args.cache.now) (with_taken ts c.args.drive.now) (with_taken ts c.bring_in.new.drive)
    c.requires.agree b.moves b.sources (b.polls ts) (rest_taken ts c.args.drive.now c.bring_in.new.drive b.rest) c.in-Ok.opened (c.in-Ok.ensures.brings ts)
    c.in-Ok-Some.asking.items (with_taken ts c.settle.new.drive) ((rw c.in-Ok-Some.field-0-is at c.in-Ok-Some.ensures.waits) ts) c.serve.new.files.items c.serve.new.desks.items (cache c.serve.new.cache)
    c.serve.ensures.sources c.serve.ensures.trades c.serve.ensures.agree

pub returns-then-opened-clause-keeps : goal.returns-then-opened-clause-keeps
returns-then-opened-clause-keeps g c ts =
    let state = g.X.SplitOpener.state c.args.context.now in
    let polls = g.X.SplitOpener.polls in
    let refuses = g.X.SplitOpener.refuses c.args.context.now in
    let admits = g.X.SplitOpener.admits c.args.context.now in
    let source = g.S.SegmentSource.state in
    let cache = g.C.KeyedSegmentCache.cache in
    let split = g.W.SplitWork.split in
    let comes = g.W.SplitWork.comes in
    let items = g.W.SplitWork.items in
    let b = c.bring_in.ensures in
    keeps_served state polls refuses admits source split comes items c.args.workers c.args.files.now.items c.bring_in.new.files.items c.args.desks.now.items (cache c.args.cache.now) (with_taken ts c.args.drive.now) (with_taken ts c.bring_in.new.drive)
    c.requires.agree b.moves b.sources (b.polls ts) (rest_taken ts c.args.drive.now c.bring_in.new.drive b.rest) c.in-Ok.opened (c.in-Ok.ensures.brings ts)
    c.in-Ok-Some.asking.items (with_taken ts c.settle.new.drive) ((rw c.in-Ok-Some.field-0-is at c.in-Ok-Some.ensures.waits) ts) c.serve.new.files.items c.serve.new.desks.items (cache c.serve.new.cache)
    c.serve.ensures.sources c.serve.ensures.trades c.serve.ensures.agree

pub returns-clause-keeps : goal.returns-clause-keeps
returns-clause-keeps g c ts =
    let state = g.X.SplitOpener.state c.args.context.now in
    let polls = g.X.SplitOpener.polls in
    let refuses = g.X.SplitOpener.refuses c.args.context.now in
    let admits = g.X.SplitOpener.admits c.args.context.now in
    let source = g.S.SegmentSource.state in
    let cache = g.C.KeyedSegmentCache.cache in
    let split = g.W.SplitWork.split in
    let comes = g.W.SplitWork.comes in
    let items = g.W.SplitWork.items in
    let b = c.bring_in.ensures in
    keeps_served state polls refuses admits source split comes items c.args.workers c.args.files.now.items c.bring_in.new.files.items c.args.desks.now.items (cache c.args.cache.now) (with_taken ts c.args.drive.now) (with_taken ts c.bring_in.new.drive)
    c.requires.agree b.moves b.sources (b.polls ts) (rest_taken ts c.args.drive.now c.bring_in.new.drive b.rest) c.in-Ok.opened (c.in-Ok.ensures.brings ts)
    c.in-Ok-Some.asking.items (with_taken ts c.settle.new.drive) ((rw c.in-Ok-Some.field-0-is at c.in-Ok-Some.ensures.waits) ts) c.serve.new.files.items c.serve.new.desks.items (cache c.serve.new.cache)
    c.serve.ensures.sources c.serve.ensures.trades c.serve.ensures.agree

pub returns-in-Err-clause-stops : goal.returns-in-Err-clause-stops
returns-in-Err-clause-stops g c ts =
    let state = g.X.SplitOpener.state c.args.context.now in
    let polls = g.X.SplitOpener.polls in
    let refuses = g.X.SplitOpener.refuses c.args.context.now in
    let admits = g.X.SplitOpener.admits c.args.context.now in
    let source = g.S.SegmentSource.state in
    let cache = g.C.KeyedSegmentCache.cache in
    let split = g.W.SplitWork.split in
    let comes = g.W.SplitWork.comes in
    let items = g.W.SplitWork.items in
    stops_short state polls refuses admits source split comes items c.args.files.now.items c.bring_in.new.files.items (cache c.args.cache.now) (with_taken ts c.args.drive.now) (with_taken ts c.bring_in.new.drive)

pub returns-in-Err-serve-clause-stops : goal.returns-in-Err-serve-clause-stops
returns-in-Err-serve-clause-stops g c ts =
    let state = g.X.SplitOpener.state c.args.context.now in
    let polls = g.X.SplitOpener.polls in
    let refuses = g.X.SplitOpener.refuses c.args.context.now in
    let admits = g.X.SplitOpener.admits c.args.context.now in
    let source = g.S.SegmentSource.state in
    let cache = g.C.KeyedSegmentCache.cache in
    let split = g.W.SplitWork.split in
    let comes = g.W.SplitWork.comes in
    let items = g.W.SplitWork.items in
    let d2 : Drive g.row.W.Denot g.row.W-Rows.Denot g.row.F.Denot = (with_taken ts c.settle.new.drive) in
    stops_short state polls refuses admits source split comes items c.args.files.now.items c.serve.new.files.items (cache c.args.cache.now) (with_taken ts c.args.drive.now)
    (record d2 { active = record d2.active { slots = c.serve.new.slots }; report = c.serve.new.report })

pub returns-in-Err-settle-clause-stops : goal.returns-in-Err-settle-clause-stops
returns-in-Err-settle-clause-stops g c ts =
    let state = g.X.SplitOpener.state c.args.context.now in
    let polls = g.X.SplitOpener.polls in
    let refuses = g.X.SplitOpener.refuses c.args.context.now in
    let admits = g.X.SplitOpener.admits c.args.context.now in
    let source = g.S.SegmentSource.state in
    let cache = g.C.KeyedSegmentCache.cache in
    let split = g.W.SplitWork.split in
    let comes = g.W.SplitWork.comes in
    let items = g.W.SplitWork.items in
    let b = c.bring_in.ensures in
    comes_not state polls refuses admits source split comes items c.args.workers c.args.files.now.items c.bring_in.new.files.items c.args.desks.now.items (cache c.args.cache.now) (with_taken ts c.args.drive.now) (with_taken ts c.bring_in.new.drive)
    c.requires.agree b.moves b.sources (b.polls ts) (rest_taken ts c.args.drive.now c.bring_in.new.drive b.rest) c.in-Ok.opened (c.in-Ok.ensures.brings ts)
    (with_taken ts c.settle.new.drive) c.in-Err-settle.fault (c.in-Err-settle.ensures.stops ts)

pub returns-in-Ok-None-clause-comes : goal.returns-in-Ok-None-clause-comes
returns-in-Ok-None-clause-comes g c ts =
    let state = g.X.SplitOpener.state c.args.context.now in
    let polls = g.X.SplitOpener.polls in
    let refuses = g.X.SplitOpener.refuses c.args.context.now in
    let admits = g.X.SplitOpener.admits c.args.context.now in
    let source = g.S.SegmentSource.state in
    let cache = g.C.KeyedSegmentCache.cache in
    let split = g.W.SplitWork.split in
    let comes = g.W.SplitWork.comes in
    let items = g.W.SplitWork.items in
    let b = c.bring_in.ensures in
    comes_done state polls refuses admits source split comes items c.args.workers c.args.files.now.items c.bring_in.new.files.items c.args.desks.now.items (cache c.args.cache.now) (with_taken ts c.args.drive.now) (with_taken ts c.bring_in.new.drive)
    c.requires.agree b.moves b.sources (b.polls ts) (rest_taken ts c.args.drive.now c.bring_in.new.drive b.rest) c.in-Ok.opened (c.in-Ok.ensures.brings ts)
    (with_taken ts c.settle.new.drive) c.requires.links c.settle.ensures.report (rows_taken items ts c.bring_in.new.drive.chunks.items c.settle.new.drive.chunks.items c.in-Ok-None.ensures.some) (c.in-Ok-None.ensures.all c.in-Ok-None.field-0-is ts)

pub returns-then-opened-clause-comes : goal.returns-then-opened-clause-comes
returns-then-opened-clause-comes g c ts =
    let state = g.X.SplitOpener.state c.args.context.now in
    let polls = g.X.SplitOpener.polls in
    let refuses = g.X.SplitOpener.refuses c.args.context.now in
    let admits = g.X.SplitOpener.admits c.args.context.now in
    let source = g.S.SegmentSource.state in
    let cache = g.C.KeyedSegmentCache.cache in
    let split = g.W.SplitWork.split in
    let comes = g.W.SplitWork.comes in
    let items = g.W.SplitWork.items in
    let b = c.bring_in.ensures in
    let d2 : Drive g.row.W.Denot g.row.W-Rows.Denot g.row.F.Denot = (with_taken ts c.settle.new.drive) in
    comes_opened state polls refuses admits source split comes items c.args.workers c.args.files.now.items c.bring_in.new.files.items c.args.desks.now.items (cache c.args.cache.now) (with_taken ts c.args.drive.now) (with_taken ts c.bring_in.new.drive)
    c.requires.agree b.moves b.sources (b.polls ts) (rest_taken ts c.args.drive.now c.bring_in.new.drive b.rest) c.in-Ok.opened (c.in-Ok.ensures.brings ts)
    c.in-Ok-Some.asking.items (with_taken ts c.settle.new.drive) ((rw c.in-Ok-Some.field-0-is at c.in-Ok-Some.ensures.waits) ts) c.serve.new.files.items c.serve.new.desks.items (cache c.serve.new.cache)
    c.serve.ensures.sources c.serve.ensures.trades c.serve.ensures.agree
    (record d2 { active = record d2.active { slots = c.serve.new.slots }; report = c.serve.new.report })
    (record { turns = refl; free = refl; phases = refl; chunks = refl; first = refl; tally = refl; left = refl; ordered = refl; budget = refl })
    (rw c.in-Ok-Some.field-0-is at c.in-Ok-Some.ensures.follows) (rows_taken items ts c.bring_in.new.drive.chunks.items c.settle.new.drive.chunks.items c.in-Ok-Some.ensures.some) c.in-Ok-serve.ensures.serves c.if-opened.true

pub returns-clause-comes : goal.returns-clause-comes
returns-clause-comes g c ts =
    let state = g.X.SplitOpener.state c.args.context.now in
    let polls = g.X.SplitOpener.polls in
    let refuses = g.X.SplitOpener.refuses c.args.context.now in
    let admits = g.X.SplitOpener.admits c.args.context.now in
    let source = g.S.SegmentSource.state in
    let cache = g.C.KeyedSegmentCache.cache in
    let split = g.W.SplitWork.split in
    let comes = g.W.SplitWork.comes in
    let items = g.W.SplitWork.items in
    let b = c.bring_in.ensures in
    let d2 : Drive g.row.W.Denot g.row.W-Rows.Denot g.row.F.Denot = (with_taken ts c.settle.new.drive) in
    comes_more state polls refuses admits source split comes items c.args.workers c.args.files.now.items c.bring_in.new.files.items c.args.desks.now.items (cache c.args.cache.now) (with_taken ts c.args.drive.now) (with_taken ts c.bring_in.new.drive)
    c.requires.agree b.moves b.sources (b.polls ts) (rest_taken ts c.args.drive.now c.bring_in.new.drive b.rest) c.in-Ok.opened (c.in-Ok.ensures.brings ts)
    c.in-Ok-Some.asking.items (with_taken ts c.settle.new.drive) ((rw c.in-Ok-Some.field-0-is at c.in-Ok-Some.ensures.waits) ts) c.serve.new.files.items c.serve.new.desks.items (cache c.serve.new.cache)
    c.serve.ensures.sources c.serve.ensures.trades c.serve.ensures.agree
    (record d2 { active = record d2.active { slots = c.serve.new.slots }; report = c.serve.new.report })
    (record { turns = refl; free = refl; phases = refl; chunks = refl; first = refl; tally = refl; left = refl; ordered = refl; budget = refl })
    (rw c.in-Ok-Some.field-0-is at c.in-Ok-Some.ensures.follows) (rows_taken items ts c.bring_in.new.drive.chunks.items c.settle.new.drive.chunks.items c.in-Ok-Some.ensures.some) c.in-Ok-serve.ensures.serves c.if-opened.false

pub settle-requires-clause-stands : goal.settle-requires-clause-stands
settle-requires-clause-stands g c κs lives =
    (length c.args.files.now.items, stands_back [] (length c.args.files.now.items) c.bring_in.new.drive (c.in-Ok.ensures.brings []).stands)

pub serve-requires-clause-agree : goal.serve-requires-clause-agree
serve-requires-clause-agree g c κs lives =
    let state = g.X.SplitOpener.state c.args.context.now in
    let b = c.bring_in.ensures in
    agree_kept state g.X.SplitOpener.polls g.S.SegmentSource.state c.args.files.now.items c.bring_in.new.files.items c.args.desks.now.items b.moves.len b.sources c.requires.agree

pub serve-requires-clause-seated : goal.serve-requires-clause-seated
serve-requires-clause-seated g c κs lives =
    let k = c.in-Ok.ensures.brings [] in
    let s = (rw c.in-Ok-Some.field-0-is at c.in-Ok-Some.ensures.waits) [] in
    let stands = s.stands (length c.args.files.now.items) k.stands in
    (c.settle.new.drive.active.free.items, stands.ready.seated)

pub serve-requires-clause-within : goal.serve-requires-clause-within
serve-requires-clause-within g c κs lives =
    let k = c.in-Ok.ensures.brings [] in
    let s = (rw c.in-Ok-Some.field-0-is at c.in-Ok-Some.ensures.waits) [] in
    let stands = s.stands (length c.args.files.now.items) k.stands in
    subst (λ n. FilesWithin n c.settle.new.drive.active.slots.items) (sym c.bring_in.ensures.moves.len) stands.ready.within

pub serve-requires-clause-once : goal.serve-requires-clause-once
serve-requires-clause-once g c κs lives =
    let s = (rw c.in-Ok-Some.field-0-is at c.in-Ok-Some.ensures.waits) [] in
    s.once

pub serve-requires-clause-links : goal.serve-requires-clause-links
serve-requires-clause-links g c κs lives =
    let k = c.in-Ok.ensures.brings [] in
    let s = (rw c.in-Ok-Some.field-0-is at c.in-Ok-Some.ensures.waits) [] in
    s.links c.args.desks.now.items (k.links c.args.desks.now.items c.requires.links)

pub serve-requires-clause-asks : goal.serve-requires-clause-asks
serve-requires-clause-asks g c κs lives =
    let s = (rw c.in-Ok-Some.field-0-is at c.in-Ok-Some.ensures.waits) [] in
    s.asks
