use Rattle.std.proofs.Common.{◌≡◌, List, ℕ, map}
use Rattle.scan_values.specs.Val.{Val}
use Rattle.scan_values.specs.Values.{val_of}
use Rattle.scan_fetch.specs.Fetches.{Point, point}
use Rattle.scan_seek.proofs.Whole.{if_ok, if_err, ok_on, nothing_read, start_agree, start_apart, start_leaves, start_gives, start_fails, moves_closed, counts_closed, values_closed, fails_closed}
use Rattle.scan_seek.proofs.reading.read_by.Goals as goal

pub returns-in_err-source_id-clause-moves : goal.returns-in_err-source_id-clause-moves
returns-in_err-source_id-clause-moves g c = nothing_read c.args.plan.now.value c.args.rows.now c.args.name.now (g.S.SegmentSource.state c.args.source.now) (g.C.KeyedSegmentCache.cache c.args.cache.now) c.requires.idle

pub values_at-values-requires-clause-agree : goal.values_at-values-requires-clause-agree
values_at-values-requires-clause-agree g c = start_agree c.args.name.now c.in_ok-source_id.source_id (g.S.SegmentSource.state c.args.source.now) (g.C.KeyedSegmentCache.cache c.args.cache.now) c.requires.idle
    c.new-desk.result c.new-inbox.result c.in_ok-source_id.ensures c.new-desk.ensures c.new-inbox.ensures

pub values_at-values-requires-clause-apart : goal.values_at-values-requires-clause-apart
values_at-values-requires-clause-apart g c = start_apart c.args.name.now c.in_ok-source_id.source_id (g.S.SegmentSource.state c.args.source.now) (g.C.KeyedSegmentCache.cache c.args.cache.now) c.requires.idle
    c.new-desk.result c.new-inbox.result c.in_ok-source_id.ensures c.new-desk.ensures c.new-inbox.ensures

pub returns-clause-moves : goal.returns-clause-moves
returns-clause-moves g c =
    let state = g.S.SegmentSource.state in
    let cache = g.C.KeyedSegmentCache.cache in
    let name = c.args.name.now in
    let n = c.in_ok-source_id.source_id in
    let s = state c.args.source.now in
    let x = cache c.args.cache.now in
    let pl = c.args.plan.now.value in
    let rows = c.args.rows.now in
    let q : Point = point (state c.values_at-values.new.source) (cache c.values_at-values.new.cache) c.values_at-values.new.desk c.values_at-values.new.inbox in
    moves_closed pl rows name s x c.requires.idle q (state c.close.new.source) c.close.ensures.source c.close.ensures.idle
    (start_leaves name n s x c.requires.idle c.new-desk.result c.new-inbox.result c.in_ok-source_id.ensures c.new-desk.ensures c.new-inbox.ensures pl rows q c.values_at-values.ensures.leaves)

pub returns-clause-counts : goal.returns-clause-counts
returns-clause-counts g c =
    let state = g.S.SegmentSource.state in
    let cache = g.C.KeyedSegmentCache.cache in
    let name = c.args.name.now in
    let n = c.in_ok-source_id.source_id in
    let s = state c.args.source.now in
    let x = cache c.args.cache.now in
    let pl = c.args.plan.now.value in
    let rows = c.args.rows.now in
    let q : Point = point (state c.values_at-values.new.source) (cache c.values_at-values.new.cache) c.values_at-values.new.desk c.values_at-values.new.inbox in
    ok_on c.values_at-values.result (λ vs h. counts_closed pl rows name s x c.requires.idle q (state c.close.new.source) (map val_of vs.items) c.close.ensures.source c.close.ensures.idle
    (start_gives name n s x c.requires.idle c.new-desk.result c.new-inbox.result c.in_ok-source_id.ensures c.new-desk.ensures c.new-inbox.ensures pl rows q (map val_of vs.items) h)) c.values_at-values.ensures.gives

pub returns-clause-values : goal.returns-clause-values
returns-clause-values g c =
    let state = g.S.SegmentSource.state in
    let cache = g.C.KeyedSegmentCache.cache in
    let name = c.args.name.now in
    let n = c.in_ok-source_id.source_id in
    let s = state c.args.source.now in
    let x = cache c.args.cache.now in
    let pl = c.args.plan.now.value in
    let rows = c.args.rows.now in
    let q : Point = point (state c.values_at-values.new.source) (cache c.values_at-values.new.cache) c.values_at-values.new.desk c.values_at-values.new.inbox in
    if_ok c.values_at-values.result (λ vs h. values_closed pl rows name s x c.requires.idle q (map val_of vs.items)
    (start_gives name n s x c.requires.idle c.new-desk.result c.new-inbox.result c.in_ok-source_id.ensures c.new-desk.ensures c.new-inbox.ensures pl rows q (map val_of vs.items) h)) c.values_at-values.ensures.gives

pub returns-clause-fault : goal.returns-clause-fault
returns-clause-fault g c =
    let state = g.S.SegmentSource.state in
    let cache = g.C.KeyedSegmentCache.cache in
    let name = c.args.name.now in
    let n = c.in_ok-source_id.source_id in
    let s = state c.args.source.now in
    let x = cache c.args.cache.now in
    let pl = c.args.plan.now.value in
    let rows = c.args.rows.now in
    let q : Point = point (state c.values_at-values.new.source) (cache c.values_at-values.new.cache) c.values_at-values.new.desk c.values_at-values.new.inbox in
    if_err c.values_at-values.result (λ e h. fails_closed pl rows name s x c.requires.idle q (state c.close.new.source) e c.close.ensures.source
    (start_fails name n s x c.requires.idle c.new-desk.result c.new-inbox.result c.in_ok-source_id.ensures c.new-desk.ensures c.new-inbox.ensures pl rows q e h)) c.values_at-values.ensures.fault
