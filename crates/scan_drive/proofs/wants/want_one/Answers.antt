use Rattle.std.proofs.Common.{[], ◌∷◌}
use Rattle.scan_drive.specs.Links.{Among}
use Rattle.scan_drive.proofs.Asking.{moves_stay}
use Rattle.scan_drive.proofs.Balancing.{report_want}
use Rattle.scan_drive.proofs.Serving.{wanted_loses, wanted_moves}
use Rattle.scan_drive.proofs.wants.want_one.Goals as goal

pub returns-in-Shared-clause-balance : goal.returns-in-Shared-clause-balance
returns-in-Shared-clause-balance g c =
    let state = g.S.SegmentSource.state in
    let cache = g.C.KeyedSegmentCache.cache in
    report_want c.args.key.now.source_id (state c.args.source.now) (state c.want.new.source) (cache c.args.cache.now) (cache c.want.new.cache) c.in_ok-wanted.wanted c.args.report.now c.count.new.self c.count.ensures c.in_ok-wanted.ensures.balance

pub returns-in-Asked-clause-balance : goal.returns-in-Asked-clause-balance
returns-in-Asked-clause-balance g c =
    let state = g.S.SegmentSource.state in
    let cache = g.C.KeyedSegmentCache.cache in
    report_want c.args.key.now.source_id (state c.args.source.now) (state c.want.new.source) (cache c.args.cache.now) (cache c.want.new.cache) c.in_ok-wanted.wanted c.args.report.now c.count.new.self c.count.ensures c.in_ok-wanted.ensures.balance

pub returns-in_ok-hand_one-in-Hit-clause-balance : goal.returns-in_ok-hand_one-in-Hit-clause-balance
returns-in_ok-hand_one-in-Hit-clause-balance g c =
    let state = g.S.SegmentSource.state in
    let cache = g.C.KeyedSegmentCache.cache in
    report_want c.args.key.now.source_id (state c.args.source.now) (state c.want.new.source) (cache c.args.cache.now) (cache c.want.new.cache) c.in_ok-wanted.wanted c.args.report.now c.count.new.self c.count.ensures c.in_ok-wanted.ensures.balance

pub returns-in-Shared-clause-loses : goal.returns-in-Shared-clause-loses
returns-in-Shared-clause-loses g c =
    let state = g.S.SegmentSource.state in
    let cache = g.C.KeyedSegmentCache.cache in
    wanted_loses c.args.key.now c.args.place (cache c.args.cache.now) (cache c.want.new.cache) (state c.args.source.now) (state c.want.new.source) c.args.desk.now c.want.new.self c.in_ok-wanted.wanted c.in_ok-wanted.ensures.ok

pub returns-in-Asked-clause-loses : goal.returns-in-Asked-clause-loses
returns-in-Asked-clause-loses g c =
    let state = g.S.SegmentSource.state in
    let cache = g.C.KeyedSegmentCache.cache in
    wanted_loses c.args.key.now c.args.place (cache c.args.cache.now) (cache c.want.new.cache) (state c.args.source.now) (state c.want.new.source) c.args.desk.now c.want.new.self c.in_ok-wanted.wanted c.in_ok-wanted.ensures.ok

pub returns-in_ok-hand_one-in-Hit-clause-loses : goal.returns-in_ok-hand_one-in-Hit-clause-loses
returns-in_ok-hand_one-in-Hit-clause-loses g c =
    let state = g.S.SegmentSource.state in
    let cache = g.C.KeyedSegmentCache.cache in
    wanted_loses c.args.key.now c.args.place (cache c.args.cache.now) (cache c.want.new.cache) (state c.args.source.now) (state c.want.new.source) c.args.desk.now c.want.new.self c.in_ok-wanted.wanted c.in_ok-wanted.ensures.ok

pub returns-in_err-wanted-clause-source : goal.returns-in_err-wanted-clause-source
returns-in_err-wanted-clause-source g c =
    let state = g.S.SegmentSource.state in
    moves_stay (Among (c.args.key.now.segment ∷ [])) (state c.args.source.now) (state c.want.new.source) c.in_err-wanted.ensures.err.source

pub returns-in-Shared-clause-source : goal.returns-in-Shared-clause-source
returns-in-Shared-clause-source g c =
    let state = g.S.SegmentSource.state in
    let cache = g.C.KeyedSegmentCache.cache in
    wanted_moves c.args.key.now c.args.place (cache c.args.cache.now) (cache c.want.new.cache) (state c.args.source.now) (state c.want.new.source) c.args.desk.now c.want.new.self c.in_ok-wanted.wanted c.in_ok-wanted.ensures.ok
