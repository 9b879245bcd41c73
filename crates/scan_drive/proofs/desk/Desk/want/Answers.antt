use Rattle.std.specs.Prelude.{refl}
use Rattle.scan_drive.specs.declared.cached.Wanted.TheVariants as wanted
use Rattle.scan_drive.proofs.Balancing.{want_ledger, want_balance, miss_wanted, short_ledger, unwanted_ledger}
use Rattle.scan_drive.proofs.Wanting.{looks_missed}
use Rattle.scan_drive.proofs.desk.Desk.want.Goals as goal

pub returns-in-Hit-clause-ledger : goal.returns-in-Hit-clause-ledger
returns-in-Hit-clause-ledger g c =
    let state = g.S.SegmentSource.state in
    let cache = g.C.KeyedSegmentCache.cache in
    want_ledger c.args.key.now c.args.place (cache c.args.cache.now) (cache c.look_up.new.cache) (state c.args.source.now) (state c.args.source.now) c.args.self.now c.args.self.now c.requires.agree (wanted.Hit c.in-Hit.bytes)
    (record { got = c.in-Hit.ensures; source = refl; desk = refl })

pub returns-in-Hit-clause-balance : goal.returns-in-Hit-clause-balance
returns-in-Hit-clause-balance g c =
    let state = g.S.SegmentSource.state in
    let cache = g.C.KeyedSegmentCache.cache in
    want_balance c.args.key.now c.args.place (cache c.args.cache.now) (cache c.look_up.new.cache) (state c.args.source.now) (state c.args.source.now) c.args.self.now c.args.self.now c.requires.agree (wanted.Hit c.in-Hit.bytes)
    (record { got = c.in-Hit.ensures; source = refl; desk = refl })

pub returns-in-NoMemory-clause-ledger : goal.returns-in-NoMemory-clause-ledger
returns-in-NoMemory-clause-ledger g c =
    let state = g.S.SegmentSource.state in
    let cache = g.C.KeyedSegmentCache.cache in
    short_ledger c.args.key.now.source_id (state c.args.source.now) (cache c.args.cache.now) (cache c.look_up.new.cache) c.in-NoMemory.ensures

pub returns-in-Ok-clause-ledger : goal.returns-in-Ok-clause-ledger
returns-in-Ok-clause-ledger g c =
    let state = g.S.SegmentSource.state in
    let cache = g.C.KeyedSegmentCache.cache in
    let key = c.args.key.now in
    let before = cache c.args.cache.now in
    let after = cache c.look_up.new.cache in
    let s = state c.args.source.now in
    let t = state c.ask.new.source in
    let old = c.args.self.now in
    let new = c.ask.new.self in
    want_ledger key c.args.place before after s t old new c.requires.agree c.missed.result
    (miss_wanted key c.args.place before after s t old new c.requires.agree c.is_live-shared.result c.missed.result c.is_live-shared.ensures c.missed.ensures (record { looked = c.in-Missed.ensures; source = c.in-Ok.ensures.asked; desk = c.in-Ok.ensures.moves }))

pub returns-in-Ok-clause-balance : goal.returns-in-Ok-clause-balance
returns-in-Ok-clause-balance g c =
    let state = g.S.SegmentSource.state in
    let cache = g.C.KeyedSegmentCache.cache in
    let key = c.args.key.now in
    let before = cache c.args.cache.now in
    let after = cache c.look_up.new.cache in
    let s = state c.args.source.now in
    let t = state c.ask.new.source in
    let old = c.args.self.now in
    let new = c.ask.new.self in
    want_balance key c.args.place before after s t old new c.requires.agree c.missed.result
    (miss_wanted key c.args.place before after s t old new c.requires.agree c.is_live-shared.result c.missed.result c.is_live-shared.ensures c.missed.ensures (record { looked = c.in-Missed.ensures; source = c.in-Ok.ensures.asked; desk = c.in-Ok.ensures.moves }))

pub returns-in-Err-clause-err : goal.returns-in-Err-clause-err
returns-in-Err-clause-err g c =
    let cache = g.C.KeyedSegmentCache.cache in
    record {
      cache = looks_missed c.args.key.now (cache c.args.cache.now) (cache c.look_up.new.cache) c.in-Missed.ensures;
      source = c.in-Err.ensures.err.1;
      desk = c.in-Err.ensures.err.0;
    }

pub returns-in-Err-clause-ledger : goal.returns-in-Err-clause-ledger
returns-in-Err-clause-ledger g c =
    let state = g.S.SegmentSource.state in
    let cache = g.C.KeyedSegmentCache.cache in
    unwanted_ledger c.args.key.now c.args.place (cache c.args.cache.now) (cache c.look_up.new.cache) (state c.args.source.now) (state c.ask.new.source) c.args.self.now c.ask.new.self c.requires.agree (returns-in-Err-clause-err g c)
