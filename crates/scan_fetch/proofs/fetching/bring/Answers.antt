use Rattle.std.proofs.Common.{◌≡◌, [], List, ℕ, subst}
use Rattle.std.specs.Prelude.{OnOk, IfErr}
use Rattle.scan_fetch.specs.Fetches.{Point, point, MayAsk, Takes, Came, Brought, Misses}
use Rattle.scan_fetch.specs.declared.fetching.Miss.{Miss}
use Rattle.scan_fetch.proofs.Looping.{brings_then, brought_then, missed_then, wants_brings}
use Rattle.scan_fetch.proofs.Wanting.{came_on_ok, missed_on_err}
use Rattle.scan_fetch.proofs.fetching.bring.Goals as goal

pub take_all-requires-clause-agree : goal.take_all-requires-clause-agree
take_all-requires-clause-agree g c = c.want_all.ensures.wants.agree

pub take_all-requires-clause-apart : goal.take_all-requires-clause-apart
take_all-requires-clause-apart g c = c.want_all.ensures.wants.apart

pub take_all-requires-clause-met : goal.take_all-requires-clause-met
take_all-requires-clause-met g c = c.in-Ok.ensures.meets.met

pub returns-in-Err-clause-brings : goal.returns-in-Err-clause-brings
returns-in-Err-clause-brings g c =
    let state = g.S.SegmentSource.state in
    let cache = g.C.KeyedSegmentCache.cache in
    wants_brings c.args.key.now.source_id c.args.ids.now (point (state c.args.source.now) (cache c.args.cache.now) c.args.desk.now c.args.inbox.now)
    (point (state c.want_all.new.source) (cache c.want_all.new.cache) c.want_all.new.desk c.want_all.new.inbox) c.want_all.ensures.wants

pub returns-in-Ok-clause-brings : goal.returns-in-Ok-clause-brings
returns-in-Ok-clause-brings g c =
    let state = g.S.SegmentSource.state in
    let cache = g.C.KeyedSegmentCache.cache in
    let name = c.args.key.now.source_id in
    let p : Point = point (state c.args.source.now) (cache c.args.cache.now) c.args.desk.now c.args.inbox.now in
    let q : Point = point (state c.want_all.new.source) (cache c.want_all.new.cache) c.want_all.new.desk c.want_all.new.inbox in
    let r : Point = point (state c.take_all.new.source) (cache c.take_all.new.cache) c.take_all.new.desk c.take_all.new.inbox in
    let t : Takes name q r = subst (λ (n : List ℕ). Takes n q r) c.want_all.ensures.name c.take_all.ensures.takes in
    brings_then name c.args.ids.now p q r c.want_all.ensures.wants c.in-Ok.ensures.meets t

pub returns-in-Ok-clause-brought : goal.returns-in-Ok-clause-brought
returns-in-Ok-clause-brought g c =
    let state = g.S.SegmentSource.state in
    let cache = g.C.KeyedSegmentCache.cache in
    let name = c.args.key.now.source_id in
    let ids = c.args.ids.now in
    let p : Point = point (state c.args.source.now) (cache c.args.cache.now) c.args.desk.now c.args.inbox.now in
    let q : Point = point (state c.want_all.new.source) (cache c.want_all.new.cache) c.want_all.new.desk c.want_all.new.inbox in
    let r : Point = point (state c.take_all.new.source) (cache c.take_all.new.cache) c.take_all.new.desk c.take_all.new.inbox in
    let came : OnOk c.take_all.result (Came name ids q r) = subst (λ (n : List ℕ). OnOk c.take_all.result (Came n ids q r)) c.want_all.ensures.name c.take_all.ensures.came in
    came_on_ok c.take_all.result (brought_then name ids p q r c.want_all.ensures.wants c.in-Ok.ensures.meets) came

pub returns-in-Ok-clause-misses : goal.returns-in-Ok-clause-misses
returns-in-Ok-clause-misses g c =
    let state = g.S.SegmentSource.state in
    let cache = g.C.KeyedSegmentCache.cache in
    let name = c.args.key.now.source_id in
    let ids = c.args.ids.now in
    let p : Point = point (state c.args.source.now) (cache c.args.cache.now) c.args.desk.now c.args.inbox.now in
    let q : Point = point (state c.want_all.new.source) (cache c.want_all.new.cache) c.want_all.new.desk c.want_all.new.inbox in
    let r : Point = point (state c.take_all.new.source) (cache c.take_all.new.cache) c.take_all.new.desk c.take_all.new.inbox in
    let m : IfErr c.take_all.result (Misses (MayAsk name []) name q r) = subst (λ (n : List ℕ). IfErr c.take_all.result (Misses (MayAsk n []) n q r)) c.want_all.ensures.name c.take_all.ensures.misses in
    missed_on_err c.take_all.result (missed_then name ids p q r c.want_all.ensures.wants c.in-Ok.ensures.meets) m
