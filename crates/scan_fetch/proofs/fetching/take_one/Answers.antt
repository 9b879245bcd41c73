use Rattle.std.proofs.Common.{◌≡◌, [], ◌∷◌, ◌∙◌, refl, inl, inr, subst, sym}
use Rattle.std.specs.FinMap as map
use Rattle.scan_drive.specs.declared.desk.Reply.TheVariants as reply
use Rattle.scan_fetch.specs.Fetches.{Point, point, MayAsk, Takes, Came}
use Rattle.scan_fetch.proofs.Looping.{waits_first, waits_on, waited_takes, waited_came, waited_misses}
use Rattle.scan_fetch.proofs.Wanting.{same_takes, came_takes, came_came, pending_goes, was_live, failed_over, counts_came, counts_pending, live, came_cases, came_on_ok}
use Rattle.scan_fetch.proofs.fetching.take_one.Goals as goal

pub wait-init : goal.wait-init
wait-init g c =
    let state = g.S.SegmentSource.state in
    let cache = g.C.KeyedSegmentCache.cache in
    record {
      live = c.requires.live;
      waits = waits_first c.args.key.now.source_id (point (state c.args.source.now) (cache c.args.cache.now) c.args.desk.now c.args.inbox.now) c.requires.agree c.requires.apart;
    }

pub collect-requires-clause-agree : goal.collect-requires-clause-agree
collect-requires-clause-agree g c = c.wait.invariant.waits.agree

pub wait-preserved : goal.wait-preserved
wait-preserved g c =
    let state = g.S.SegmentSource.state in
    let cache = g.C.KeyedSegmentCache.cache in
    let key = c.args.key.now in
    let inv = c.wait.invariant in
    let s = state c.wait.source in
    let t = state c.collect.new.source in
    let x = cache c.wait.cache in
    let y = cache c.collect.new.cache in
    let old = c.wait.desk in
    let new = c.collect.new.self in
    let a = c.wait.inbox in
    let e = c.in-Pending.ensures in
    let p : Point = point (state c.args.source.now) (cache c.args.cache.now) c.args.desk.now c.args.inbox.now in
    let on = live key s t x y old new a a c.collect.ensures.source c.collect.ensures.ledger inv.waits.agree inv.live c.collect.ensures.agree inv.waits.apart in
    record {
      live = subst (λ d. Rattle.std.specs.Prelude.is_some (Rattle.scan_drive.specs.Desks.waiters_at d key.segment) ≡ Rattle.std.proofs.Common.true) (sym e.replies.0) inv.live;
      waits = waits_on key.source_id p (point s x old a) (point t y new a) inv.waits
          (same_takes key s t x y old new a a c.collect.ensures.source c.collect.ensures.ledger inv.waits.agree inv.live c.collect.ensures.agree inv.waits.apart reply.Pending e.replies e.puts refl refl)
          (pending_goes key s t x y old new a a c.collect.ensures.source c.collect.ensures.ledger on e.replies.1 e.replies.0 refl e.puts inv.waits.agree c.collect.ensures.agree (counts_pending key.source_id s t x y e.balance))
          (was_live key s t x y old new a a c.collect.ensures.source c.collect.ensures.ledger on);
    }

pub returns-in-NoMemory-clause-takes : goal.returns-in-NoMemory-clause-takes
returns-in-NoMemory-clause-takes g c =
    let state = g.S.SegmentSource.state in
    let cache = g.C.KeyedSegmentCache.cache in
    let key = c.args.key.now in
    let inv = c.wait.invariant in
    let s = state c.wait.source in
    let t = state c.collect.new.source in
    let x = cache c.wait.cache in
    let y = cache c.collect.new.cache in
    let a = c.wait.inbox in
    let e = c.in-NoMemory.ensures in
    waited_takes key.source_id (point (state c.args.source.now) (cache c.args.cache.now) c.args.desk.now c.args.inbox.now) (point s x c.wait.desk a) (point t y c.collect.new.self a) inv.waits
    (same_takes key s t x y c.wait.desk c.collect.new.self a a c.collect.ensures.source c.collect.ensures.ledger inv.waits.agree inv.live c.collect.ensures.agree inv.waits.apart reply.NoMemory e.replies e.puts refl refl)

pub returns-in-Failed-clause-takes : goal.returns-in-Failed-clause-takes
returns-in-Failed-clause-takes g c =
    let state = g.S.SegmentSource.state in
    let cache = g.C.KeyedSegmentCache.cache in
    let key = c.args.key.now in
    let inv = c.wait.invariant in
    let s = state c.wait.source in
    let t = state c.collect.new.source in
    let x = cache c.wait.cache in
    let y = cache c.collect.new.cache in
    let a = c.wait.inbox in
    let e = c.in-Failed.ensures in
    waited_takes key.source_id (point (state c.args.source.now) (cache c.args.cache.now) c.args.desk.now c.args.inbox.now) (point s x c.wait.desk a) (point t y c.collect.new.self a) inv.waits
    (same_takes key s t x y c.wait.desk c.collect.new.self a a c.collect.ensures.source c.collect.ensures.ledger inv.waits.agree inv.live c.collect.ensures.agree inv.waits.apart (reply.Failed c.in-Failed._places) e.replies e.puts refl refl)

pub returns-in-Failed-clause-misses : goal.returns-in-Failed-clause-misses
returns-in-Failed-clause-misses g c =
    let state = g.S.SegmentSource.state in
    let cache = g.C.KeyedSegmentCache.cache in
    let key = c.args.key.now in
    let inv = c.wait.invariant in
    let s = state c.wait.source in
    let t = state c.collect.new.source in
    let x = cache c.wait.cache in
    let y = cache c.collect.new.cache in
    let old = c.wait.desk in
    let new = c.collect.new.self in
    let a = c.wait.inbox in
    let e = c.in-Failed.ensures in
    let on = live key s t x y old new a a c.collect.ensures.source c.collect.ensures.ledger inv.waits.agree inv.live c.collect.ensures.agree inv.waits.apart in
    waited_misses key.source_id (point (state c.args.source.now) (cache c.args.cache.now) c.args.desk.now c.args.inbox.now) (point s x old a) (point t y new a) inv.waits
    (Rattle.scan_fetch.specs.declared.fetching.Miss.TheVariants.Source key.segment)
    (failed_over key s t x y old new a a c.collect.ensures.source c.collect.ensures.ledger on c.in-Failed._places e.replies)

pub arrive-requires : goal.arrive-requires
arrive-requires g c =
    let state = g.S.SegmentSource.state in
    let inv = c.wait.invariant in
    inv.waits.apart c.args.key.now.segment (inv.waits.agree c.args.key.now.segment ∙ inv.live)

pub returns-in-Came-clause-takes : goal.returns-in-Came-clause-takes
returns-in-Came-clause-takes g c =
    let state = g.S.SegmentSource.state in
    let cache = g.C.KeyedSegmentCache.cache in
    let key = c.args.key.now in
    let inv = c.wait.invariant in
    let s = state c.wait.source in
    let t = state c.collect.new.source in
    let x = cache c.wait.cache in
    let y = cache c.collect.new.cache in
    let old = c.wait.desk in
    let new = c.collect.new.self in
    let a = c.wait.inbox in
    let b = c.arrive.new.inbox in
    let e = c.in-Came.ensures in
    waited_takes key.source_id (point (state c.args.source.now) (cache c.args.cache.now) c.args.desk.now c.args.inbox.now) (point s x old a) (point t y new b) inv.waits
    (came_takes key s t x y old new a b c.collect.ensures.source c.collect.ensures.ledger inv.waits.agree inv.live c.collect.ensures.agree inv.waits.apart c.in-Came.arrival c.in-Came._places e.replies e.puts
    (came_cases c.arrive.result c.arrive.ensures.ok c.arrive.ensures.err))

pub returns-in-Came-clause-came : goal.returns-in-Came-clause-came
returns-in-Came-clause-came g c =
    let state = g.S.SegmentSource.state in
    let cache = g.C.KeyedSegmentCache.cache in
    let key = c.args.key.now in
    let inv = c.wait.invariant in
    let s = state c.wait.source in
    let t = state c.collect.new.source in
    let x = cache c.wait.cache in
    let y = cache c.collect.new.cache in
    let old = c.wait.desk in
    let new = c.collect.new.self in
    let a = c.wait.inbox in
    let b = c.arrive.new.inbox in
    let e = c.in-Came.ensures in
    came_on_ok c.arrive.result
    (λ is. waited_came key.source_id (point (state c.args.source.now) (cache c.args.cache.now) c.args.desk.now c.args.inbox.now) (point s x old a) (point t y new b) inv.waits (key.segment ∷ [])
    (came_came key s t x y old new a b c.collect.ensures.source c.collect.ensures.ledger inv.waits.agree inv.live c.collect.ensures.agree inv.waits.apart c.in-Came.arrival c.in-Came._places e.replies e.puts is
    (counts_came key.source_id s t x y c.in-Came.arrival c.in-Came._places e.balance)))
    c.arrive.ensures.ok

pub returns-in-Came-clause-misses : goal.returns-in-Came-clause-misses
returns-in-Came-clause-misses g c =
    let state = g.S.SegmentSource.state in
    let cache = g.C.KeyedSegmentCache.cache in
    let key = c.args.key.now in
    Rattle.scan_fetch.proofs.Wanting.no_miss _ (MayAsk key.source_id []) key.source_id (point (state c.args.source.now) (cache c.args.cache.now) c.args.desk.now c.args.inbox.now)
    (point (state c.collect.new.source) (cache c.collect.new.cache) c.collect.new.self c.arrive.new.inbox) c.arrive.result c.arrive.ensures.err
