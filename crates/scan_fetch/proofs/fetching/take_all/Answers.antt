use Rattle.std.proofs.Common.{◌≡◌, ◌+◌, ◌≤◌, ◌<◌, ◌∷◌, [], ◌∙◌, List, ℕ, true, false, drop, length, arith, subst, sym, ap, refl}
use Rattle.std.specs.Prelude.{IfErr}
use Rattle.scan_values.specs.Selections.{is_among}
use Rattle.scan_drive.proofs.Asking.{among_at}
use Rattle.scan_drive.proofs.Handing.{drop_next}
use Rattle.scan_fetch.specs.Fetches.{Point, point, is_live, IsMet, MayAsk, Takes, Came, Misses}
use Rattle.scan_fetch.proofs.Looping.{Taking, taking_first, taking_next, taking_skip, takes_then, took_misses, taken_all, drop_end}
use Rattle.scan_fetch.proofs.fetching.take_all.Goals as goal

pub loop-id-init : goal.loop-id-init
loop-id-init g c =
    let state = g.S.SegmentSource.state in
    let cache = g.C.KeyedSegmentCache.cache in
    record {
      name = refl;
      taking = taking_first c.args.key.now.source_id c.args.ids.now (point (state c.args.source.now) (cache c.args.cache.now) c.args.desk.now c.args.inbox.now) c.requires.agree c.requires.apart;
    }

pub take_one-requires-clause-agree : goal.take_one-requires-clause-agree
take_one-requires-clause-agree g c = c.loop-id.invariant.taking.agree

pub take_one-requires-clause-apart : goal.take_one-requires-clause-apart
take_one-requires-clause-apart g c = c.loop-id.invariant.taking.apart

pub loop-id-preserved-then-not-is_live : goal.loop-id-preserved-then-not-is_live
loop-id-preserved-then-not-is_live g c =
    let state = g.S.SegmentSource.state in
    let cache = g.C.KeyedSegmentCache.cache in
    let inv = c.loop-id.invariant in
    let i = c.loop-id.id-index in
    let ids = c.args.ids.now in
    let id = c.id-item.result in
    let name = c.args.key.now.source_id in
    let lt : i < length ids = omega (arith, c.loop-id-test.true) in
    let p : Point = point (state c.args.source.now) (cache c.args.cache.now) c.args.desk.now c.args.inbox.now in
    let q : Point = point (state c.loop-id.source) (cache c.loop-id.cache) c.loop-id.desk c.loop-id.inbox in
    let w : Taking name ids (id ∷ drop (i + 1) ids) p q = subst (λ (rest : List ℕ). Taking name ids rest p q) (drop_next ids i id lt ∙ ap (λ (x : ℕ). x ∷ drop (i + 1) ids) (sym c.id-item.is)) inv.taking in
    let there : is_among ids id ≡ true = subst (λ (x : ℕ). is_among ids x ≡ true) (sym c.id-item.is) (among_at ids i id lt) in
    let met : IsMet q id = (inv.taking.goes).met id (c.requires.met id there) in
    let off : is_live q id ≡ false = inv.taking.agree id ∙ sym c.is_live.ensures ∙ c.if-not-is_live.true in
    record { name = inv.name; taking = taking_skip name ids id (drop (i + 1) ids) p q w met off }

pub loop-id-preserved : goal.loop-id-preserved
loop-id-preserved g c =
    let state = g.S.SegmentSource.state in
    let cache = g.C.KeyedSegmentCache.cache in
    let inv = c.loop-id.invariant in
    let i = c.loop-id.id-index in
    let ids = c.args.ids.now in
    let id = c.id-item.result in
    let name = c.args.key.now.source_id in
    let lt : i < length ids = omega (arith, c.loop-id-test.true) in
    let p : Point = point (state c.args.source.now) (cache c.args.cache.now) c.args.desk.now c.args.inbox.now in
    let q : Point = point (state c.loop-id.source) (cache c.loop-id.cache) c.loop-id.desk c.loop-id.inbox in
    let r : Point = point (state c.take_one.new.source) (cache c.take_one.new.cache) c.take_one.new.desk c.take_one.new.inbox in
    let w : Taking name ids (id ∷ drop (i + 1) ids) p q = subst (λ (rest : List ℕ). Taking name ids rest p q) (drop_next ids i id lt ∙ ap (λ (x : ℕ). x ∷ drop (i + 1) ids) (sym c.id-item.is)) inv.taking in
    let t : Takes name q r = subst (λ (n : List ℕ). Takes n q r) inv.name c.take_one.ensures.takes in
    let came : Came name (id ∷ []) q r = subst (λ (n : List ℕ). Came n (id ∷ []) q r) inv.name c.in-Ok.ensures.came in
    record { name = inv.name; taking = taking_next name ids id (drop (i + 1) ids) p q w r t came }

pub returns-in-Err-clause-takes : goal.returns-in-Err-clause-takes
returns-in-Err-clause-takes g c =
    let state = g.S.SegmentSource.state in
    let cache = g.C.KeyedSegmentCache.cache in
    let inv = c.loop-id.invariant in
    let i = c.loop-id.id-index in
    let ids = c.args.ids.now in
    let id = c.id-item.result in
    let name = c.args.key.now.source_id in
    let lt : i < length ids = omega (arith, c.loop-id-test.true) in
    let p : Point = point (state c.args.source.now) (cache c.args.cache.now) c.args.desk.now c.args.inbox.now in
    let q : Point = point (state c.loop-id.source) (cache c.loop-id.cache) c.loop-id.desk c.loop-id.inbox in
    let r : Point = point (state c.take_one.new.source) (cache c.take_one.new.cache) c.take_one.new.desk c.take_one.new.inbox in
    let w : Taking name ids (id ∷ drop (i + 1) ids) p q = subst (λ (rest : List ℕ). Taking name ids rest p q) (drop_next ids i id lt ∙ ap (λ (x : ℕ). x ∷ drop (i + 1) ids) (sym c.id-item.is)) inv.taking in
    let t : Takes name q r = subst (λ (n : List ℕ). Takes n q r) inv.name c.take_one.ensures.takes in
    takes_then name ids id (drop (i + 1) ids) p q w r t

pub returns-in-Err-clause-misses : goal.returns-in-Err-clause-misses
returns-in-Err-clause-misses g c =
    let state = g.S.SegmentSource.state in
    let cache = g.C.KeyedSegmentCache.cache in
    let inv = c.loop-id.invariant in
    let i = c.loop-id.id-index in
    let ids = c.args.ids.now in
    let id = c.id-item.result in
    let name = c.args.key.now.source_id in
    let lt : i < length ids = omega (arith, c.loop-id-test.true) in
    let p : Point = point (state c.args.source.now) (cache c.args.cache.now) c.args.desk.now c.args.inbox.now in
    let q : Point = point (state c.loop-id.source) (cache c.loop-id.cache) c.loop-id.desk c.loop-id.inbox in
    let r : Point = point (state c.take_one.new.source) (cache c.take_one.new.cache) c.take_one.new.desk c.take_one.new.inbox in
    let w : Taking name ids (id ∷ drop (i + 1) ids) p q = subst (λ (rest : List ℕ). Taking name ids rest p q) (drop_next ids i id lt ∙ ap (λ (x : ℕ). x ∷ drop (i + 1) ids) (sym c.id-item.is)) inv.taking in
    let t : Takes name q r = subst (λ (n : List ℕ). Takes n q r) inv.name c.take_one.ensures.takes in
    took_misses name ids id (drop (i + 1) ids) p q w r t c.in-Err.miss (subst (λ (n : List ℕ). Misses (MayAsk n []) n q r c.in-Err.miss) inv.name c.in-Err.ensures.misses)

pub returns-clause-takes : goal.returns-clause-takes
returns-clause-takes g c =
    let state = g.S.SegmentSource.state in
    let cache = g.C.KeyedSegmentCache.cache in
    let ids = c.args.ids.now in
    let name = c.args.key.now.source_id in
    let p : Point = point (state c.args.source.now) (cache c.args.cache.now) c.args.desk.now c.args.inbox.now in
    let q : Point = point (state c.loop-id.source) (cache c.loop-id.cache) c.loop-id.desk c.loop-id.inbox in
    let end : length ids ≤ c.loop-id.id-index = omega (arith, c.loop-id-test.false) in
    (taken_all name ids p q (subst (λ (rest : List ℕ). Taking name ids rest p q) (drop_end ids c.loop-id.id-index end) c.loop-id.invariant.taking)).0

pub returns-clause-came : goal.returns-clause-came
returns-clause-came g c =
    let state = g.S.SegmentSource.state in
    let cache = g.C.KeyedSegmentCache.cache in
    let ids = c.args.ids.now in
    let name = c.args.key.now.source_id in
    let p : Point = point (state c.args.source.now) (cache c.args.cache.now) c.args.desk.now c.args.inbox.now in
    let q : Point = point (state c.loop-id.source) (cache c.loop-id.cache) c.loop-id.desk c.loop-id.inbox in
    let end : length ids ≤ c.loop-id.id-index = omega (arith, c.loop-id-test.false) in
    (taken_all name ids p q (subst (λ (rest : List ℕ). Taking name ids rest p q) (drop_end ids c.loop-id.id-index end) c.loop-id.invariant.taking)).1
