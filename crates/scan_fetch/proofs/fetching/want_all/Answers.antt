use Rattle.std.proofs.Common.{◌≡◌, ◌+◌, ◌≤◌, ◌<◌, ◌∷◌, [], ◌∙◌, List, ℕ, true, drop, length, arith, subst, sym, ap, refl}
use Rattle.scan_values.specs.Selections.{is_among}
use Rattle.scan_drive.proofs.Asking.{among_at}
use Rattle.scan_drive.proofs.Handing.{drop_next}
use Rattle.scan_fetch.specs.Fetches.{Point, point, Wants, Meets}
use Rattle.scan_fetch.proofs.Looping.{Wanting, wanting_first, wanting_next, wants_then, wanted_all, drop_end}
use Rattle.scan_fetch.proofs.fetching.want_all.Goals as goal

pub loop-id-init : goal.loop-id-init
loop-id-init g c =
    let state = g.S.SegmentSource.state in
    let cache = g.C.KeyedSegmentCache.cache in
    record {
      name = refl;
      wanting = wanting_first c.args.key.now.source_id c.args.ids.now (point (state c.args.source.now) (cache c.args.cache.now) c.args.desk.now c.args.inbox.now) c.requires.agree c.requires.apart;
    }

pub want_one-requires-clause-agree : goal.want_one-requires-clause-agree
want_one-requires-clause-agree g c = c.loop-id.invariant.wanting.agree

pub want_one-requires-clause-apart : goal.want_one-requires-clause-apart
want_one-requires-clause-apart g c = c.loop-id.invariant.wanting.apart

pub loop-id-preserved : goal.loop-id-preserved
loop-id-preserved g c =
    let state = g.S.SegmentSource.state in
    let cache = g.C.KeyedSegmentCache.cache in
    let inv = c.loop-id.invariant in
    let i = c.loop-id.id-index in
    let ids = c.args.ids.now in
    let id = c.id-item.result in
    let name = c.args.key.now.source_id in
    let lt : i < length ids = omega (arith, c.loop-id-test.true) in
    let p : Point = point (state c.args.source.now) (cache c.args.cache.now) c.args.desk.now c.args.inbox.now in
    let q : Point = point (state c.loop-id.source) (cache c.loop-id.cache) c.loop-id.desk c.loop-id.inbox in
    let r : Point = point (state c.want_one.new.source) (cache c.want_one.new.cache) c.want_one.new.desk c.want_one.new.inbox in
    let w : Wanting name ids (id ∷ drop (i + 1) ids) p q = subst (λ (rest : List ℕ). Wanting name ids rest p q) (drop_next ids i id lt ∙ ap (λ (x : ℕ). x ∷ drop (i + 1) ids) (sym c.id-item.is)) inv.wanting in
    let there : is_among ids id ≡ true = subst (λ (x : ℕ). is_among ids x ≡ true) (sym c.id-item.is) (among_at ids i id lt) in
    let v : Wants name (id ∷ []) q r = subst (λ (n : List ℕ). Wants n (id ∷ []) q r) inv.name c.want_one.ensures.wants in
    let m : Meets name (id ∷ []) q r = subst (λ (n : List ℕ). Meets n (id ∷ []) q r) inv.name c.in_ok-want_one.ensures.meets in
    record { name = inv.name; wanting = wanting_next name ids id (drop (i + 1) ids) p q r w there v m }

pub returns-in_err-want_one-clause-wants : goal.returns-in_err-want_one-clause-wants
returns-in_err-want_one-clause-wants g c =
    let state = g.S.SegmentSource.state in
    let cache = g.C.KeyedSegmentCache.cache in
    let inv = c.loop-id.invariant in
    let i = c.loop-id.id-index in
    let ids = c.args.ids.now in
    let id = c.id-item.result in
    let name = c.args.key.now.source_id in
    let lt : i < length ids = omega (arith, c.loop-id-test.true) in
    let p : Point = point (state c.args.source.now) (cache c.args.cache.now) c.args.desk.now c.args.inbox.now in
    let q : Point = point (state c.loop-id.source) (cache c.loop-id.cache) c.loop-id.desk c.loop-id.inbox in
    let r : Point = point (state c.want_one.new.source) (cache c.want_one.new.cache) c.want_one.new.desk c.want_one.new.inbox in
    let w : Wanting name ids (id ∷ drop (i + 1) ids) p q = subst (λ (rest : List ℕ). Wanting name ids rest p q) (drop_next ids i id lt ∙ ap (λ (x : ℕ). x ∷ drop (i + 1) ids) (sym c.id-item.is)) inv.wanting in
    let there : is_among ids id ≡ true = subst (λ (x : ℕ). is_among ids x ≡ true) (sym c.id-item.is) (among_at ids i id lt) in
    let v : Wants name (id ∷ []) q r = subst (λ (n : List ℕ). Wants n (id ∷ []) q r) inv.name c.want_one.ensures.wants in
    wants_then name ids id (drop (i + 1) ids) p q r w there v

pub returns-clause-wants : goal.returns-clause-wants
returns-clause-wants g c =
    let state = g.S.SegmentSource.state in
    let cache = g.C.KeyedSegmentCache.cache in
    let ids = c.args.ids.now in
    let name = c.args.key.now.source_id in
    let p : Point = point (state c.args.source.now) (cache c.args.cache.now) c.args.desk.now c.args.inbox.now in
    let q : Point = point (state c.loop-id.source) (cache c.loop-id.cache) c.loop-id.desk c.loop-id.inbox in
    let end : length ids ≤ c.loop-id.id-index = omega (arith, c.loop-id-test.false) in
    (wanted_all name ids p q (subst (λ (rest : List ℕ). Wanting name ids rest p q) (drop_end ids c.loop-id.id-index end) c.loop-id.invariant.wanting)).0

pub returns-clause-meets : goal.returns-clause-meets
returns-clause-meets g c =
    let state = g.S.SegmentSource.state in
    let cache = g.C.KeyedSegmentCache.cache in
    let ids = c.args.ids.now in
    let name = c.args.key.now.source_id in
    let p : Point = point (state c.args.source.now) (cache c.args.cache.now) c.args.desk.now c.args.inbox.now in
    let q : Point = point (state c.loop-id.source) (cache c.loop-id.cache) c.loop-id.desk c.loop-id.inbox in
    let end : length ids ≤ c.loop-id.id-index = omega (arith, c.loop-id-test.false) in
    (wanted_all name ids p q (subst (λ (rest : List ℕ). Wanting name ids rest p q) (drop_end ids c.loop-id.id-index end) c.loop-id.invariant.wanting)).1
