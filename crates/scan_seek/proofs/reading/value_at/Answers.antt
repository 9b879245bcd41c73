use Rattle.std.proofs.Common.{◌≡◌, [], ◌∷◌, ◌∙◌, List, ℕ, refl, sym, ap, subst}
use Rattle.scan_values.specs.Values.{val_of}
use Rattle.scan_plans.specs.Came.{came}
use Rattle.scan_plans.specs.Futures.{FutureData, GivesItems, future_wanted, future_spoiled, future_overflow}
use Rattle.scan_plans.specs.Given.{AreLacking}
use Rattle.scan_fetch.specs.Fetches.{Point, point, MayAsk, Brings, Brought, Misses}
use Rattle.scan_fetch.proofs.Stepping.{LetsThen}
use Rattle.scan_seek.specs.Rows.{one_row, MayRead}
use Rattle.scan_seek.proofs.Rowing.{Reading, reading_first, reading_next, reading_misses, leaves_here, leaves_after, fails_missed, gives_row, fails_spoiled, fails_overflow, row_asks, row_count, nearer}
use Rattle.scan_seek.proofs.reading.value_at.Goals as goal

pub reads-init : goal.reads-init
reads-init g c = record {
  name = refl;
  reading = reading_first (MayRead c.args.plan.now.value (c.args.row ∷ []) c.args.key.now.source_id) c.args.key.now.source_id
      (point (g.S.SegmentSource.state c.args.source.now) (g.C.KeyedSegmentCache.cache c.args.cache.now) c.args.desk.now c.args.inbox.now) c.requires.agree c.requires.apart;
}

-- from the first poll on
pub returns-in_err-future-clause-leaves : goal.returns-in_err-future-clause-leaves
returns-in_err-future-clause-leaves g c =
    let state = g.S.SegmentSource.state in
    let cache = g.C.KeyedSegmentCache.cache in
    let name = c.args.key.now.source_id in
    leaves_here c.args.plan.now.value (c.args.row ∷ []) name (point (state c.args.source.now) (cache c.args.cache.now) c.args.desk.now c.args.inbox.now)
    (point (state c.reads.source) (cache c.reads.cache) c.reads.desk c.reads.inbox) c.reads.invariant.reading

pub only_value-requires : goal.only_value-requires
only_value-requires g c =
    let here = came c.reads.inbox in
    let p = c.args.plan.now.value in
    let gives : GivesItems here (one_row p c.args.row) c.in-Ready.array = subst (λ (f : FutureData). GivesItems here f c.in-Ready.array) c.in_ok-future.ensures c.in-Ready.ensures.answer in
    row_count p c.args.row here c.in-Ready.array gives

pub returns-in-Ready-clause-leaves : goal.returns-in-Ready-clause-leaves
returns-in-Ready-clause-leaves g c =
    let state = g.S.SegmentSource.state in
    let cache = g.C.KeyedSegmentCache.cache in
    let name = c.args.key.now.source_id in
    leaves_here c.args.plan.now.value (c.args.row ∷ []) name (point (state c.args.source.now) (cache c.args.cache.now) c.args.desk.now c.args.inbox.now)
    (point (state c.reads.source) (cache c.reads.cache) c.reads.desk c.reads.inbox) c.reads.invariant.reading

pub returns-in-Ready-clause-gives : goal.returns-in-Ready-clause-gives
returns-in-Ready-clause-gives g c =
    let state = g.S.SegmentSource.state in
    let cache = g.C.KeyedSegmentCache.cache in
    let name = c.args.key.now.source_id in
    let here = came c.reads.inbox in
    let p = c.args.plan.now.value in
    let gives : GivesItems here (one_row p c.args.row) c.in-Ready.array = subst (λ (f : FutureData). GivesItems here f c.in-Ready.array) c.in_ok-future.ensures c.in-Ready.ensures.answer in
    gives_row p c.args.row name (point (state c.args.source.now) (cache c.args.cache.now) c.args.desk.now c.args.inbox.now)
    (point (state c.reads.source) (cache c.reads.cache) c.reads.desk c.reads.inbox) c.in-Ready.array (val_of c.only_value.result) c.reads.invariant.reading gives c.only_value.ensures

pub returns-in-Corrupt-clause-leaves : goal.returns-in-Corrupt-clause-leaves
returns-in-Corrupt-clause-leaves g c =
    let state = g.S.SegmentSource.state in
    let cache = g.C.KeyedSegmentCache.cache in
    let name = c.args.key.now.source_id in
    leaves_here c.args.plan.now.value (c.args.row ∷ []) name (point (state c.args.source.now) (cache c.args.cache.now) c.args.desk.now c.args.inbox.now)
    (point (state c.reads.source) (cache c.reads.cache) c.reads.desk c.reads.inbox) c.reads.invariant.reading

pub returns-in-Corrupt-clause-fault : goal.returns-in-Corrupt-clause-fault
returns-in-Corrupt-clause-fault g c =
    let state = g.S.SegmentSource.state in
    let cache = g.C.KeyedSegmentCache.cache in
    let name = c.args.key.now.source_id in
    let here = came c.reads.inbox in
    fails_spoiled c.args.plan.now.value c.args.row name (point (state c.args.source.now) (cache c.args.cache.now) c.args.desk.now c.args.inbox.now)
    (point (state c.reads.source) (cache c.reads.cache) c.reads.desk c.reads.inbox) c.in-Corrupt.id c.reads.invariant.reading
    (subst (λ (f : FutureData). future_spoiled f here c.in-Corrupt.id ≡ Rattle.std.proofs.Common.true) c.in_ok-future.ensures c.in-Corrupt.ensures.answer)

pub returns-in-Overflow-clause-leaves : goal.returns-in-Overflow-clause-leaves
returns-in-Overflow-clause-leaves g c =
    let state = g.S.SegmentSource.state in
    let cache = g.C.KeyedSegmentCache.cache in
    let name = c.args.key.now.source_id in
    leaves_here c.args.plan.now.value (c.args.row ∷ []) name (point (state c.args.source.now) (cache c.args.cache.now) c.args.desk.now c.args.inbox.now)
    (point (state c.reads.source) (cache c.reads.cache) c.reads.desk c.reads.inbox) c.reads.invariant.reading

pub returns-in-Overflow-clause-fault : goal.returns-in-Overflow-clause-fault
returns-in-Overflow-clause-fault g c =
    let state = g.S.SegmentSource.state in
    let cache = g.C.KeyedSegmentCache.cache in
    let name = c.args.key.now.source_id in
    let here = came c.reads.inbox in
    fails_overflow c.args.plan.now.value c.args.row name (point (state c.args.source.now) (cache c.args.cache.now) c.args.desk.now c.args.inbox.now)
    (point (state c.reads.source) (cache c.reads.cache) c.reads.desk c.reads.inbox) c.reads.invariant.reading
    (subst (λ (f : FutureData). (store : Rattle.scan_segments.specs.Source.Store) → Rattle.scan_plans.specs.Came.Holds store here → future_overflow f store ≡ Rattle.std.proofs.Common.true) c.in_ok-future.ensures c.in-Overflow.ensures.answer)

pub returns-in-NoMemory-clause-leaves : goal.returns-in-NoMemory-clause-leaves
returns-in-NoMemory-clause-leaves g c =
    let state = g.S.SegmentSource.state in
    let cache = g.C.KeyedSegmentCache.cache in
    let name = c.args.key.now.source_id in
    leaves_here c.args.plan.now.value (c.args.row ∷ []) name (point (state c.args.source.now) (cache c.args.cache.now) c.args.desk.now c.args.inbox.now)
    (point (state c.reads.source) (cache c.reads.cache) c.reads.desk c.reads.inbox) c.reads.invariant.reading

pub bring-requires-clause-agree : goal.bring-requires-clause-agree
bring-requires-clause-agree g c = c.reads.invariant.reading.agree

pub bring-requires-clause-apart : goal.bring-requires-clause-apart
bring-requires-clause-apart g c = c.reads.invariant.reading.apart

pub returns-in-Err-clause-leaves : goal.returns-in-Err-clause-leaves
returns-in-Err-clause-leaves g c =
    let state = g.S.SegmentSource.state in
    let cache = g.C.KeyedSegmentCache.cache in
    let name = c.args.key.now.source_id in
    let here = came c.reads.inbox in
    let p = c.args.plan.now.value in
    let first : Point = point (state c.args.source.now) (cache c.args.cache.now) c.args.desk.now c.args.inbox.now in
    let q : Point = point (state c.reads.source) (cache c.reads.cache) c.reads.desk c.reads.inbox in
    let r : Point = point (state c.bring.new.source) (cache c.bring.new.cache) c.bring.new.desk c.bring.new.inbox in
    let ids = c.as_slice.result.now in
    let lacking : AreLacking (future_wanted (one_row p c.args.row) here) here ids =
    subst (λ (x : List ℕ). AreLacking (future_wanted (one_row p c.args.row) here) here x) (sym c.as_slice.ensures.ids) (subst (λ (f : FutureData). AreLacking (future_wanted f here) here c.in-Pending.ids) c.in_ok-future.ensures c.in-Pending.ensures.answer) in
    let b : Brings name ids q r = subst (λ (n : List ℕ). Brings n ids q r) c.reads.invariant.name c.bring.ensures.brings in
    leaves_after p (c.args.row ∷ []) name first ids q r c.reads.invariant.reading (row_asks p c.args.row name q ids lacking) b

pub returns-in-Err-clause-fault : goal.returns-in-Err-clause-fault
returns-in-Err-clause-fault g c =
    let state = g.S.SegmentSource.state in
    let cache = g.C.KeyedSegmentCache.cache in
    let name = c.args.key.now.source_id in
    let here = came c.reads.inbox in
    let p = c.args.plan.now.value in
    let first : Point = point (state c.args.source.now) (cache c.args.cache.now) c.args.desk.now c.args.inbox.now in
    let q : Point = point (state c.reads.source) (cache c.reads.cache) c.reads.desk c.reads.inbox in
    let r : Point = point (state c.bring.new.source) (cache c.bring.new.cache) c.bring.new.desk c.bring.new.inbox in
    let ids = c.as_slice.result.now in
    let lacking : AreLacking (future_wanted (one_row p c.args.row) here) here ids =
    subst (λ (x : List ℕ). AreLacking (future_wanted (one_row p c.args.row) here) here x) (sym c.as_slice.ensures.ids) (subst (λ (f : FutureData). AreLacking (future_wanted f here) here c.in-Pending.ids) c.in_ok-future.ensures c.in-Pending.ensures.answer) in
    let e = c.in-Err.miss in
    let m : Misses (MayAsk name ids) name q r e = subst (λ (n : List ℕ). Misses (MayAsk n ids) n q r e) c.reads.invariant.name c.in-Err.ensures.misses in
    subst (Rattle.scan_seek.specs.Rows.FailsRows p (c.args.row ∷ []) name first r) (sym c.fault_of.ensures)
    (fails_missed p (c.args.row ∷ []) name first r e (reading_misses (MayRead p (c.args.row ∷ []) name) name ids first q r c.reads.invariant.reading (row_asks p c.args.row name q ids lacking) e m))

pub reads-preserved : goal.reads-preserved
reads-preserved g c =
    let state = g.S.SegmentSource.state in
    let cache = g.C.KeyedSegmentCache.cache in
    let name = c.args.key.now.source_id in
    let here = came c.reads.inbox in
    let p = c.args.plan.now.value in
    let first : Point = point (state c.args.source.now) (cache c.args.cache.now) c.args.desk.now c.args.inbox.now in
    let q : Point = point (state c.reads.source) (cache c.reads.cache) c.reads.desk c.reads.inbox in
    let r : Point = point (state c.bring.new.source) (cache c.bring.new.cache) c.bring.new.desk c.bring.new.inbox in
    let ids = c.as_slice.result.now in
    let lacking : AreLacking (future_wanted (one_row p c.args.row) here) here ids =
    subst (λ (x : List ℕ). AreLacking (future_wanted (one_row p c.args.row) here) here x) (sym c.as_slice.ensures.ids) (subst (λ (f : FutureData). AreLacking (future_wanted f here) here c.in-Pending.ids) c.in_ok-future.ensures c.in-Pending.ensures.answer) in
    let b : Brings name ids q r = subst (λ (n : List ℕ). Brings n ids q r) c.reads.invariant.name c.bring.ensures.brings in
    let t : Brought name ids q r = subst (λ (n : List ℕ). Brought n ids q r) c.reads.invariant.name c.in-Ok.ensures.brought in
    record {
      name = c.bring.ensures.name ∙ c.reads.invariant.name;
      reading = reading_next (MayRead p (c.args.row ∷ []) name) name ids first q r c.reads.invariant.reading (row_asks p c.args.row name q ids lacking) b t;
    }

pub reads-smaller : goal.reads-smaller
reads-smaller g c =
    let state = g.S.SegmentSource.state in
    let cache = g.C.KeyedSegmentCache.cache in
    let here = came c.reads.inbox in
    let p = c.args.plan.now.value in
    let q : Point = point (state c.reads.source) (cache c.reads.cache) c.reads.desk c.reads.inbox in
    let r : Point = point (state c.bring.new.source) (cache c.bring.new.cache) c.bring.new.desk c.bring.new.inbox in
    let ids = c.as_slice.result.now in
    let lacking : AreLacking (future_wanted (one_row p c.args.row) here) here ids =
    subst (λ (x : List ℕ). AreLacking (future_wanted (one_row p c.args.row) here) here x) (sym c.as_slice.ensures.ids) (subst (λ (f : FutureData). AreLacking (future_wanted f here) here c.in-Pending.ids) c.in_ok-future.ensures c.in-Pending.ensures.answer) in
    nearer p c.args.row q r ids lacking c.bring.ensures.brings.stays c.in-Ok.ensures.brought.here
