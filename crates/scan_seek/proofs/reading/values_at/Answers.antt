use Rattle.std.proofs.Common.{◌≡◌, ◌+◌, ◌++◌, ◌<◌, ◌≤◌, [], ◌∷◌, ◌∙◌, List, ℕ, true, get_or, map, take, length, arith, refl, sym, ap, subst, rules}
use Rattle.std.specs.declared.vec.Vec.{Vec}
use Rattle.scan_values.specs.Selections.{is_among}
use Rattle.scan_values.specs.Val.{Val}
use Rattle.scan_values.specs.Values.{val_of}
use Rattle.scan_drive.proofs.Asking.{among_at}
use Rattle.scan_fetch.specs.Fetches.{Point, point}
use Rattle.scan_seek.specs.Rows.{LeavesRows, GivesRows, FailsRows}
use Rattle.scan_seek.proofs.Rowing.{ReadingRows, rows_first, rows_next, rows_leaves, rows_fail, rows_done, leaves_here, reading_first, take_next, take_whole, map_push}
use Rattle.scan_seek.proofs.reading.values_at.Goals as goal

pub loop-row-init : goal.loop-row-init
loop-row-init g c =
    let state = g.S.SegmentSource.state in
    let cache = g.C.KeyedSegmentCache.cache in
    let first : Point = point (state c.args.source.now) (cache c.args.cache.now) c.args.desk.now c.args.inbox.now in
    let none : c.in_ok-values.values.items ≡ [] = search rules in
    record {
      name = refl;
      reading = subst (λ (vs : List Val). ReadingRows c.args.plan.now.value c.args.rows.now [] c.args.key.now.source_id first first vs) (sym (ap (map val_of) none))
          (rows_first c.args.plan.now.value c.args.rows.now c.args.key.now.source_id first c.requires.agree c.requires.apart);
    }

pub value_at-requires-clause-agree : goal.value_at-requires-clause-agree
value_at-requires-clause-agree g c = c.loop-row.invariant.reading.reading.agree

pub value_at-requires-clause-apart : goal.value_at-requires-clause-apart
value_at-requires-clause-apart g c = c.loop-row.invariant.reading.reading.apart

pub returns-in_err-values-clause-leaves : goal.returns-in_err-values-clause-leaves
returns-in_err-values-clause-leaves g c =
    let state = g.S.SegmentSource.state in
    let cache = g.C.KeyedSegmentCache.cache in
    let first : Point = point (state c.args.source.now) (cache c.args.cache.now) c.args.desk.now c.args.inbox.now in
    leaves_here c.args.plan.now.value c.args.rows.now c.args.key.now.source_id first first (rows_first c.args.plan.now.value c.args.rows.now c.args.key.now.source_id first c.requires.agree c.requires.apart).reading

pub returns-in-Err-clause-leaves : goal.returns-in-Err-clause-leaves
returns-in-Err-clause-leaves g c =
    let state = g.S.SegmentSource.state in
    let cache = g.C.KeyedSegmentCache.cache in
    let inv = c.loop-row.invariant in
    let i = c.loop-row.row-index in
    let rows = c.args.rows.now in
    let row = get_or rows i 0 in
    let name = c.args.key.now.source_id in
    let pl = c.args.plan.now.value in
    let lt : i < length rows = omega (arith, c.loop-row-test.true) in
    let p : Point = point (state c.args.source.now) (cache c.args.cache.now) c.args.desk.now c.args.inbox.now in
    let q : Point = point (state c.loop-row.source) (cache c.loop-row.cache) c.loop-row.desk c.loop-row.inbox in
    let r : Point = point (state c.value_at.new.source) (cache c.value_at.new.cache) c.value_at.new.desk c.value_at.new.inbox in
    let there : is_among rows row ≡ true = among_at rows i 0 lt in
    let l : LeavesRows pl (row ∷ []) name q r = subst (λ (n : List ℕ). LeavesRows pl (row ∷ []) n q r) inv.name c.value_at.ensures.leaves in
    rows_leaves pl rows (take i rows) row name p q r (map val_of c.loop-row.values.items) inv.reading there l

pub returns-in-Err-clause-fault : goal.returns-in-Err-clause-fault
returns-in-Err-clause-fault g c =
    let state = g.S.SegmentSource.state in
    let cache = g.C.KeyedSegmentCache.cache in
    let inv = c.loop-row.invariant in
    let i = c.loop-row.row-index in
    let rows = c.args.rows.now in
    let row = get_or rows i 0 in
    let name = c.args.key.now.source_id in
    let pl = c.args.plan.now.value in
    let lt : i < length rows = omega (arith, c.loop-row-test.true) in
    let p : Point = point (state c.args.source.now) (cache c.args.cache.now) c.args.desk.now c.args.inbox.now in
    let q : Point = point (state c.loop-row.source) (cache c.loop-row.cache) c.loop-row.desk c.loop-row.inbox in
    let r : Point = point (state c.value_at.new.source) (cache c.value_at.new.cache) c.value_at.new.desk c.value_at.new.inbox in
    let there : is_among rows row ≡ true = among_at rows i 0 lt in
    let e = c.in-Err.fault in
    let f : FailsRows pl (row ∷ []) name q r e = subst (λ (n : List ℕ). FailsRows pl (row ∷ []) n q r e) inv.name c.in-Err.ensures.fault in
    rows_fail pl rows (take i rows) row name p q r (map val_of c.loop-row.values.items) inv.reading there e f

pub returns-in_err-push-in-Ok-clause-leaves : goal.returns-in_err-push-in-Ok-clause-leaves
returns-in_err-push-in-Ok-clause-leaves g c =
    let state = g.S.SegmentSource.state in
    let cache = g.C.KeyedSegmentCache.cache in
    let inv = c.loop-row.invariant in
    let i = c.loop-row.row-index in
    let rows = c.args.rows.now in
    let row = get_or rows i 0 in
    let name = c.args.key.now.source_id in
    let pl = c.args.plan.now.value in
    let lt : i < length rows = omega (arith, c.loop-row-test.true) in
    let p : Point = point (state c.args.source.now) (cache c.args.cache.now) c.args.desk.now c.args.inbox.now in
    let q : Point = point (state c.loop-row.source) (cache c.loop-row.cache) c.loop-row.desk c.loop-row.inbox in
    let r : Point = point (state c.value_at.new.source) (cache c.value_at.new.cache) c.value_at.new.desk c.value_at.new.inbox in
    let there : is_among rows row ≡ true = among_at rows i 0 lt in
    let l : LeavesRows pl (row ∷ []) name q r = subst (λ (n : List ℕ). LeavesRows pl (row ∷ []) n q r) inv.name c.value_at.ensures.leaves in
    rows_leaves pl rows (take i rows) row name p q r (map val_of c.loop-row.values.items) inv.reading there l

pub loop-row-preserved : goal.loop-row-preserved
loop-row-preserved g c =
    let state = g.S.SegmentSource.state in
    let cache = g.C.KeyedSegmentCache.cache in
    let inv = c.loop-row.invariant in
    let i = c.loop-row.row-index in
    let rows = c.args.rows.now in
    let row = get_or rows i 0 in
    let name = c.args.key.now.source_id in
    let pl = c.args.plan.now.value in
    let lt : i < length rows = omega (arith, c.loop-row-test.true) in
    let p : Point = point (state c.args.source.now) (cache c.args.cache.now) c.args.desk.now c.args.inbox.now in
    let q : Point = point (state c.loop-row.source) (cache c.loop-row.cache) c.loop-row.desk c.loop-row.inbox in
    let r : Point = point (state c.value_at.new.source) (cache c.value_at.new.cache) c.value_at.new.desk c.value_at.new.inbox in
    let there : is_among rows row ≡ true = among_at rows i 0 lt in
    let l : LeavesRows pl (row ∷ []) name q r = subst (λ (n : List ℕ). LeavesRows pl (row ∷ []) n q r) inv.name c.value_at.ensures.leaves in
    let v = c.in-Ok.value in
    let gives : GivesRows pl (row ∷ []) name q r (val_of v ∷ []) = subst (λ (n : List ℕ). GivesRows pl (row ∷ []) n q r (val_of v ∷ [])) inv.name c.in-Ok.ensures.gives in
    let done : take i rows ++ row ∷ [] ≡ take (i + 1) rows = sym (take_next rows i 0 lt) in
    let pushed : c.push.new.self.items ≡ c.loop-row.values.items ++ (v ∷ []) = search rules in
    let next = rows_next pl rows (take i rows) row name p q r (map val_of c.loop-row.values.items) inv.reading there l (val_of v) gives in
    record {
      name = c.value_at.ensures.name ∙ inv.name;
      reading = subst (λ (vs : List Val). ReadingRows pl rows (take (i + 1) rows) name p r vs) (sym (ap (map val_of) pushed ∙ map_push val_of c.loop-row.values.items v))
          (subst (λ (d : List ℕ). ReadingRows pl rows d name p r (map val_of c.loop-row.values.items ++ val_of v ∷ [])) done next);
    }

pub returns-clause-leaves : goal.returns-clause-leaves
returns-clause-leaves g c =
    let state = g.S.SegmentSource.state in
    let cache = g.C.KeyedSegmentCache.cache in
    leaves_here c.args.plan.now.value c.args.rows.now c.args.key.now.source_id (point (state c.args.source.now) (cache c.args.cache.now) c.args.desk.now c.args.inbox.now)
    (point (state c.loop-row.source) (cache c.loop-row.cache) c.loop-row.desk c.loop-row.inbox) c.loop-row.invariant.reading.reading

pub returns-clause-gives : goal.returns-clause-gives
returns-clause-gives g c =
    let state = g.S.SegmentSource.state in
    let cache = g.C.KeyedSegmentCache.cache in
    let rows = c.args.rows.now in
    let name = c.args.key.now.source_id in
    let pl = c.args.plan.now.value in
    let p : Point = point (state c.args.source.now) (cache c.args.cache.now) c.args.desk.now c.args.inbox.now in
    let q : Point = point (state c.loop-row.source) (cache c.loop-row.cache) c.loop-row.desk c.loop-row.inbox in
    let vs = map val_of c.loop-row.values.items in
    let end : length rows ≤ c.loop-row.row-index = omega (arith, c.loop-row-test.false) in
    rows_done pl rows name p q vs (subst (λ (d : List ℕ). ReadingRows pl rows d name p q vs) (take_whole rows c.loop-row.row-index end) c.loop-row.invariant.reading)
