use Rattle.std.proofs.Common.{◌<◌, ◌≤◌, length, arith, sym, ◌∙◌, Ok, Err}
use Rattle.std.proofs.lemmas.Result.{err_from_is_err_and}
use Rattle.scan_spelling.specs.Places.{place_of}
use Rattle.scan_splits.specs.Runs.{start_of}
use Rattle.scan_plans.specs.Came.{came}
use Rattle.scan_plans.proofs.LeafWalk.{want_start, want_part, want_past, want_end, starts_in_time, next_in_order, place_at}
use Rattle.scan_plans.proofs.Collecting.{past_start}
use Rattle.scan_plans.proofs.Checked.{checked_start, checked_next, checked_end, checked_fault, moved_checks}
use Rattle.scan_plans.proofs.checking.check_leaf.Goals as goal

pub loop-k-init : goal.loop-k-init
loop-k-init c = checked_start _ _ (came c.args.inbox.now) (want_start c.args.dtype.now.value c.args.spelling c.args.runs.now c.args.first c.args.bits.now c.first_at-k.result (starts_in_time c.args.runs.now c.args.first c.first_at-k.result c.first_at-k.ensures.before))

pub returns-then-ends_before : goal.returns-then-ends_before
returns-then-ends_before c =
    let gs = c.args.runs.now in
    checked_end _ _ (came c.args.inbox.now)
    (want_past c.args.dtype.now.value c.args.spelling gs c.args.first c.args.bits.now c.loop-k.k (past_start c.args.first (length c.args.bits.now) c.start-start.result (start_of gs c.loop-k.k) (sym c.ends_before.ensures ∙ c.if-ends_before.true) c.start-start.ensures)) c.loop-k.invariant

pub part_of-part-requires : goal.part_of-part-requires
part_of-part-requires c =
    let within : c.loop-k.k < length c.args.runs.now = omega (arith, c.loop-k-test.true, c.len-k-end.ensures) in
    let up = next_in_order c.args.runs.now c.loop-k.k within in
    omega (arith, up, c.start-start.ensures, c.end.ensures)

pub returns-in_err-check_under : goal.returns-in_err-check_under
returns-in_err-check_under c =
    let d = c.args.dtype.now.value in
    let gs = c.args.runs.now in
    let here = came c.args.inbox.now in
    let within : c.loop-k.k < length gs = omega (arith, c.loop-k-test.true, c.len-k-end.ensures) in
    let p = err_from_is_err_and c.from_residual.result c.from_residual.ensures.1 in
    let place = place_at d c.args.spelling gs c.loop-k.k c.id.result c.rows.result c.id.ensures c.rows.ensures in
    rw (p.1, p.2) (checked_fault (Unit {0}) (Unit {0}) _ _ _ _ here c.in_err-check_under.field-0.0
    (want_part d c.args.spelling gs c.args.first c.args.bits.now c.loop-k.k (0, 0) c.part_of-part.result.now c.start-start.result c.end.result within c.start-start.ensures c.end.ensures c.part_of-part.ensures) c.loop-k.invariant
    (moved_checks {A = Unit {0}} (place_of d c.args.spelling (c.id.result, c.rows.result)) _ c.part_of-part.result.now here (Err c.in_err-check_under.field-0.0) place c.in_err-check_under.ensures))

pub loop-k-preserved : goal.loop-k-preserved
loop-k-preserved c =
    let d = c.args.dtype.now.value in
    let gs = c.args.runs.now in
    let here = came c.args.inbox.now in
    let within : c.loop-k.k < length gs = omega (arith, c.loop-k-test.true, c.len-k-end.ensures) in
    let place = place_at d c.args.spelling gs c.loop-k.k c.id.result c.rows.result c.id.ensures c.rows.ensures in
    checked_next _ _ _ _ here
    (want_part d c.args.spelling gs c.args.first c.args.bits.now c.loop-k.k (0, 0) c.part_of-part.result.now c.start-start.result c.end.result within c.start-start.ensures c.end.ensures c.part_of-part.ensures) c.loop-k.invariant
    (moved_checks {A = Unit {0}} (place_of d c.args.spelling (c.id.result, c.rows.result)) _ c.part_of-part.result.now here (Ok (tt {0})) place c.in_ok-check_under.ensures)

pub returns : goal.returns
returns c =
    let gs = c.args.runs.now in
    let last : length gs ≤ c.loop-k.k = omega (arith, c.loop-k-test.false, c.len-k-end.ensures) in
    checked_end _ _ (came c.args.inbox.now) (want_end c.args.dtype.now.value c.args.spelling gs c.args.first c.args.bits.now c.loop-k.k last) c.loop-k.invariant
