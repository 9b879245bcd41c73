use borrow.Author.Rules.{rules}
use Rattle.std.proofs.Common.{◌≡◌, ◌-◌, ◌≤◌, ◌<◌, length, arith, sym, ◌∙◌, [], Ok, Err}
use Rattle.std.proofs.lemmas.Result.{err_from_is_err_and}
use Rattle.scan_values.specs.Arrays.{of_parts}
use Rattle.scan_spelling.specs.Places.{place_of}
use Rattle.scan_splits.specs.Runs.{start_of}
use Rattle.scan_plans.specs.Came.{came, arrived}
use Rattle.scan_plans.specs.Meaning.{true_rows}
use Rattle.scan_plans.proofs.LeafWalk.{want_start, want_past, want_end, give_start, give_past, give_end, starts_in_time, next_in_order, segment_fits, place_at}
use Rattle.scan_plans.proofs.Collecting.{past_start}
use Rattle.scan_plans.proofs.Building.{built_start, built_next, built_fault, built_end, moved_adds}
use Rattle.scan_plans.proofs.leaf.read_leaf.Goals as goal

pub loop-k-init : goal.loop-k-init
loop-k-init c =
    let d = c.args.dtype.now.value in
    let gs = c.args.runs.now in
    let in_time = starts_in_time gs c.args.first c.first_at-k.result c.first_at-k.ensures.before in
    let none : c.in_ok-column.column ≡ of_parts d [] = search (rules, c.in_ok-column.ensures) in
    built_start d c.in_ok-column.column _ _ _ _ (arrived (came c.args.inbox.now)) none
    (give_start d c.args.spelling (arrived (came c.args.inbox.now)) gs c.args.first c.args.bits.now c.first_at-k.result in_time)
    (want_start d c.args.spelling gs c.args.first c.args.bits.now c.first_at-k.result in_time)

pub returns-then-ends_before : goal.returns-then-ends_before
returns-then-ends_before c =
    let d = c.args.dtype.now.value in
    let gs = c.args.runs.now in
    let past = past_start c.args.first (length c.args.bits.now) c.start-start.result (start_of gs c.loop-k.k) (sym c.ends_before.ensures ∙ c.if-ends_before.true) c.start-start.ensures in
    built_end d c.args.spelling (came c.args.inbox.now) gs (true_rows c.args.first c.args.bits.now) c.loop-k.column _ _ c.loop-k.invariant
    (give_past d c.args.spelling (arrived (came c.args.inbox.now)) gs c.args.first c.args.bits.now c.loop-k.k past)
    (want_past d c.args.spelling gs c.args.first c.args.bits.now c.loop-k.k past)

pub part_of-part-requires : goal.part_of-part-requires
part_of-part-requires c =
    let within : c.loop-k.k < length c.args.runs.now = omega (arith, c.loop-k-test.true, c.len-k-end.ensures) in
    let up = next_in_order c.args.runs.now c.loop-k.k within in
    omega (arith, up, c.start-start.ensures, c.end.ensures)

pub with_segment-requires-clause-within : goal.with_segment-requires-clause-within
with_segment-requires-clause-within c =
    let gs = c.args.runs.now in
    let within : c.loop-k.k < length gs = omega (arith, c.loop-k-test.true, c.len-k-end.ensures) in
    let skip : c.saturating_sub-skip.result ≡ c.args.first - c.start-start.result = search (rules, c.saturating_sub-skip.ensures) in
    λ some. rw skip (segment_fits gs c.args.first c.args.bits.now c.loop-k.k c.part_of-part.result.now c.start-start.result c.end.result c.rows.result within c.start-start.ensures c.end.ensures c.part_of-part.ensures c.rows.ensures some)

pub returns-in_err-column-2 : goal.returns-in_err-column-2
returns-in_err-column-2 c =
    let d = c.args.dtype.now.value in
    let gs = c.args.runs.now in
    let store = arrived (came c.args.inbox.now) in
    let within : c.loop-k.k < length gs = omega (arith, c.loop-k-test.true, c.len-k-end.ensures) in
    let skip : c.saturating_sub-skip.result ≡ c.args.first - c.start-start.result = search (rules, c.saturating_sub-skip.ensures) in
    let p = err_from_is_err_and c.from_residual-in_err-column-2.result c.from_residual-in_err-column-2.ensures.1 in
    rw (p.1, p.2) (built_fault d c.args.spelling (came c.args.inbox.now) gs c.args.first c.args.bits.now c.loop-k.k (0, 0) c.part_of-part.result.now c.start-start.result c.end.result c.loop-k.column c.in_err-column-2.field-0.0
    within c.start-start.ensures c.end.ensures c.part_of-part.ensures c.loop-k.invariant
    (moved_adds store (place_of d c.args.spelling (c.id.result, c.rows.result)) _ c.saturating_sub-skip.result _ c.part_of-part.result.now c.loop-k.column
    (Err c.in_err-column-2.field-0.0) (place_at d c.args.spelling gs c.loop-k.k c.id.result c.rows.result c.id.ensures c.rows.ensures) skip
    c.in_err-column-2.ensures))

pub loop-k-preserved : goal.loop-k-preserved
loop-k-preserved c =
    let d = c.args.dtype.now.value in
    let gs = c.args.runs.now in
    let store = arrived (came c.args.inbox.now) in
    let within : c.loop-k.k < length gs = omega (arith, c.loop-k-test.true, c.len-k-end.ensures) in
    let skip : c.saturating_sub-skip.result ≡ c.args.first - c.start-start.result = search (rules, c.saturating_sub-skip.ensures) in
    built_next d c.args.spelling store gs c.args.first c.args.bits.now c.loop-k.k (0, 0) c.part_of-part.result.now c.start-start.result c.end.result _ _ c.loop-k.column c.in_ok-column-2.column
    within c.start-start.ensures c.end.ensures c.part_of-part.ensures c.loop-k.invariant
    (moved_adds store (place_of d c.args.spelling (c.id.result, c.rows.result)) _ c.saturating_sub-skip.result _ c.part_of-part.result.now c.loop-k.column
    (Ok c.in_ok-column-2.column) (place_at d c.args.spelling gs c.loop-k.k c.id.result c.rows.result c.id.ensures c.rows.ensures) skip
    c.in_ok-column-2.ensures)

pub returns : goal.returns
returns c =
    let d = c.args.dtype.now.value in
    let gs = c.args.runs.now in
    let last : length gs ≤ c.loop-k.k = omega (arith, c.loop-k-test.false, c.len-k-end.ensures) in
    built_end d c.args.spelling (came c.args.inbox.now) gs (true_rows c.args.first c.args.bits.now) c.loop-k.column _ _ c.loop-k.invariant
    (give_end d c.args.spelling (arrived (came c.args.inbox.now)) gs c.args.first c.args.bits.now c.loop-k.k last c.requires.within)
    (want_end d c.args.spelling gs c.args.first c.args.bits.now c.loop-k.k last)
