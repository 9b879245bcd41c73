use Rattle.std.proofs.Common.{◌<◌, length, arith, sym, ◌∙◌}
use Rattle.std.specs.Prelude.{slice_index_or}
use Rattle.std.proofs.lemmas.Result.{err_from_is_err_and}
use Rattle.scan_spelling.specs.Places.{place_of}
use Rattle.scan_splits.specs.Runs.{start_of}
use Rattle.scan_plans.specs.Came.{came}
use Rattle.scan_plans.proofs.LeafWalk.{want_start, want_part, want_past, starts_in_time, next_in_order}
use Rattle.scan_plans.proofs.Collecting.{keeps_start, keeps_next, keeps_end, keeps_fault, past_start}
use Rattle.scan_plans.proofs.leaf.collect_leaf.Goals as goal

pub loop-k-init : goal.loop-k-init
loop-k-init c = λ d s. keeps_start c.args.wants.now _ _ (came c.args.inbox.now) (want_start d s c.args.runs.now c.args.first c.args.bits.now c.first_at-k.result (starts_in_time c.args.runs.now c.args.first c.first_at-k.result c.first_at-k.ensures.before))

pub returns-then-ends_before : goal.returns-then-ends_before
returns-then-ends_before c = λ d s.
    let gs = c.args.runs.now in
    keeps_end c.args.wants.now c.loop-k.wants _ _ (came c.args.inbox.now) (tt {0})
    (want_past d s gs c.args.first c.args.bits.now c.loop-k.k (past_start c.args.first (length c.args.bits.now) c.start-start.result (start_of gs c.loop-k.k) (sym c.ends_before.ensures ∙ c.if-ends_before.true) c.start-start.ensures)) (c.loop-k.invariant d s)

pub part_of-part-requires : goal.part_of-part-requires
part_of-part-requires c =
    let within : c.loop-k.k < length c.args.runs.now = omega (arith, c.loop-k-test.true, c.len-k-end.ensures) in
    let up = next_in_order c.args.runs.now c.loop-k.k within in
    omega (arith, up, c.start-start.ensures, c.end.ensures)

pub returns-in_err-look_under : goal.returns-in_err-look_under
returns-in_err-look_under c = λ d s.
    let gs = c.args.runs.now in
    let within : c.loop-k.k < length c.args.runs.now = omega (arith, c.loop-k-test.true, c.len-k-end.ensures) in
    let p = err_from_is_err_and c.from_residual.result c.from_residual.ensures.1 in
    let q = place_of d s (slice_index_or gs c.loop-k.k (0, 0)) in
    rw (p.1, p.2) (keeps_fault (Unit {0}) (Unit {0}) c.args.wants.now c.loop-k.wants c.look_under.new.wants c.look_under.new.wants _ _ _ _ (came c.args.inbox.now) c.in_err-look_under.field-0.0
    (want_part d s gs c.args.first c.args.bits.now c.loop-k.k (0, 0) c.part_of-part.result.now c.start-start.result c.end.result within c.start-start.ensures c.end.ensures c.part_of-part.ensures) (c.loop-k.invariant d s) (c.in_err-look_under.ensures q (sym c.id.ensures)))

pub loop-k-preserved : goal.loop-k-preserved
loop-k-preserved c = λ d s.
    let gs = c.args.runs.now in
    let within : c.loop-k.k < length c.args.runs.now = omega (arith, c.loop-k-test.true, c.len-k-end.ensures) in
    let q = place_of d s (slice_index_or gs c.loop-k.k (0, 0)) in
    keeps_next c.args.wants.now c.loop-k.wants c.look_under.new.wants _ _ _ _ (came c.args.inbox.now) (tt {0})
    (want_part d s gs c.args.first c.args.bits.now c.loop-k.k (0, 0) c.part_of-part.result.now c.start-start.result c.end.result within c.start-start.ensures c.end.ensures c.part_of-part.ensures) (c.loop-k.invariant d s) (c.in_ok-look_under.ensures q (sym c.id.ensures))
