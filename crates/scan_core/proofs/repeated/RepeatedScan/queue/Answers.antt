use Rattle.std.proofs.Common.{ap, subst, sym, ◌≡◌, ◌≤◌, ◌∙◌, map, rules, arith}
use Rattle.scan_expr.specs.Infer.{infer}
use Rattle.scan_plans.specs.Meaning.{plan_dtype}
use Rattle.scan_streams.specs.Plans.{PlansData, ReachTo}
use Rattle.scan_streams.specs.Queues.{AreWithin}
use Rattle.scan_streams.specs.Splits.{AllOf, new_split, reach}
use Rattle.scan_core.specs.RowRanges.{AreForward, AreRanges, most_in}
use Rattle.scan_core.specs.ScanData.{IsScan, scan_ranges}
use Rattle.scan_core.specs.Streaming.{limit_before, scan_dtype, streamed}
use Rattle.scan_core.proofs.Streaming.{forward, stream_within, stream_dtype, stream_reach}
use Rattle.scan_core.proofs.repeated.RepeatedScan.queue.Goals as goal

pub rows_within-requires : goal.rows_within-requires
rows_within-requires g c = subst AreForward (sym c.deref-2.ensures.value) (forward c.args.self.now.rows c.in_ok-ranges.ranges.items c.in_ok-ranges.ensures.within)

pub new-requires : goal.new-requires
new-requires g c =
    let n = c.args.self.now.rows in
    let p = c.in_ok-plans.plans.value in
    let i = subst (AreRanges n) (sym c.deref-2.ensures.value) c.in_ok-ranges.ensures.within in
    let own = subst (λ k. ReachTo k c.self.inside.plans.value) (ap (λ s. s.rows) c.self.view_is) c.self.invariant.plans in
    let q : ReachTo n p = subst (ReachTo n) (sym c.in_ok-plans.ensures.cases) own in
    subst (AreWithin p) (sym c.in_ok-rows.ensures.rows) (stream_within p n c.deref.result.now c.limit_before-limit.result c.deref-2.result.now c.in_ok-rows.ensures.rises q i)

pub returns-clause-dtype : goal.returns-clause-dtype
returns-clause-dtype g c =
    let p = c.in_ok-plans.plans.value in
    let d = scan_dtype c.args.self.now in
    let mine : p ≡ c.args.self.now.plans = c.in_ok-plans.ensures.cases ∙ ap (λ s. s.plans) c.self.view_is in
    let same : c.deref-3.result.now ≡ c.args.self.now.plans = c.deref-3.ensures ∙ mine in
    let typed = subst (λ (a : PlansData). plan_dtype (a.projection).tree ≡ infer ((a.projection).expr).scope ((a.projection).expr).expr) same c.dtype.ensures.plan in
    let e : plan_dtype (p.projection).tree ≡ d = ap (λ (a : PlansData). plan_dtype (a.projection).tree) mine ∙ typed in
    subst (λ z. AllOf d (map new_split z)) (sym c.new.ensures) (stream_dtype p c.in_ok-selection.selection.value d c.in_ok-rows.rows.items e)

pub returns-clause-reach : goal.returns-clause-reach
returns-clause-reach g c =
    let s = c.args.self.now in
    let is : c.new.result ≡ streamed s c.args.row_range = search rules in
    let scan : IsScan s = subst IsScan c.self.view_is c.self.invariant in
    let i : AreRanges s.rows (scan_ranges s c.args.row_range) = subst (AreRanges s.rows) c.in_ok-ranges.ensures.ranges c.in_ok-ranges.ensures.within in
    subst (λ z. reach (map new_split z) ≤ most_in c.args.row_range s.rows) (sym is) (stream_reach s c.args.row_range s.selection (limit_before s) scan i)
