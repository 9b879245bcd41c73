use Rattle.std.proofs.Common.{◌≡◌, ◌∙◌, ap, arith, filter}
use Rattle.std.proofs.lemmas.List.Sorted.{IsNonDecreasingBy-drop}
use Rattle.scan_layout.specs.Edges.{segment_ends, is_inside}
use Rattle.scan_splits.proofs.Runs.{in_ends, ends_do_rise, ends_before}
use Rattle.scan_splits.proofs.Inside.{rows_from}
use Rattle.scan_splits.proofs.segment_runs.SegmentRuns.ends_past.Goals as goal

pub rows_from-requires : goal.rows_from-requires
rows_from-requires c =
    let same : c.deref.result.now ≡ segment_ends 0 c.args.self.now = c.deref.ensures.value ∙ c.self.invariant.ends ∙ ap (segment_ends 0) c.self.view_is in
    omega (arith, in_ends c.args.self.now c.deref.result.now same, c.first_at-first.ensures.within)

pub returns-clause-rise : goal.returns-clause-rise
returns-clause-rise c =
    let same : c.deref.result.now ≡ segment_ends 0 c.args.self.now = c.deref.ensures.value ∙ c.self.invariant.ends ∙ ap (segment_ends 0) c.self.view_is in
    rw c.rows_from.ensures (IsNonDecreasingBy-drop (λ x. x) c.first_at-first.result c.deref.result.now (ends_do_rise c.args.self.now c.deref.result.now same))

pub returns-clause-ends : goal.returns-clause-ends
returns-clause-ends c =
    let same : c.deref.result.now ≡ segment_ends 0 c.args.self.now = c.deref.ensures.value ∙ c.self.invariant.ends ∙ ap (segment_ends 0) c.self.view_is in
    λ hi. ap (filter (is_inside c.args.row hi)) c.rows_from.ensures
    ∙ rows_from c.args.row hi c.deref.result.now c.first_at-first.result (ends_before c.args.self.now c.deref.result.now c.args.row c.first_at-first.result same c.first_at-first.ensures.before)
    ∙ ap (filter (is_inside c.args.row hi)) same
