use Rattle.std.proofs.Common.{rules, ◌<◌, ◌^◌, ◌∙◌, ap, subst, slice_get}
use Rattle.scan_segments.specs.Polled.{IsPolled}
use Rattle.scan_widened.specs.Identity.{union_state}
use Rattle.scan_widened.specs.Sources.{has_stage, state_of, IsToldOver}
use Rattle.scan_widened.proofs.Asking.{parts}
use Rattle.scan_widened.proofs.Polling.{polled_so, polled_union}
use Rattle.scan_widened.proofs.source.UnionSourceSegmentSource.poll_segment.Goals as goal

pub settle-requires-clause-agree : goal.settle-requires-clause-agree
settle-requires-clause-agree g c = (c.poll_stage-polled.ensures.tied c.self.inside.behind.items c.self.invariant.union.least c.self.invariant.tied).agree

pub settle-requires-clause-held : goal.settle-requires-clause-held
settle-requires-clause-held g c = (c.poll_stage-polled.ensures.tied c.self.inside.behind.items c.self.invariant.union.least c.self.invariant.tied).held

pub invariant_of-self : goal.invariant_of-self
invariant_of-self g c =
    let state = g.S.SegmentSource.state in
    let u = c.self.inside in
    let behind = c.self.inside.behind.items in
    let s1 = state c.poll_stage-polled.new.source in
    let r = c.poll_stage-polled.result in
    let least = c.self.invariant.union.least in
    let over = subst (λ o. IsToldOver s1 u.before o r) (c.behind_at-behind.ensures ∙ ap (λ xs. slice_get xs c.args.id) c.deref.ensures.value) (c.poll_stage-polled.ensures.told behind least c.self.invariant.tied) in
    let small : c.args.id < 2 ^ 32 = search rules in
    let bound : u.faults < 2 ^ 64 = search rules in
    record {
      tied = c.settle.ensures.tied behind (c.poll_stage-polled.ensures.tied behind least c.self.invariant.tied);
      union = polled_union (λ id bytes. Unit {0}) (state u.inner) s1 (state c.settle.new.source) u.before behind u.asked.items u.inner_asked.items (has_stage u.stages.entries) (has_stage c.settle.new.stages.entries)
          u.faults c.count_failed-self-inside.result c.args.id r c.self.invariant.union c.poll_stage-polled.ensures.rests c.settle.ensures.rests over c.poll_stage-polled.ensures.pending c.settle.ensures.live
          c.count_failed-self-inside.ensures small bound (λ bytes. tt);
      readable = c.self.invariant.readable;
    }

pub returns-clause-polled : goal.returns-clause-polled
returns-clause-polled g c =
    let state = g.S.SegmentSource.state in
    let u = c.self.inside in
    let behind = c.self.inside.behind.items in
    let s1 = state c.poll_stage-polled.new.source in
    let r = c.poll_stage-polled.result in
    let least = c.self.invariant.union.least in
    let over = subst (λ o. IsToldOver s1 u.before o r) (c.behind_at-behind.ensures ∙ ap (λ xs. slice_get xs c.args.id) c.deref.ensures.value) (c.poll_stage-polled.ensures.told behind least c.self.invariant.tied) in
    let small : c.args.id < 2 ^ 32 = search rules in
    let bound : u.faults < 2 ^ 64 = search rules in
    subst (λ v. IsPolled (λ id bytes. Unit {0}) c.args.id (state_of state v)
    (union_state (parts (state c.settle.new.source) u.before behind u.asked.items u.inner_asked.items (has_stage c.settle.new.stages.entries) c.count_failed-self-inside.result)) r) c.self.view_is
    (polled_so (λ id bytes. Unit {0}) (state u.inner) s1 (state c.settle.new.source) u.before behind u.asked.items u.inner_asked.items (has_stage u.stages.entries) (has_stage c.settle.new.stages.entries)
    u.faults c.count_failed-self-inside.result c.args.id r c.self.invariant.union c.poll_stage-polled.ensures.rests c.settle.ensures.rests over c.poll_stage-polled.ensures.pending c.settle.ensures.live
    c.count_failed-self-inside.ensures small bound (λ bytes. tt))
