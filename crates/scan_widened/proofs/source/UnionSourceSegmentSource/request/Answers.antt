use Rattle.std.proofs.Common.{rules, ◌≡◌, ◌∙◌, ◌++◌, ◌∷◌, [], None, Some, is_some, refl, subst, sym, ap}
use Rattle.scan_segments.specs.Source.{Begins}
use Rattle.scan_sharing.specs.Sharing.{entry_at}
use Rattle.scan_widened.specs.declared.stage.Stage.TheVariants as stage
use Rattle.scan_widened.specs.Follows.{IsUnion}
use Rattle.scan_widened.specs.Identity.{inner_of, union_state}
use Rattle.scan_widened.specs.Sources.{has_stage, noted, stage_at, state_of}
use Rattle.scan_widened.proofs.Asking.{parts, refused, asked_by, asked_made, was_asked}
use Rattle.scan_widened.proofs.Tied.{made, staged}
use Rattle.scan_widened.proofs.source.UnionSourceSegmentSource.request.Goals as goal

pub invariant_of-self-in_err-begin-in-Some : goal.invariant_of-self-in_err-begin-in-Some
invariant_of-self-in_err-begin-in-Some g c =
    let state = g.S.SegmentSource.state in
    let u = c.self.inside in
    let behind = c.self.inside.behind.items in
    let own : inner_of behind c.args.id ≡ Some c.in-Some.inner = sym (c.in-Some.ensures ∙ ap (λ xs. inner_of xs c.args.id) c.deref.ensures.value) in
    let live = has_stage c.begin.new.stages.entries in
    let s = state c.begin.new.source in
    let back = refused (state u.inner) s u.before behind u.asked.items u.inner_asked.items (has_stage u.stages.entries) live u.faults c.self.invariant.union c.in_err-begin-in-Some.ensures.err c.in_err-begin-in-Some.ensures.refused in
    record {
      tied = c.begin.ensures.tied behind own c.self.invariant.tied;
      union = subst (λ xs. IsUnion (parts s u.before behind xs c.reserve-2.new.self.items live u.faults)) (sym c.reserve.ensures.items)
          (subst (λ ys. IsUnion (parts s u.before behind u.asked.items ys live u.faults)) (sym c.reserve-2.ensures.items) back.union);
      readable = c.self.invariant.readable;
    }

pub invariant_of-self-in-Some : goal.invariant_of-self-in-Some
invariant_of-self-in-Some g c =
    let state = g.S.SegmentSource.state in
    let u = c.self.inside in
    let behind = c.self.inside.behind.items in
    let i = c.in-Some.inner in
    let own : inner_of behind c.args.id ≡ Some i = sym (c.in-Some.ensures ∙ ap (λ xs. inner_of xs c.args.id) c.deref.ensures.value) in
    let live = has_stage c.begin.new.stages.entries in
    let s = state c.begin.new.source in
    let held = was_asked (state u.inner) u.before behind u.table u.stages.entries u.asked.items u.inner_asked.items u.faults i c.self.invariant.tied c.self.invariant.union in
    let one = asked_by (state u.inner) s u.before behind u.asked.items u.inner_asked.items (has_stage u.stages.entries) live u.faults c.args.id c.self.invariant.union c.in_ok-begin-in-Some.ensures.live
    (entry_at u.table i) i own held c.in_ok-begin-in-Some.ensures.asks in
    let all : c.push_reserved.new.self.items ≡ u.asked.items ++ c.args.id ∷ [] = c.push_reserved.ensures.items ∙ ap (λ xs. xs ++ c.args.id ∷ []) c.reserve.ensures.items in
    let inner : c.note.new.inner_asked.items ≡ noted (is_some (entry_at u.table i)) u.inner_asked.items i = c.note.ensures ∙ (λ k. noted (c.contains-shared.ensures k) (c.reserve-2.ensures.items k) i) in
    record {
      tied = c.begin.ensures.tied behind own c.self.invariant.tied;
      union = subst (λ xs. IsUnion (parts s u.before behind xs c.note.new.inner_asked.items live u.faults)) (sym all)
          (subst (λ ys. IsUnion (parts s u.before behind (u.asked.items ++ c.args.id ∷ []) ys live u.faults)) (sym inner) one.union);
      readable = c.self.invariant.readable;
    }

pub invariant_of-self-in-None : goal.invariant_of-self-in-None
invariant_of-self-in-None g c =
    let state = g.S.SegmentSource.state in
    let u = c.self.inside in
    let behind = c.self.inside.behind.items in
    let own : inner_of behind c.args.id ≡ None = sym (c.in-None.ensures ∙ ap (λ xs. inner_of xs c.args.id) c.deref.ensures.value) in
    let free : stage_at u.stages.entries c.args.id ≡ None = search rules in
    let live = has_stage c.add_stage.new.stages.entries in
    let s = state u.inner in
    let put = c.in_ok-add_stage-in-None.ensures.ok in
    let one = asked_made s s u.before behind u.asked.items u.inner_asked.items (has_stage u.stages.entries) live u.faults c.args.id c.self.invariant.union
    (staged c.args.id stage.Made u.stages.entries c.add_stage.new.stages.entries put) own refl in
    let all : c.push_reserved-in-None.new.self.items ≡ u.asked.items ++ c.args.id ∷ [] = c.push_reserved-in-None.ensures.items ∙ ap (λ xs. xs ++ c.args.id ∷ []) c.reserve.ensures.items in
    record {
      tied = made s u.before behind u.table u.stages.entries c.add_stage.new.stages.entries c.args.id c.self.invariant.tied free own put;
      union = subst (λ xs. IsUnion (parts s u.before behind xs c.reserve-2.new.self.items live u.faults)) (sym all)
          (subst (λ ys. IsUnion (parts s u.before behind (u.asked.items ++ c.args.id ∷ []) ys live u.faults)) (sym c.reserve-2.ensures.items) one.union);
      readable = c.self.invariant.readable;
    }

pub returns-in_ok-begin-in-Some-clause-ok : goal.returns-in_ok-begin-in-Some-clause-ok
returns-in_ok-begin-in-Some-clause-ok g c =
    let state = g.S.SegmentSource.state in
    let u = c.self.inside in
    let behind = c.self.inside.behind.items in
    let i = c.in-Some.inner in
    let own : inner_of behind c.args.id ≡ Some i = sym (c.in-Some.ensures ∙ ap (λ xs. inner_of xs c.args.id) c.deref.ensures.value) in
    let live = has_stage c.begin.new.stages.entries in
    let s = state c.begin.new.source in
    let held = was_asked (state u.inner) u.before behind u.table u.stages.entries u.asked.items u.inner_asked.items u.faults i c.self.invariant.tied c.self.invariant.union in
    let one = asked_by (state u.inner) s u.before behind u.asked.items u.inner_asked.items (has_stage u.stages.entries) live u.faults c.args.id c.self.invariant.union c.in_ok-begin-in-Some.ensures.live
    (entry_at u.table i) i own held c.in_ok-begin-in-Some.ensures.asks in
    let all : c.push_reserved.new.self.items ≡ u.asked.items ++ c.args.id ∷ [] = c.push_reserved.ensures.items ∙ ap (λ xs. xs ++ c.args.id ∷ []) c.reserve.ensures.items in
    let inner : c.note.new.inner_asked.items ≡ noted (is_some (entry_at u.table i)) u.inner_asked.items i = c.note.ensures ∙ (λ k. noted (c.contains-shared.ensures k) (c.reserve-2.ensures.items k) i) in
    subst (λ v. Begins c.args.id (state_of state v) (union_state (parts s u.before behind c.push_reserved.new.self.items c.note.new.inner_asked.items live u.faults))) c.self.view_is
    (subst (λ xs. Begins c.args.id (union_state (parts (state u.inner) u.before behind u.asked.items u.inner_asked.items (has_stage u.stages.entries) u.faults)) (union_state (parts s u.before behind xs c.note.new.inner_asked.items live u.faults))) (sym all)
    (subst (λ ys. Begins c.args.id (union_state (parts (state u.inner) u.before behind u.asked.items u.inner_asked.items (has_stage u.stages.entries) u.faults)) (union_state (parts s u.before behind (u.asked.items ++ c.args.id ∷ []) ys live u.faults))) (sym inner) one.state))
