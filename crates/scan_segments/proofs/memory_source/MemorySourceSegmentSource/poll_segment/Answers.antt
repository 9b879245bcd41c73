use Rattle.std.proofs.Common.{◌≡◌, sym, ap, ◌∙◌, Some, inl, arith}
use Rattle.scan_segments.specs.MemorySource.{MemoryState}
use Rattle.scan_segments.specs.Script.{ScriptState}
use Rattle.std.proofs.Math.Nat.{le_refl}
use Rattle.scan_segments.specs.contracts.memory_source.MemorySource.{the_view}
use Rattle.scan_segments.proofs.Lookups.{get-from_entries-lookup}
use Rattle.scan_segments.proofs.Moves.{ends, can_fail, stepped_over, answers-missing, answers-bytes}
use Rattle.scan_segments.proofs.memory_source.MemorySourceSegmentSource.poll_segment.Goals as goal

pub returns-in_default-clause-polled : goal.returns-in_default-clause-polled
returns-in_default-clause-polled c = rw (← c.self.view_is) (
  ends _ (the_view c.self.inside) _ c.step.new.self _ c.end-in_default.ensures.after c.end-in_default.ensures.live c.step.ensures.turns (ap (λ (t : ScriptState). t.failing) c.step.ensures.after) (le_refl _),
  get-from_entries-lookup _ _ ∙ sym c.in_default.ensures.value,
)

pub returns-in_default-clause-exact : goal.returns-in_default-clause-exact
returns-in_default-clause-exact c = rw (← c.self.view_is) (
  inl (answers-missing c.args.id (the_view c.self.inside) (sym c.step.ensures.outcome ∙ c.in-Goes.is)
      (get-from_entries-lookup _ _ ∙ sym c.in_default.ensures.value)),
  c.end-in_default.ensures.after ∙ stepped_over c.args.id (the_view c.self.inside) c.step.new.self c.step.ensures.after,
)

pub returns-clause-polled : goal.returns-clause-polled
returns-clause-polled c = rw (← c.self.view_is) (
  ends _ (the_view c.self.inside) _ c.step.new.self _ c.end-2.ensures.after c.end-2.ensures.live c.step.ensures.turns (ap (λ (t : ScriptState). t.failing) c.step.ensures.after) (le_refl _),
  get-from_entries-lookup _ _ ∙ (sym c.in-Some.ensures.value ∙ ap Some (sym c.in-Ok.ensures)),
  tt,
)

pub returns-clause-exact : goal.returns-clause-exact
returns-clause-exact c = rw (← c.self.view_is) (
  inl (answers-bytes c.args.id _ (the_view c.self.inside) (sym c.step.ensures.outcome ∙ c.in-Goes.is)
      (get-from_entries-lookup _ _ ∙ (sym c.in-Some.ensures.value ∙ ap Some (sym c.in-Ok.ensures)))),
  c.end-2.ensures.after ∙ stepped_over c.args.id (the_view c.self.inside) c.step.new.self c.step.ensures.after,
)

pub returns-in-Fails-clause-polled : goal.returns-in-Fails-clause-polled
returns-in-Fails-clause-polled c =
    let moved = c.self-in-Fails.view_is ∙ c.end.ensures.after in
    let same : c.self-in-Fails.inside.faults ≡ c.self.inside.faults = ap (λ (m : MemoryState). m.faults) moved in
    rw (← c.self.view_is) (
      ends c.args.id (the_view c.self.inside) _ c.step.new.self c.saturating_add-self-inside.result
          (ap (λ (m : MemoryState). record m { faults = c.saturating_add-self-inside.result }) moved) c.end.ensures.live c.step.ensures.turns
          (ap (λ (t : ScriptState). t.failing) c.step.ensures.after) (omega (arith, c.saturating_add-self-inside.ensures)),
      omega (arith, c.saturating_add-self-inside.ensures),
      can_fail (the_view c.self.inside).script (sym c.step.ensures.outcome ∙ c.in-Fails.is),
    )
