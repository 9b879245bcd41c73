use Rattle.std.proofs.Common.{sym, ap, ◌∙◌, Some}
use Rattle.scan_widened.proofs.Tied.{dropped, unmade, unstaged, rests_of}
use Rattle.scan_widened.proofs.source.end.Goals as goal

pub drop_holder-requires-clause-held : goal.drop_holder-requires-clause-held
drop_holder-requires-clause-held g c = c.requires.held c.args.id c.in-Some-Held.holder (sym c.remove.ensures.value ∙ c.in-Some-Held.is ∙ ap Some c.in-Some-Held.field-0-is)

pub returns-in-Some-Held-clause-tied : goal.returns-in-Some-Held-clause-tied
returns-in-Some-Held-clause-tied g c = λ behind tied.
    let rests = rests_of c.in-Some-Held.holder.id (g.S.SegmentSource.state c.args.source.now) (g.S.SegmentSource.state c.drop_holder.new.source) c.drop_holder.ensures.source in
    dropped (g.S.SegmentSource.state c.args.source.now) (g.S.SegmentSource.state c.drop_holder.new.source) c.args.before behind c.args.table.now c.drop_holder.new.self c.args.stages.now.entries c.remove.new.self.entries
    c.args.id c.in-Some-Held.holder tied (sym c.remove.ensures.value ∙ c.in-Some-Held.is ∙ ap Some c.in-Some-Held.field-0-is) c.drop_holder.ensures.step c.remove.ensures.updates.0 c.drop_holder.ensures.agree rests.holds rests.faults rests.can_fail

pub returns-in-Some-Held-clause-live : goal.returns-in-Some-Held-clause-live
returns-in-Some-Held-clause-live g c = unstaged c.args.id c.args.stages.now.entries c.remove.new.self.entries c.remove.ensures.updates.0

pub returns-in-Some-Made-clause-tied : goal.returns-in-Some-Made-clause-tied
returns-in-Some-Made-clause-tied g c = λ behind tied.
    unmade (g.S.SegmentSource.state c.args.source.now) c.args.before behind c.args.table.now c.args.stages.now.entries c.remove.new.self.entries c.args.id tied (sym c.remove.ensures.value ∙ c.in-Some-Made.is ∙ ap Some c.in-Some-Made.field-0-is) c.remove.ensures.updates.0

pub returns-in-Some-Made-clause-live : goal.returns-in-Some-Made-clause-live
returns-in-Some-Made-clause-live g c = unstaged c.args.id c.args.stages.now.entries c.remove.new.self.entries c.remove.ensures.updates.0
