use Rattle.std.proofs.Common.{◌≡◌, ap, ◌∙◌, Some, nat_eq, cond}
use Rattle.scan_sharing.specs.Holding.{Holding}
use Rattle.scan_sharing.specs.Sharing.{entry_at}
use Rattle.scan_widened.specs.declared.stage.Stage.TheVariants as stage
use Rattle.scan_widened.specs.Sources.{stage_at}
use Rattle.scan_widened.proofs.Tied.{joins, set_twice, asks_keep}
use Rattle.scan_widened.proofs.source.begin.Goals as goal

pub returns-in-Ok-clause-tied : goal.returns-in-Ok-clause-tied
returns-in-Ok-clause-tied g c = λ behind own tied.
    let h : Holding = record { id = c.args.inner; number = c.in-Ok.holder.number } in
    let same : c.in-Ok.holder ≡ h = λ i. record { id = c.in-Ok.ensures.step.0 i; number = c.in-Ok.holder.number } in
    let keeps = asks_keep (entry_at c.args.table.now c.args.inner) c.args.inner (g.S.SegmentSource.state c.args.source.now) (g.S.SegmentSource.state c.request.new.source) c.in-Ok.ensures.asked in
    let twice = set_twice c.args.id (Some (stage.Held c.in-Ok.holder)) (Some stage.Made) c.args.stages.now.entries c.add_stage.new.stages.entries c.set_stage.new.stages.entries c.in_ok-add_stage.ensures.ok c.set_stage.ensures in
    joins (g.S.SegmentSource.state c.args.source.now) (g.S.SegmentSource.state c.request.new.source) c.args.before behind c.args.table.now c.request.new.self c.args.stages.now.entries c.set_stage.new.stages.entries
    c.args.id h tied c.requires.fresh c.in-Ok.ensures.step.1 c.in-Ok.ensures.fresh own (λ q. twice q ∙ ap (λ (x : Holding). cond (nat_eq c.args.id q) (Some (stage.Held x)) (stage_at c.args.stages.now.entries q)) same)
    c.request.ensures.agree keeps.holds keeps.faults keeps.can_fail
