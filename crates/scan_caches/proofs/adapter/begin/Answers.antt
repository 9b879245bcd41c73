use Rattle.std.proofs.Common.{false, Some, None, refl, ap, ◌∙◌, inl, inr}
use Rattle.scan_caches.specs.declared.adapter.Stage.TheVariants as stage
use Rattle.scan_caches.specs.declared.adapter.Looked.TheVariants as looked
use Rattle.scan_caches.specs.Adapter.{stage_at, has_stage}
use Rattle.scan_caches.proofs.Links.{relinked, live_same, set_twice, set_here, idle, always_err, no_memory_live, passed}
use Rattle.scan_caches.proofs.adapter.begin.Goals as goal

pub look-requires : goal.look-requires
look-requires g c =
    let i = idle c.args.id (g.S.SegmentSource.state c.args.source.now).live c.args.stages.now.entries c.requires.linked c.requires.fresh in
    i.1

pub returns-in-Pending-clause-linked : goal.returns-in-Pending-clause-linked
returns-in-Pending-clause-linked g c =
    let i = idle c.args.id (g.S.SegmentSource.state c.args.source.now).live c.args.stages.now.entries c.requires.linked c.requires.fresh in
    relinked c.args.id (Some stage.Looking) _ _ c.args.stages.now.entries _ c.requires.linked (λ q. ap (λ t. (g.S.SegmentSource.state t).live q) c.in-Pending.ensures.1 ∙ live_same c.args.id (g.S.SegmentSource.state c.args.source.now).live false i.1 q) c.in_ok-add_stage.ensures.ok

pub returns-in-Hit-clause-linked : goal.returns-in-Hit-clause-linked
returns-in-Hit-clause-linked g c =
    let i = idle c.args.id (g.S.SegmentSource.state c.args.source.now).live c.args.stages.now.entries c.requires.linked c.requires.fresh in
    relinked c.args.id (Some (stage.Found c.in-Hit.bytes)) _ _ c.args.stages.now.entries _ c.requires.linked (λ q. ap (λ t. (g.S.SegmentSource.state t).live q) c.in-Hit.ensures.1 ∙ live_same c.args.id (g.S.SegmentSource.state c.args.source.now).live false i.1 q)
    (set_twice c.args.id (Some (stage.Found c.in-Hit.bytes)) (Some stage.Looking) c.args.stages.now.entries _ _ c.in_ok-add_stage.ensures.ok c.set_stage.ensures.stages)

pub returns-in-Hit-clause-looks : goal.returns-in-Hit-clause-looks
returns-in-Hit-clause-looks g c = inl (record { way = looked.Hit c.in-Hit.bytes; looks = c.in-Hit.ensures; stage = set_here c.args.id (Some (stage.Found c.in-Hit.bytes)) _ _ c.set_stage.ensures.stages })

pub returns-in-Asked-clause-looks : goal.returns-in-Asked-clause-looks
returns-in-Asked-clause-looks g c = inl (record { way = looked.Asked; looks = c.in-Asked.ensures; stage = set_here c.args.id (Some stage.Asked) _ _ c.set_stage-in-Asked.ensures.stages })

pub returns-in-NoMemory-clause-linked : goal.returns-in-NoMemory-clause-linked
returns-in-NoMemory-clause-linked g c =
    let i = idle c.args.id (g.S.SegmentSource.state c.args.source.now).live c.args.stages.now.entries c.requires.linked c.requires.fresh in
    relinked c.args.id None _ _ c.args.stages.now.entries _ c.requires.linked
    (λ q. ap (λ l. l q) (no_memory_live g.C.SegmentCache.cache g.C.SegmentCache.gets g.S.SegmentSource.state c.args.id _ _ _ _ c.in-NoMemory.ensures) ∙ live_same c.args.id (g.S.SegmentSource.state c.args.source.now).live false i.1 q)
    (set_twice c.args.id None (Some stage.Looking) c.args.stages.now.entries _ _ c.in_ok-add_stage.ensures.ok c.end.ensures.stages)

pub returns-in-NoMemory-clause-err : goal.returns-in-NoMemory-clause-err
returns-in-NoMemory-clause-err g c = passed c.args.id (has_stage c.args.stages.now.entries) _ _ c.requires.fresh c.in_ok-add_stage.ensures.live c.end.ensures.live

pub returns-in-NoMemory-clause-looks : goal.returns-in-NoMemory-clause-looks
returns-in-NoMemory-clause-looks g c = inl (record { way = looked.NoMemory; looks = c.in-NoMemory.ensures; stage = set_here c.args.id None _ _ c.end.ensures.stages })

pub returns-in_err-add_stage-clause-looks : goal.returns-in_err-add_stage-clause-looks
returns-in_err-add_stage-clause-looks g c =
    let i = idle c.args.id (g.S.SegmentSource.state c.args.source.now).live c.args.stages.now.entries c.requires.linked c.requires.fresh in
    inr (refl, refl, ap (λ es. stage_at es c.args.id) c.in_err-add_stage.ensures.err ∙ i.0)

pub returns-in_err-add_stage-clause-refused : goal.returns-in_err-add_stage-clause-refused
returns-in_err-add_stage-clause-refused g c =
    let i = idle c.args.id (g.S.SegmentSource.state c.args.source.now).live c.args.stages.now.entries c.requires.linked c.requires.fresh in
    always_err c.from_residual.result _ (ap (λ es. stage_at es c.args.id) c.in_err-add_stage.ensures.err ∙ i.0)
