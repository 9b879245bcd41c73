use Rattle.std.proofs.Common.{ap, ◌∙◌, inr}
use Rattle.scan_caches.specs.Adapter.{has_stage}
use Rattle.scan_caches.proofs.Links.{idle, always_err}
use Rattle.scan_caches.proofs.adapter.SegmentCacheSourceAdapterSegmentSource.request.Goals as goal

pub returns-in_err-reserve-clause-looks : goal.returns-in_err-reserve-clause-looks
returns-in_err-reserve-clause-looks g c =
    let none = idle c.args.id _ c.self.inside.stages.entries c.self.invariant (ap (λ a. has_stage a.stages c.args.id) c.self.view_is ∙ c.requires) in
    inr (ap (λ a. a.cache) c.self.view_is, ap (λ a. a.source) c.self.view_is, none.0)

pub returns-in_err-reserve-clause-refused : goal.returns-in_err-reserve-clause-refused
returns-in_err-reserve-clause-refused g c =
    let none = idle c.args.id _ c.self.inside.stages.entries c.self.invariant (ap (λ a. has_stage a.stages c.args.id) c.self.view_is ∙ c.requires) in
    always_err c.from_residual.result _ none.0
