use Rattle.std.proofs.Common.{subst, sym}
use Rattle.scan_widened.specs.Sources.{IsToldOver}
use Rattle.scan_widened.proofs.source.poll_stage.Goals as goal

pub returns-in-Some-clause-told : goal.returns-in-Some-clause-told
returns-in-Some-clause-told g c = λ all least tied.
    subst (λ o. IsToldOver (g.S.SegmentSource.state c.poll_over.new.source) c.args.before o c.poll_over.result) (sym c.in-Some.is) (c.poll_over.ensures.told all least tied)
