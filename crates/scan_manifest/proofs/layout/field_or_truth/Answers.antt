use Rattle.std.proofs.Common.{◌≡◌, IfOk, subst, ◌∙◌}
use Rattle.scan_manifest.proofs.Levels.{field_found, field_missing}
use Rattle.scan_manifest.proofs.layout.field_or_truth.Goals as goal

pub returns-in-Some : goal.returns-in-Some
returns-in-Some c = subst (λ t. IfOk c.try_clone.result (λ d. d ≡ t)) (field_found c.args.fields.now c.args.i c.in-Some.dtype.now c.in-Some.ensures) c.try_clone.ensures

pub returns-in-None : goal.returns-in-None
returns-in-None c = c.truth.ensures ∙ field_missing c.args.fields.now c.args.i c.in-None.ensures
