use Rattle.std.proofs.Common.{◌≡◌, sym, ap, ◌∙◌, unwrap_or, true}
use Rattle.std.proofs.lemmas.Result.{IfOk-weaker}
use Rattle.scan_lines.specs.Heads.{head_texts}
use Rattle.scan_lines.proofs.Heading.{texts_struct}
use Rattle.scan_lines.proofs.heads.texts_in.Goals as goal

pub returns-in-Some : goal.returns-in-Some
returns-in-Some c = IfOk-weaker c.texts_of.result _ _ (λ v h. texts_struct c.args.dtype.now c.in-Some.fields.now v.items c.in-Some.ensures (h ∙ ap (head_texts true) c.names.ensures)) c.texts_of.ensures
