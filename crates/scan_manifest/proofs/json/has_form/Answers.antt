use Rattle.std.proofs.Common.{sym, ◌∙◌}
use Rattle.scan_manifest.proofs.Lists.{form_of, has_keys-keys}
use Rattle.scan_manifest.proofs.json.has_form.Goals as goal

pub returns-in-Some : goal.returns-in-Some
returns-in-Some c = c.has_keys.ensures ∙ sym (has_keys-keys c.args.form c.in-Some.map.now.entries) ∙ sym (form_of c.args.form _ _ c.in-Some.ensures)
