use Rattle.std.proofs.Common.{sym, ◌∙◌}
use Rattle.scan_disk.proofs.JsonValues.{footer_form_of, has_footer_keys-keys}
use Rattle.scan_disk.proofs.footer.is_footer_form.Goals as goal

pub returns-in-Some : goal.returns-in-Some
returns-in-Some c = c.has_footer_keys.ensures ∙ sym (has_footer_keys-keys c.in-Some.map.now.entries) ∙ sym (footer_form_of _ _ c.in-Some.ensures)
