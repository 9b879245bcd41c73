use Rattle.std.proofs.Common.{sym, ◌∙◌}
use Rattle.scan_table.proofs.Parsing.{form_of, have_keys-keys}
use Rattle.scan_table.proofs.reading.has_job_form.Goals as goal

pub returns-in-Some : goal.returns-in-Some
returns-in-Some c = c.has_job_keys.ensures ∙ sym (have_keys-keys c.in-Some.map.now.entries) ∙ sym (form_of _ _ c.in-Some.ensures)
