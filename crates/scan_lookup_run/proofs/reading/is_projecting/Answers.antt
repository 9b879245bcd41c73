use Rattle.std.proofs.Common.{sym, ◌∙◌}
use Rattle.scan_lookup_run.specs.Jobs.{is_projection_key}
use Rattle.scan_lookup_run.proofs.Parsing.{have_only-keys, only_of}
use Rattle.scan_lookup_run.proofs.reading.is_projecting.Goals as goal

pub returns-in-Some : goal.returns-in-Some
returns-in-Some c = c.has_projection_keys.ensures ∙ sym (have_only-keys is_projection_key c.in-Some.map.now.entries) ∙ sym (only_of is_projection_key _ _ c.in-Some.ensures)
