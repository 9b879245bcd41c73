use Rattle.std.proofs.Common.{sym, ap, ◌∙◌}
use Rattle.serde_json.specs.View.{view}
use Rattle.scan_import.specs.Meaning.{is_object_of}
use Rattle.scan_import.proofs.Jsons.{names_keys, object_named}
use Rattle.scan_import.proofs.json.has_fields.Goals as goal

pub returns-in-Some : goal.returns-in-Some
returns-in-Some c =
    let ns = c.names.result.now in
    c.are_names.ensures ∙ (sym (names_keys ns c.in-Some.members.now.entries) ∙ (sym (object_named ns (view c.args.json.now) _ c.in-Some.ensures) ∙ ap (λ ms. is_object_of ms (view c.args.json.now)) c.names.ensures))
