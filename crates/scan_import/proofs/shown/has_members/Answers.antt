use Rattle.std.proofs.Common.{map, sym, ap, ◌∙◌}
use Rattle.std.specs.List.{list_all}
use Rattle.serde_json.specs.View.{view}
use Rattle.scan_values.specs.DataType.{fields_of}
use Rattle.scan_values.specs.FieldLists.{names_of}
use Rattle.scan_import.specs.Meaning.{is_object_of}
use Rattle.scan_import.proofs.Jsons.{all_viewed, fields_listed}
use Rattle.scan_import.proofs.shown.has_members.Goals as goal

pub returns-in-Some : goal.returns-in-Some
returns-in-Some c = λ e.
    let fs = c.in-Some.fields.now in
    let rows = c.args.rows.now in
    record {
      fields = fields_of fs;
      is = sym c.in-Some.ensures;
      named =
          ap (λ gs. list_all (is_object_of (names_of gs)) (map (λ r. view r.1) rows)) (fields_listed fs)
          ∙ (all_viewed (is_object_of (names_of fs)) (λ r. view r.1) rows ∙ (sym c.have_fields.ensures ∙ e));
    }
