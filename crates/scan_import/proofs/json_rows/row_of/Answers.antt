use Rattle.std.proofs.Common.{Some, ap, sym, ◌∙◌}
use Rattle.serde_json.specs.View.{view}
use Rattle.scan_values.specs.Val.{struct_val, vals_of}
use Rattle.scan_import.specs.Meaning.{most_levels, value_within}
use Rattle.scan_import.proofs.Jsons.{row_meant}
use Rattle.scan_import.proofs.json_rows.row_of.Goals as goal

pub returns-in-Ok : goal.returns-in-Ok
returns-in-Ok c =
    sym (ap (λ vs. Some (struct_val (vals_of vs))) c.new.ensures
    ∙ row_meant (value_within most_levels) c.args.fields.now (view c.args.json.now) c.in-Ok.values.items (sym c.has_fields.ensures ∙ c.if-not-has_fields.false) c.in-Ok.ensures)
