use Rattle.std.proofs.Common.{ap, ◌∙◌}
use Rattle.scan_expr.specs.Expr.{root}
use Rattle.scan_conditions.specs.Written.{joined_names, nested}
use Rattle.scan_conditions.proofs.selection.selected_at.Goals as goal

pub returns : goal.returns
returns c =
    let p = c.in_ok-names.ensures in record {
      path = p.path;
      from = p.from;
      fields = p.fields;
      name = c.in_ok-name.ensures ∙ ap joined_names (c.as_slice.ensures.value ∙ p.are);
      is = c.in_ok-field.ensures ∙ ap (nested root) (c.as_slice-2.ensures.value ∙ p.are);
    }
