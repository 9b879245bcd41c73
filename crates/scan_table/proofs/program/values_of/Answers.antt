use Rattle.std.proofs.Common.{List, ap, ◌∙◌}
use Rattle.scan_values.specs.Val.{Val, struct_val, vals_of}
use Rattle.scan_table.proofs.Lines.{both_values}
use Rattle.scan_table.proofs.program.values_of.Goals as goal

pub returns : goal.returns
returns c =
    let made = both_values c.args.group.key c.args.group.measures c.into_vec-values.result.items c.into_vec-measured.result.items c.append.new.self.items c.in_ok-append.ensures.items c.into_vec-values.ensures c.into_vec-measured.ensures in
    ap (λ (vs : List Val). struct_val (vals_of vs)) (c.new.ensures ∙ made)
