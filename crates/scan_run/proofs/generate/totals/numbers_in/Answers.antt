use Rattle.std.proofs.Common.{sym, ap, ◌∙◌}
use Rattle.std.proofs.lemmas.Option.{IfSome_then}
use Rattle.scan_columns.specs.Cells.{vals_in}
use Rattle.scan_run.proofs.Adding.{two_fields}
use Rattle.scan_run.proofs.generate.totals.numbers_in.Goals as goal

pub returns-in-Some-len2-up : goal.returns-in-Some-len2-up
returns-in-Some-len2-up c = IfSome_then c.both_numbers.result c.both_numbers.ensures (λ p h.
    two_fields c.in-Structs.structs c.args.values.now.items c.in-Some-len2-up.field-0.now c.ids-item.result c.lengths-item.result p.0.now p.1.now c.in-Some-len2-up.len_at_least c.ids-item.is c.lengths-item.is
    (sym c.cells.ensures ∙ ap vals_in c.in-Structs.is) c.in-Some-len2-up.ensures h.0 h.1)
