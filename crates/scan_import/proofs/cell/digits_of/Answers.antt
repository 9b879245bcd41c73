use Rattle.std.proofs.Common.{◌≡◌, sym, ap, ◌∙◌, rules}
use mir.Val.{of_z, to_z}
use mir.Syntax.{w128}
use Rattle.std.specs.Prelude.{option_and_then}
use Rattle.scan_import.specs.Meaning.{int_in}
use Rattle.scan_import.proofs.Numerals.{number_none, number_some}
use Rattle.scan_import.proofs.cell.digits_of.Goals as goal

pub returns-in-Ok : goal.returns-in-Ok
returns-in-Ok c =
    let parsed = c.in-Ok.ensures.value.0 in
    let back : to_z w128 (of_z w128 c.in-Ok.number) ≡ c.in-Ok.number = search rules in
    c.integer_of.ensures ∙ (ap (int_in c.args.dtype.now) back ∙ ap (option_and_then (int_in c.args.dtype.now)) (sym (number_some c.args.cell.now c.in-Ok.number parsed.0.0 parsed.1)))

pub returns-in-Err : goal.returns-in-Err
returns-in-Err c = number_none c.args.dtype.now c.args.cell.now c.in-Err.ensures.value.0
