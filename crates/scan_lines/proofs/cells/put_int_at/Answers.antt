use Rattle.std.proofs.Common.{◌≡◌, rules, cond, subst}
use mir.Val.{to_z, of_z}
use mir.Syntax.{w128}
use Rattle.scan_columns.specs.Typed.{cell}
use Rattle.scan_values.specs.Val.{int_val, null_val}
use Rattle.scan_lines.specs.Line.{value_text}
use Rattle.scan_lines.specs.Writes.{Writes}
use Rattle.scan_lines.proofs.Celling.{cell_text}
use Rattle.scan_lines.proofs.cells.put_int_at.Goals as goal

pub returns : goal.returns
returns c = λ d.
    let back : to_z w128 (of_z w128 c.slot-number.result.0) ≡ c.slot-number.result.0 = search rules in
    let written : Writes (value_text (cond c.slot-number.result.1 (int_val c.slot-number.result.0) null_val) d) c.args.at c.args.buf.now c.put_int_slot.new.buf c.put_int_slot.result = rw (← back) (c.put_int_slot.ensures d) in
    subst (λ text. Writes text c.args.at c.args.buf.now c.put_int_slot.new.buf c.put_int_slot.result) (cell_text c.args.ints.now c.args.i (cell int_val c.slot-number.result) d c.slot-number.ensures) written
