use Rattle.std.proofs.Common.{◌≡◌, subst}
use Rattle.scan_columns.specs.Typed.{cell}
use Rattle.scan_values.specs.Val.{bool_val}
use Rattle.scan_lines.specs.Writes.{Writes}
use Rattle.scan_lines.proofs.Celling.{cell_text}
use Rattle.scan_lines.proofs.cells.put_bool_at.Goals as goal

pub returns : goal.returns
returns c = λ d.
    subst (λ text. Writes text c.args.at c.args.buf.now c.put_bool_slot.new.buf c.put_bool_slot.result) (cell_text c.args.bools.now c.args.i (cell bool_val c.slot-bit.result) d c.slot-bit.ensures) (c.put_bool_slot.ensures d)
