use Rattle.std.proofs.Common.{cond, subst}
use Rattle.scan_columns.specs.Texts.{texts_in}
use Rattle.scan_values.specs.Val.{text_val, null_val}
use Rattle.scan_lines.specs.Writes.{Writes}
use Rattle.scan_lines.proofs.Celling.{cell_text}
use Rattle.scan_lines.proofs.cells.put_text_at.Goals as goal

pub returns : goal.returns
returns c = λ d.
    subst (λ text. Writes text c.args.at c.args.buf.now c.put_text_slot.new.buf c.put_text_slot.result)
    (cell_text (texts_in c.args.texts.now) c.args.i (cond c.slot-valid.result.1 (text_val c.slot-valid.result.0.now) null_val) d c.slot-valid.ensures) (c.put_text_slot.ensures d)
