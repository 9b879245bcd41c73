use Rattle.std.proofs.Common.{◌≡◌, ◌++◌, ◌∙◌, get_or, subst, Some}
use Rattle.std.specs.Prelude.{codes}
use Rattle.std.specs.Fmt.{decimal}
use Rattle.scan_columns.specs.Cells.{vals_in}
use Rattle.scan_values.specs.Val.{null_val}
use Rattle.scan_lines.specs.Line.{value_text}
use Rattle.scan_lines.specs.Heads.{front_of}
use Rattle.scan_lines.specs.Writes.{Writes}
use Rattle.scan_lines.proofs.Puts.{writes_then, stopped, found}
use Rattle.scan_lines.proofs.Texts.{line_front}
use Rattle.scan_lines.proofs.piece.put_line.Goals as goal

pub returns-in_err-end-2 : goal.returns-in_err-end-2
returns-in_err-end-2 c =
    let a = found (front_of c.args.front.now) c.args.buf.now c.put.new.buf c.args.at c.in_ok-end.end c.put.result c.put.ensures c.in_ok-end.was in
    stopped _ _ _ c.args.buf.now c.put.new.buf c.put_count.new.buf c.args.at c.in_ok-end.end c.put_count.result _ a c.put_count.ensures c.from_residual-in_err-end-2.ensures

pub returns-in_err-end-3 : goal.returns-in_err-end-3
returns-in_err-end-3 c =
    let a = found (front_of c.args.front.now) c.args.buf.now c.put.new.buf c.args.at c.in_ok-end.end c.put.result c.put.ensures c.in_ok-end.was in
    let b = found (decimal c.args.row) c.put.new.buf c.put_count.new.buf c.in_ok-end.end c.in_ok-end-2.end c.put_count.result c.put_count.ensures c.in_ok-end-2.was in
    stopped _ _ _ c.args.buf.now c.put_count.new.buf c.put_bytes.new.buf c.args.at c.in_ok-end-2.end c.put_bytes.result _
    (writes_then _ _ c.args.buf.now c.put.new.buf c.put_count.new.buf c.args.at c.in_ok-end.end (Some c.in_ok-end-2.end) a b) c.put_bytes.ensures c.from_residual-in_err-end-3.ensures

pub returns-in_err-end-4 : goal.returns-in_err-end-4
returns-in_err-end-4 c =
    let a = found (front_of c.args.front.now) c.args.buf.now c.put.new.buf c.args.at c.in_ok-end.end c.put.result c.put.ensures c.in_ok-end.was in
    let b = found (decimal c.args.row) c.put.new.buf c.put_count.new.buf c.in_ok-end.end c.in_ok-end-2.end c.put_count.result c.put_count.ensures c.in_ok-end-2.was in
    let d = found (codes ",\"value\":") c.put_count.new.buf c.put_bytes.new.buf c.in_ok-end-2.end c.in_ok-end-3.end c.put_bytes.result c.put_bytes.ensures c.in_ok-end-3.was in
    stopped _ _ _ c.args.buf.now c.put_bytes.new.buf c.put_cell.new.buf c.args.at c.in_ok-end-3.end c.put_cell.result _
    (writes_then _ _ c.args.buf.now c.put.new.buf c.put_bytes.new.buf c.args.at c.in_ok-end.end (Some c.in_ok-end-3.end) a
    (writes_then _ _ c.put.new.buf c.put_count.new.buf c.put_bytes.new.buf c.in_ok-end.end c.in_ok-end-2.end (Some c.in_ok-end-3.end) b d)) c.put_cell.ensures c.from_residual-in_err-end-4.ensures

pub returns : goal.returns
returns c =
    let v = get_or (vals_in c.args.cells.now) c.args.i null_val in
    let h = c.args.heads.now in
    let a = found (front_of c.args.front.now) c.args.buf.now c.put.new.buf c.args.at c.in_ok-end.end c.put.result c.put.ensures c.in_ok-end.was in
    let b = found (decimal c.args.row) c.put.new.buf c.put_count.new.buf c.in_ok-end.end c.in_ok-end-2.end c.put_count.result c.put_count.ensures c.in_ok-end-2.was in
    let d = found (codes ",\"value\":") c.put_count.new.buf c.put_bytes.new.buf c.in_ok-end-2.end c.in_ok-end-3.end c.put_bytes.result c.put_bytes.ensures c.in_ok-end-3.was in
    let e = found (value_text v h) c.put_bytes.new.buf c.put_cell.new.buf c.in_ok-end-3.end c.in_ok-end-4.end c.put_cell.result c.put_cell.ensures c.in_ok-end-4.was in
    let r = c.put_bytes-2.result in
    let new = c.put_bytes-2.new.buf in
    subst (λ t. Writes t c.args.at c.args.buf.now new r) (line_front h c.args.front.now c.args.row v)
    (writes_then (front_of c.args.front.now) (decimal c.args.row ++ (codes ",\"value\":" ++ (value_text v h ++ codes "}\n"))) c.args.buf.now c.put.new.buf new c.args.at c.in_ok-end.end r a
    (writes_then (decimal c.args.row) (codes ",\"value\":" ++ (value_text v h ++ codes "}\n")) c.put.new.buf c.put_count.new.buf new c.in_ok-end.end c.in_ok-end-2.end r b
    (writes_then (codes ",\"value\":") (value_text v h ++ codes "}\n") c.put_count.new.buf c.put_bytes.new.buf new c.in_ok-end-2.end c.in_ok-end-3.end r d
    (writes_then (value_text v h) (codes "}\n") c.put_bytes.new.buf c.put_cell.new.buf new c.in_ok-end-3.end c.in_ok-end-4.end r e c.put_bytes-2.ensures))))
