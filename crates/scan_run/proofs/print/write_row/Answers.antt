use Rattle.std.proofs.Common.{◌≡◌, get_or}
use Rattle.scan_columns.specs.Cells.{vals_in}
use Rattle.scan_values.specs.Val.{null_val}
use Rattle.scan_lines.specs.Line.{line_of}
use Rattle.scan_run.proofs.Sending.{sends_kept, wrote_ok}
use Rattle.scan_run.proofs.print.write_row.Goals as goal

pub returns-then-put_row : goal.returns-then-put_row
returns-then-put_row g c =
    let s = g.O.Output.output c.args.output.now in
    let x = line_of c.args.heads.now c.args.front.now c.args.row (get_or (vals_in c.args.cells.now) c.args.i null_val) in
    wrote_ok x c.args.piece.now c.put_row.new.self s s (sends_kept x c.args.piece.now c.put_row.new.self s (c.put_row.ensures.row c.if-put_row.true))
