use Rattle.std.proofs.Common.{◌≡◌, ◌++◌, get_or, subst}
use Rattle.scan_columns.specs.Cells.{vals_in}
use Rattle.scan_values.specs.Val.{null_val}
use Rattle.scan_lines.specs.Line.{line_of}
use Rattle.std.specs.Prelude.{option_map}
use Rattle.scan_run.specs.WriteAll.{WroteFront}
use Rattle.scan_run.specs.declared.output.WriteFault.TheVariants.{NoMemory}
use Rattle.scan_run.proofs.Sending.{sends_whole, front_more, wrote_ok, wrote_err}
use Rattle.scan_run.proofs.print.write_full.Goals as goal

pub returns-in-Ok-put_long_row : goal.returns-in-Ok-put_long_row
returns-in-Ok-put_long_row g c =
    let a = g.O.Output.output c.args.output.now in
    let b = g.O.Output.output c.write_all.new.output in
    let x = line_of c.args.heads.now c.args.front.now c.args.row (get_or (vals_in c.args.cells.now) c.args.i null_val) in
    wrote_ok x c.args.piece.now c.put_long_row.new.piece a b (sends_whole x c.args.piece.now c.put_long_row.new.piece a b
    (subst (λ t. b.written ≡ option_map (λ before. before ++ t) a.written) c.as_slice.ensures c.in-Ok.ensures.ok) (subst (λ t. WroteFront t a b) c.as_slice.ensures c.write_all.ensures.front) c.in-Ok-put_long_row.ensures)

pub returns-in-Err-put_long_row : goal.returns-in-Err-put_long_row
returns-in-Err-put_long_row g c =
    let a = g.O.Output.output c.args.output.now in
    let b = g.O.Output.output c.write_all.new.output in
    let x = line_of c.args.heads.now c.args.front.now c.args.row (get_or (vals_in c.args.cells.now) c.args.i null_val) in
    wrote_err x c.args.piece.now _ a b NoMemory (front_more c.args.piece.now x a b (subst (λ t. WroteFront t a b) c.as_slice.ensures c.write_all.ensures.front)) (λ h. absurd cc) (λ h. absurd cc)

pub returns-in-Err : goal.returns-in-Err
returns-in-Err g c =
    let a = g.O.Output.output c.args.output.now in
    let b = g.O.Output.output c.write_all.new.output in
    let x = line_of c.args.heads.now c.args.front.now c.args.row (get_or (vals_in c.args.cells.now) c.args.i null_val) in
    wrote_err x c.args.piece.now _ a b c.in-Err.fault (front_more c.args.piece.now x a b (subst (λ t. WroteFront t a b) c.as_slice.ensures c.write_all.ensures.front)) c.in-Err.ensures.failed c.in-Err.ensures.able
