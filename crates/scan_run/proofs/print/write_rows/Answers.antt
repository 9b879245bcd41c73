use Rattle.std.proofs.Common.{◌∙◌, get_or, refl, sym, arith}
use Rattle.std.proofs.lemmas.Result.{err_from_is_err_and}
use Rattle.scan_columns.specs.Cells.{vals_in}
use Rattle.scan_values.specs.Val.{null_val}
use Rattle.scan_lines.specs.Line.{line_of}
use Rattle.scan_lines.specs.Heads.{lines_of_rows}
use Rattle.scan_run.proofs.Sending.{sent_none, sent_more, sent_all, sent_front, rose_later, rows_step, rows_over, wrote_ok, wrote_err}
use Rattle.scan_run.proofs.print.write_rows.Goals as goal

pub loop-i-init : goal.loop-i-init
loop-i-init g c = sent_none _ c.args.piece.now _ (g.O.Output.output c.args.output.now) refl

pub write_row-requires : goal.write_row-requires
write_row-requires g c = omega (arith, c.requires)

pub loop-i-preserved : goal.loop-i-preserved
loop-i-preserved g c =
    let vs = vals_in c.args.cells.now in
    let i = c.loop-i.i in
    let row = get_or c.args.rows.now i 0 in
    let step = rows_step c.args.heads.now c.args.front.now c.args.rows.now vs i (omega arith) c.requires in
    sent_more (lines_of_rows c.args.heads.now c.args.front.now c.args.rows.now vs) c.args.piece.now c.loop-i.piece c.write_row.new.piece (line_of c.args.heads.now c.args.front.now row (get_or vs i null_val)) _ _
    (g.O.Output.output c.args.output.now) (g.O.Output.output c.loop-i.output) (g.O.Output.output c.write_row.new.output) c.loop-i.invariant step c.in_ok-write_row.ensures.ok

pub returns-in_err-write_row : goal.returns-in_err-write_row
returns-in_err-write_row g c =
    let vs = vals_in c.args.cells.now in
    let i = c.loop-i.i in
    let row = get_or c.args.rows.now i 0 in
    let x = lines_of_rows c.args.heads.now c.args.front.now c.args.rows.now vs in
    let old = g.O.Output.output c.args.output.now in
    let mid = g.O.Output.output c.loop-i.output in
    let now = g.O.Output.output c.write_row.new.output in
    let step = rows_step c.args.heads.now c.args.front.now c.args.rows.now vs i (omega arith) c.requires in
    let front = sent_front x c.args.piece.now c.loop-i.piece (line_of c.args.heads.now c.args.front.now row (get_or vs i null_val)) _ _ old mid now c.loop-i.invariant step c.in_err-write_row.ensures.err in
    let p = err_from_is_err_and c.from_residual.result c.from_residual.ensures.1 in
    rw (p.1, p.2) (wrote_err x c.args.piece.now _ old now _ front (λ h. rose_later old.faults _ _ c.loop-i.invariant.sends.faults (c.in_err-write_row.ensures.failed h))
    (λ h. sym c.loop-i.invariant.sends.can_fail ∙ c.in_err-write_row.ensures.able h))

pub returns : goal.returns
returns g c =
    let x = lines_of_rows c.args.heads.now c.args.front.now c.args.rows.now (vals_in c.args.cells.now) in
    let old = g.O.Output.output c.args.output.now in
    let now = g.O.Output.output c.loop-i.output in
    wrote_ok x c.args.piece.now c.loop-i.piece old now (sent_all x c.args.piece.now c.loop-i.piece _ old now c.loop-i.invariant
    (rows_over c.args.heads.now c.args.front.now c.args.rows.now (vals_in c.args.cells.now) c.loop-i.i (omega arith)))
