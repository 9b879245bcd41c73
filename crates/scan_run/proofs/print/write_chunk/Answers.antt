use Rattle.std.proofs.Common.{◌≡◌, ◌++◌, ap, ◌∙◌, subst}
use Rattle.std.proofs.lemmas.Result.{err_from_is_err_and}
use Rattle.scan_columns.specs.Cells.{vals_in}
use Rattle.scan_multi.specs.Output.{ChunkData}
use Rattle.scan_lines.specs.Heads.{lines_of_rows}
use Rattle.scan_run.specs.Printed.{chunk_lines}
use Rattle.scan_run.specs.Writers.{Writes}
use Rattle.scan_run.specs.declared.output.WriteFault.TheVariants.{NoMemory}
use Rattle.scan_run.proofs.Pieces.{nothing_wrote}
use Rattle.scan_run.proofs.Sending.{chunk_is, wrote_err}
use Rattle.scan_run.proofs.print.write_chunk.Goals as goal

pub returns-in_err-front : goal.returns-in_err-front
returns-in_err-front g c =
    let x = chunk_lines c.args.chunk.now in
    let s = g.O.Output.output c.args.output.now in
    let p = err_from_is_err_and c.from_residual.result c.from_residual.ensures.1 in
    rw (p.1, p.2) (wrote_err x c.args.piece.now _ s s NoMemory (nothing_wrote (c.args.piece.now ++ x) s) (λ h. absurd cc) (λ h. absurd cc))

pub returns : goal.returns
returns g c =
    let rows = c.as_slice.ensures.value ∙ ap (λ (z : ChunkData). z.rows) c.chunk.view_is in
    let values = c.cells-cells.ensures ∙ ap (λ (z : ChunkData). z.values.items) c.chunk.view_is in
    let file : c.in_ok-front.front ≡ c.args.chunk.now.file = c.in_ok-front.ensures ∙ ap (λ (z : ChunkData). z.file) c.chunk.view_is in
    let same = (λ i. lines_of_rows c.args.heads.now (file i) c.as_slice.result.now (vals_in c.cells-cells.result.now)) ∙ chunk_is c.args.heads.now c.args.chunk.now c.as_slice.result.now (vals_in c.cells-cells.result.now) c.requires rows values in
    subst (λ t. Writes t c.args.piece.now c.write_rows.new.piece (g.O.Output.output c.args.output.now) (g.O.Output.output c.write_rows.new.output) c.write_rows.result) same c.write_rows.ensures
