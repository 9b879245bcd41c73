use Rattle.std.proofs.Common.{◌≡◌, List, ℕ, ◌∙◌, subst, sym}
use Rattle.vortex_scan.specs.DiskWriter.Written.{IsFileOf}
use Rattle.vortex_scan.specs.Values.DataType.{DataType}
use Rattle.uses.proofs.disk.written_and_read.Goals as goal

pub returns-in-Ok-rows_back : goal.returns-in-Ok-rows_back
returns-in-Ok-rows_back g c =
    let rows = c.args.rows.now.items in
    let file = c.new-2.ensures ∙ c.in-Ok-new.ensures in
    c.in-Ok-rows_back.ensures rows
    (subst (λ (d : DataType). IsFileOf d rows c.new-2.result) (sym c.dtype.ensures)
    (subst (λ (bytes : List ℕ). IsFileOf c.args.rows.now.dtype rows bytes) (sym file) c.in-Ok.ensures.file))
