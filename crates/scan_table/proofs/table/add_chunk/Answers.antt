use Rattle.std.proofs.Common.{◌≡◌, ◌++◌, true, sym, ap, subst}
use Rattle.std.specs.Prelude.{IfOk}
use Rattle.scan_values.specs.Arrays.{ArrayData}
use Rattle.scan_groups.specs.Running.{AreOf}
use Rattle.scan_multi.specs.Output.{ChunkData}
use Rattle.scan_table.specs.Totalled.{has_keys, rows_in}
use Rattle.scan_table.proofs.table.add_chunk.Goals as goal

pub returns : goal.returns
returns c =
    let keys = c.args.keys in
    let is = ap (λ (x : ChunkData). x.values) c.chunk.view_is in
    λ ms rows h k. subst (λ (v : ArrayData). IfOk c.add_column.result (λ _. AreOf keys ms (rows ++ rows_in keys v.items) c.add_column.new.groups)) is
    (c.add_column.ensures ms rows h (subst (λ (v : ArrayData). has_keys keys v.dtype ≡ true) (sym is) k))
