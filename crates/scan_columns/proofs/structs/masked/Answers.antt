use Rattle.std.proofs.Common.{◌≡◌, List, IfOk, sym, subst, ◌∙◌}
use Rattle.scan_values.specs.Val.{Val}
use Rattle.scan_columns.specs.Cells.{vals_in}
use Rattle.scan_columns.proofs.StructLemmas.{all_kept}
use Rattle.scan_columns.proofs.structs.masked.Goals as goal

pub returns-then-all_true : goal.returns-then-all_true
returns-then-all_true c =
    subst (λ (z : List Val). IfOk c.try_clone.result (λ c'. vals_in c' ≡ z)) (all_kept c.args.bits.now (vals_in c.args.cells.now) (sym c.all_true.ensures ∙ c.if-all_true.true) (sym c.requires)) c.try_clone.ensures
