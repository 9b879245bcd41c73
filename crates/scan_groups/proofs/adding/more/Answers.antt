use Rattle.std.proofs.Common.{◌≡◌, true, false, [], ◌∷◌, ◌++◌, ap, sym, ◌∙◌}
use Rattle.std.specs.Ordering.{is_lt}
use Rattle.scan_values.specs.Values.{val_of}
use Rattle.scan_groups.specs.Cells.{cell_val}
use Rattle.scan_groups.specs.Order.{value_cmp}
use Rattle.scan_groups.specs.Rows.{IsGreatest, OrNull, is_null}
use Rattle.scan_groups.proofs.Extremes.{greatest_first, greatest_more, greatest_kept, of_copy}
use Rattle.scan_groups.proofs.adding.more.Goals as goal

pub returns-then-is_null : goal.returns-then-is_null
returns-then-is_null c =
    let u = val_of c.args.greatest in
    let v = cell_val c.args.cell in
    let none : is_null u ≡ true = ap is_null (sym c.of-other.ensures) ∙ sym c.is_null.ensures ∙ c.if-is_null.true in
    λ vs nn h. of_copy (λ w. OrNull IsGreatest (vs ++ v ∷ []) w) c.to_value.result v (greatest_first vs u v none nn h) c.to_value.ensures

pub returns-in-Less : goal.returns-in-Less
returns-in-Less c =
    let u = val_of c.args.greatest in
    let v = cell_val c.args.cell in
    let some : is_null u ≡ false = ap is_null (sym c.of-other.ensures) ∙ sym c.is_null.ensures ∙ c.if-is_null.false in
    let cmp = ap (λ x. value_cmp x v) (sym c.of-other.ensures) ∙ sym c.compare_cells.ensures ∙ c.in-Less.is in
    λ vs nn h. of_copy (λ w. OrNull IsGreatest (vs ++ v ∷ []) w) c.to_value-in-Less.result v (greatest_more vs u v some cmp h) c.to_value-in-Less.ensures

pub returns-in-Equal : goal.returns-in-Equal
returns-in-Equal c =
    let u = val_of c.args.greatest in
    let v = cell_val c.args.cell in
    let some : is_null u ≡ false = ap is_null (sym c.of-other.ensures) ∙ sym c.is_null.ensures ∙ c.if-is_null.false in
    let cmp = ap (λ x. value_cmp x v) (sym c.of-other.ensures) ∙ sym c.compare_cells.ensures ∙ c.in-Equal.is in
    λ vs nn h. greatest_kept vs u v some (ap is_lt cmp) h

pub returns-in-Greater : goal.returns-in-Greater
returns-in-Greater c =
    let u = val_of c.args.greatest in
    let v = cell_val c.args.cell in
    let some : is_null u ≡ false = ap is_null (sym c.of-other.ensures) ∙ sym c.is_null.ensures ∙ c.if-is_null.false in
    let cmp = ap (λ x. value_cmp x v) (sym c.of-other.ensures) ∙ sym c.compare_cells.ensures ∙ c.in-Greater.is in
    λ vs nn h. greatest_kept vs u v some (ap is_lt cmp) h
