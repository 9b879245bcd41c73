use Rattle.std.proofs.Common.{◌≡◌, ℕ, List, [], ◌∷◌, false, map, refl, sym, ◌∙◌}
use Rattle.std.specs.List.{range_with_len}
use Rattle.scan_values.specs.Arrays.{ArrayData}
use Rattle.scan_values.specs.Val.{marked}
use Rattle.scan_expr.specs.Bound.{Bound}
use Rattle.scan_expr.specs.Expr.{uses_row_index}
use Rattle.scan_expr.specs.Eval.{eval}
use Rattle.scan_expr.proofs.Clean.{any_row}
use Rattle.scan_columns.specs.Joined.{row_at, joined_at}
use Rattle.scan_columns.proofs.Evaluation.{same_values}
use Rattle.scan_columns.proofs.laws.an_evaluation_over_parts_gives_what_apply_gives.Goals as goal

at_any_row : (root : Bound) (xs : List ArrayData) (rs : List ℕ) → uses_row_index root.expr ≡ false → map (joined_at root xs) rs ≡ map (λ v. eval root.scope root.expr (marked v) 0) (map (row_at xs) rs)
at_any_row root xs [] h = refl
at_any_row root xs (r ∷ rs) h = λ i. any_row root.scope root.expr (marked (row_at xs r)) r 0 h i ∷ at_any_row root xs rs h i

pub returns : goal.returns
returns c root xs n made applied h m a = same_values made applied (m ∙ at_any_row root xs (range_with_len 0 n) h ∙ sym a)
