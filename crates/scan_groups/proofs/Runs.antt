-- The values of a run, by their places.
use Rattle.std.proofs.Common.{◌≡◌, ℕ, ◌<◌, List, length, get_or, sym, ap, ◌∙◌, ℤ}
use Rattle.std.specs.Borrow.{Bor}
use Rattle.std.proofs.lemmas.List.{length-map, length-replicate, get_or-map, get_or-replicate}
use Rattle.scan_values.specs.Val.{null_val, int_val}
use Rattle.scan_groups.specs.Cells.{cell_val, run_vals}
use Rattle.scan_groups.specs.declared.cell.Cell.{Cell}
use Rattle.scan_groups.specs.declared.run.Run.{Run}
use Rattle.scan_groups.specs.declared.run.Run.TheVariants as run

pub numbers_long : (r : Run) (zs : Bor (List ℤ)) → r ≡ run.Numbers zs → length zs.now ≡ length (run_vals r)
numbers_long r zs e = sym (length-map zs.now int_val) ∙ ap (λ x. length (run_vals x)) (sym e)

pub cells_long : (r : Run) (cs : Bor (List Cell)) → r ≡ run.Cells cs → length cs.now ≡ length (run_vals r)
cells_long r cs e = sym (length-map cs.now cell_val) ∙ ap (λ x. length (run_vals x)) (sym e)

pub nulls_long : (r : Run) (n : ℕ) → r ≡ run.Nulls n → n ≡ length (run_vals r)
nulls_long r n e = sym (length-replicate n null_val) ∙ ap (λ x. length (run_vals x)) (sym e)

pub number_at : (r : Run) (zs : Bor (List ℤ)) (i : ℕ) (d : ℤ) → r ≡ run.Numbers zs → i < length zs.now → int_val (get_or zs.now i d) ≡ get_or (run_vals r) i null_val
number_at r zs i d e lt = sym (get_or-map int_val zs.now i d null_val lt) ∙ ap (λ x. get_or (run_vals x) i null_val) (sym e)

pub cell_at : (r : Run) (cs : Bor (List Cell)) (i : ℕ) (c : Cell) → r ≡ run.Cells cs → i < length cs.now → cell_val (get_or cs.now i c) ≡ get_or (run_vals r) i null_val
cell_at r cs i c e lt = sym (get_or-map cell_val cs.now i c null_val lt) ∙ ap (λ x. get_or (run_vals x) i null_val) (sym e)

pub null_at : (r : Run) (n i : ℕ) → r ≡ run.Nulls n → i < n → null_val ≡ get_or (run_vals r) i null_val
null_at r n i e lt = sym (get_or-replicate n i null_val null_val lt) ∙ ap (λ x. get_or (run_vals x) i null_val) (sym e)
