-- An operator on two lists of values, side by side.
use Rattle.std.proofs.Common.{◌≡◌, ℕ, ◌+◌, ℤ, pos, Bool, true, false, ◌||◌, List, [], ◌∷◌, ◌++◌, Some, slice_get, map, drop, length, replicate, refl, ap, sym, ◌∙◌, append_assoc}
use Rattle.scan_values.specs.DataType.{DataType, nullability_of}
use Rattle.scan_values.specs.Fits.{fits_int}
use Rattle.scan_values.specs.Marked.{Marked, integer}
use Rattle.scan_values.specs.Val.{Val, int_val, marked, read_marked, read-marked}
use Rattle.scan_expr.specs.declared.op.Binary.{Binary}
use Rattle.scan_expr.specs.declared.op.Binary.TheVariants.{Mask, And, Or, Equal, NotEqual, Less, LessOrEqual, Greater, GreaterOrEqual, CheckedAdd, CheckedSub}
use Rattle.scan_expr.specs.Eval.{binary_value, comparison_value}
use Rattle.scan_expr.specs.Infer.{binary_type}
use Rattle.scan_expr.specs.Overflow.{spills}
use Rattle.scan_expr.proofs.Clean.{zero_fits}
use Rattle.scan_columns.specs.Compared.{compare_val}
use Rattle.scan_columns.specs.Evaluated.{binary_val, paired, spills_in}
use Rattle.scan_columns.specs.Literals.{is_comparison, is_sum}
use Rattle.scan_columns.proofs.TypedLemmas.{drop_got, compared_marked}

pub sum_holds_zero : (o : Binary) (d e : DataType) → is_sum o ≡ true → fits_int (binary_type o d e) (pos 0) ≡ true
sum_holds_zero Mask d e h = cc
sum_holds_zero And d e h = cc
sum_holds_zero Or d e h = cc
sum_holds_zero Equal d e h = cc
sum_holds_zero NotEqual d e h = cc
sum_holds_zero Less d e h = cc
sum_holds_zero LessOrEqual d e h = cc
sum_holds_zero Greater d e h = cc
sum_holds_zero GreaterOrEqual d e h = cc
sum_holds_zero CheckedAdd d e h = zero_fits d e
sum_holds_zero CheckedSub d e h = zero_fits d e

pub compares : (op : Binary) (d : DataType) (m k : Marked) → is_comparison op ≡ true → binary_value op d m k ≡ comparison_value op (nullability_of d) m k
compares Mask d m k h = cc
compares And d m k h = cc
compares Or d m k h = cc
compares Equal d m k h = refl
compares NotEqual d m k h = refl
compares Less d m k h = refl
compares LessOrEqual d m k h = refl
compares Greater d m k h = refl
compares GreaterOrEqual d m k h = refl
compares CheckedAdd d m k h = cc
compares CheckedSub d m k h = cc

never_spills : (op : Binary) (d : DataType) (m k : Marked) → is_sum op ≡ false → spills op d m k ≡ false
never_spills Mask d m k h = refl
never_spills And d m k h = refl
never_spills Or d m k h = refl
never_spills Equal d m k h = refl
never_spills NotEqual d m k h = refl
never_spills Less d m k h = refl
never_spills LessOrEqual d m k h = refl
never_spills Greater d m k h = refl
never_spills GreaterOrEqual d m k h = refl
never_spills CheckedAdd d m k h = cc
never_spills CheckedSub d m k h = cc

pub no_sum : (op : Binary) → is_comparison op ≡ true → is_sum op ≡ false
no_sum Mask h = refl
no_sum And h = refl
no_sum Or h = refl
no_sum Equal h = refl
no_sum NotEqual h = refl
no_sum Less h = refl
no_sum LessOrEqual h = refl
no_sum Greater h = refl
no_sum GreaterOrEqual h = refl
no_sum CheckedAdd h = cc
no_sum CheckedSub h = cc

pub none_spill : (op : Binary) (d : DataType) (vs ws : List Val) → is_sum op ≡ false → spills_in op d vs ws ≡ false
none_spill op d [] ws h = refl
none_spill op d (v ∷ vs) [] h = refl
none_spill op d (v ∷ vs) (w ∷ ws) h = λ i. never_spills op d (marked v) (marked w) h i || none_spill op d vs ws h i

-- ---- with one number everywhere
with_number : (op : Binary) (d : DataType) (z : ℤ) (v : Val) → is_comparison op ≡ true → compare_val op z v ≡ binary_val op d v (int_val z)
with_number op d z v c = sym (read-marked (compare_val op z v)) ∙ ap read_marked (compared_marked op (nullability_of d) z v) ∙ ap read_marked (sym (compares op d (marked v) (integer z) c))

pub with_numbers : (op : Binary) (d : DataType) (z : ℤ) (vs ws : List Val) → is_comparison op ≡ true → length ws ≡ length vs → ws ≡ replicate (length ws) (int_val z) → map (compare_val op z) vs ≡ paired (binary_val op d) vs ws
with_numbers op d z vs ws c even same =
    go vs ∙ ap (λ n. paired (binary_val op d) vs (replicate n (int_val z))) (sym even) ∙ ap (paired (binary_val op d) vs) (sym same)
  where
    go : (vs : List Val) → map (compare_val op z) vs ≡ paired (binary_val op d) vs (replicate (length vs) (int_val z))
    go [] = refl
    go (v ∷ vs) = λ i. with_number op d z v c i ∷ go vs i

-- ---- a loop over pairs
module _ (vs ws : List Val) (k : ℕ) (v w : Val) (at : Some v ≡ slice_get vs k) (other : Some w ≡ slice_get ws k) where
  pub pair_step : (f : Val → Val → Val) (u : Val) (made pushed : List Val) → pushed ≡ made ++ (u ∷ []) → u ≡ f v w
      → made ++ paired f (drop k vs) (drop k ws) ≡ paired f vs ws → pushed ++ paired f (drop (k + 1) vs) (drop (k + 1) ws) ≡ paired f vs ws
  pair_step f u made pushed p is inv =
      rw p (append_assoc made (u ∷ []) (paired f (drop (k + 1) vs) (drop (k + 1) ws)) ∙ (λ i. made ++ (is i ∷ paired f (drop (k + 1) vs) (drop (k + 1) ws)))
      ∙ (λ i. made ++ paired f (sym (drop_got vs k (k + 1) v at refl) i) (sym (drop_got ws k (k + 1) w other refl) i)) ∙ inv)

  pub spill_rest : (op : Binary) (d : DataType) (whole : Bool) → whole ≡ spills_in op d (drop k vs) (drop k ws) → whole ≡ (spills op d (marked v) (marked w) || spills_in op d (drop (k + 1) vs) (drop (k + 1) ws))
  spill_rest op d whole inv = inv ∙ (λ i. spills_in op d (drop_got vs k (k + 1) v at refl i) (drop_got ws k (k + 1) w other refl i))

  pub spill_within : (op : Binary) (d : DataType) (whole : Bool) → spills op d (marked v) (marked w) ≡ false → whole ≡ spills_in op d (drop k vs) (drop k ws) → whole ≡ spills_in op d (drop (k + 1) vs) (drop (k + 1) ws)
  spill_within op d whole safe inv = spill_rest op d whole inv ∙ ap (λ b. b || spills_in op d (drop (k + 1) vs) (drop (k + 1) ws)) safe

  pub spill_over : (op : Binary) (d : DataType) (whole : Bool) → spills op d (marked v) (marked w) ≡ true → whole ≡ spills_in op d (drop k vs) (drop k ws) → whole ≡ true
  spill_over op d whole over inv = spill_rest op d whole inv ∙ ap (λ b. b || spills_in op d (drop (k + 1) vs) (drop (k + 1) ws)) over
