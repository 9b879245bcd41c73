-- Evaluation over the values of a column.
use Rattle.std.proofs.Common.{◌≡◌, ℕ, ◌+◌, Bool, true, false, ◌||◌, List, [], ◌∷◌, ◌++◌, Some, None, slice_get, map, drop, refl, ap, sym, ◌∙◌}
use Rattle.std.specs.List.{list_any}
use Rattle.scan_values.specs.DataType.{DataType}
use Rattle.scan_values.specs.Marked.{more, chained, is_true}
use Rattle.scan_values.specs.Val.{Val, vals_of, marked, marked_all, read_marked, read-marked, marked-read, is_clean-marked}
use Rattle.scan_values.specs.Fits.{fits_all}
use Rattle.scan_expr.specs.Expr.{Expr}
use Rattle.scan_expr.specs.Eval.{eval}
use Rattle.scan_expr.specs.Infer.{infer}
use Rattle.scan_expr.specs.Typing.{typing_fault}
use Rattle.scan_expr.specs.Overflow.{overflows, overflows_on}
use Rattle.scan_expr.proofs.Clean.{eval_clean}
use Rattle.scan_expr.proofs.Sound.{all_fit}
use Rattle.scan_columns.specs.Evaluated.{value_on}
use Rattle.scan_columns.proofs.TypedLemmas.{drop_got, place_step}

pub neither : (a b : Bool) → (a || b) ≡ false → (a ≡ false) × (b ≡ false)
neither true b h = cc
neither false b h = (refl, h)

-- ---- a loop over the rows
pub value_step : (s : DataType) (e : Expr) (vs : List Val) (k : ℕ) (x w : Val) (made pushed : List Val) → pushed ≡ made ++ (w ∷ []) → marked w ≡ eval s e (marked x) 0 → Some x ≡ slice_get vs k
    → made ++ map (value_on s e) (drop k vs) ≡ map (value_on s e) vs → pushed ++ map (value_on s e) (drop (k + 1) vs) ≡ map (value_on s e) vs
value_step s e vs k x w made pushed p h at inv =
    let same : w ≡ value_on s e x = sym (read-marked w) ∙ ap read_marked h in
    place_step (value_on s e) vs k x made pushed (p ∙ ap (λ z. made ++ (z ∷ [])) same) at inv

pub within_step : (f : Val → Bool) (vs : List Val) (k : ℕ) (x : Val) (whole : Bool) → Some x ≡ slice_get vs k → f x ≡ false → whole ≡ list_any f (drop k vs) → whole ≡ list_any f (drop (k + 1) vs)
within_step f vs k x whole at safe inv = inv ∙ ap (list_any f) (drop_got vs k (k + 1) x at refl) ∙ ap (λ b. b || list_any f (drop (k + 1) vs)) safe

pub over_step : (f : Val → Bool) (vs : List Val) (k : ℕ) (x : Val) (whole : Bool) → Some x ≡ slice_get vs k → f x ≡ true → whole ≡ list_any f (drop k vs) → whole ≡ true
over_step f vs k x whole at over inv = inv ∙ ap (list_any f) (drop_got vs k (k + 1) x at refl) ∙ ap (λ b. b || list_any f (drop (k + 1) vs)) over

-- ---- the values of an expression that does not overflow
pub clean_on : (s : DataType) (e : Expr) (v : Val) → overflows s e (marked v) 0 ≡ false → marked (value_on s e v) ≡ eval s e (marked v) 0
clean_on s e v h = marked-read (eval s e (marked v) 0) (eval_clean s e (marked v) 0 (is_clean-marked v) h)

pub marked_on : (s : DataType) (e : Expr) (vs : List Val) → overflows_on s e vs ≡ false → map marked (map (value_on s e) vs) ≡ map (λ v. eval s e (marked v) 0) vs
marked_on s e [] h = refl
marked_on s e (v ∷ vs) h =
    let p = neither (overflows s e (marked v) 0) (overflows_on s e vs) h in
    λ i. clean_on s e v p.0 i ∷ marked_on s e vs p.1 i

pub true_on : (s : DataType) (e : Expr) (vs : List Val) → overflows_on s e vs ≡ false → map (λ v. is_true (marked v)) (map (value_on s e) vs) ≡ map (λ v. is_true (eval s e (marked v) 0)) vs
true_on s e [] h = refl
true_on s e (v ∷ vs) h =
    let p = neither (overflows s e (marked v) 0) (overflows_on s e vs) h in
    λ i. is_true (clean_on s e v p.0 i) ∷ true_on s e vs p.1 i

pub chain_marked : (vs : List Val) → marked_all (vals_of vs) ≡ chained (map marked vs)
chain_marked [] = refl
chain_marked (v ∷ vs) = ap (more (marked v)) (chain_marked vs)

pub fit_on : (s : DataType) (e : Expr) (vs : List Val) → fits_all (marked_all (vals_of vs)) s ≡ true → typing_fault s e ≡ None → overflows_on s e vs ≡ false → fits_all (marked_all (vals_of (map (value_on s e) vs))) (infer s e) ≡ true
fit_on s e vs fit typed h =
    ap (λ ms. fits_all ms (infer s e)) (chain_marked (map (value_on s e) vs) ∙ ap chained (marked_on s e vs h)) ∙ all_fit s e vs fit typed

-- ---- values that are the same as marked ones
read_back : (vs : List Val) → vs ≡ map read_marked (map marked vs)
read_back [] = refl
read_back (v ∷ vs) = λ i. sym (read-marked v) i ∷ read_back vs i

pub same_values : (vs ws : List Val) → map marked vs ≡ map marked ws → vs ≡ ws
same_values vs ws h = read_back vs ∙ ap (map read_marked) h ∙ sym (read_back ws)
