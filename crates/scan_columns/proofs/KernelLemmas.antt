-- What operators make of typed cells.
use Rattle.std.proofs.Common.{◌≡◌, ℕ, zero, suc, ◌+◌, ℤ, Bool, true, false, not, ◌&&◌, ◌||◌, cond, List, [], ◌∷◌, ◌++◌, Some, slice_get, map, drop, length, replicate, refl, ap, sym, ◌∙◌, arith}
use Rattle.std.specs.List.{zip}
use Rattle.std.specs.Ordering.{int_cmp, nat_cmp}
use Rattle.std.specs.Cmp.Lexicographic.{slice_cmp}
use Rattle.scan_values.specs.DataType.{DataType, bool_type, nullability_of, is_nullable}
use Rattle.scan_values.specs.declared.ptype.Nullability.{Nullability}
use Rattle.scan_values.specs.declared.ptype.Nullability.TheVariants.{Nullable}
use Rattle.scan_values.specs.Damage.{damaged}
use Rattle.scan_values.specs.Fits.{fits_int}
use Rattle.scan_values.specs.Marked.{null, gone, boolean, integer, text, is_true}
use Rattle.scan_values.specs.Masks.{both_true, null_where_false}
use Rattle.scan_values.specs.Val.{Val, null_val, bool_val, int_val, text_val, list_val, struct_val, marked, read_marked, read-marked}
use Rattle.scan_expr.specs.declared.op.Unary.TheVariants.{Not, ListLength}
use Rattle.scan_expr.specs.declared.op.Binary.{Binary}
use Rattle.scan_expr.specs.declared.op.Binary.TheVariants.{Mask, And, Or, Equal, NotEqual, Less, LessOrEqual, Greater, GreaterOrEqual, CheckedAdd, CheckedSub}
use Rattle.scan_expr.specs.Eval.{is_damaged, is_nothing, is_truth, logic_value, comparison_value, null_test, combine, holds, order, bool_cmp}
use Rattle.scan_expr.specs.Overflow.{spills}
use Rattle.scan_columns.specs.Typed.{typed}
use Rattle.scan_columns.specs.Evaluated.{unary_val, not_val, binary_val, paired}
use Rattle.scan_columns.specs.Operands.{pair_val, test_val, test_bit, length_val}
use Rattle.scan_columns.specs.Literals.{is_comparison, is_sum}
use Rattle.scan_columns.proofs.TypedLemmas.{drop_got, typed_step, pushed_even}
use Rattle.scan_columns.proofs.Pairing.{compares}

-- ---- all there, and the contrary of each
pub typed_full : {A : Type 0} (f : A → Val) (xs : List A) → typed f xs (replicate (length xs) true) ≡ map f xs
typed_full f [] = refl
typed_full f (x ∷ xs) = λ i. f x ∷ typed_full f xs i

pub not_length : (xs : List Bool) → length (map not xs) ≡ length xs
not_length [] = refl
not_length (x ∷ xs) = λ i. suc (not_length xs i)

not_one : (x b : Bool) → cond b (bool_val (not x)) null_val ≡ not_val (cond b (bool_val x) null_val)
not_one x true = refl
not_one x false = refl

pub typed_not : (xs bs : List Bool) → typed bool_val (map not xs) bs ≡ map not_val (typed bool_val xs bs)
typed_not [] bs = refl
typed_not (x ∷ xs) [] = refl
typed_not (x ∷ xs) (b ∷ bs) = λ i. not_one x b i ∷ typed_not xs bs i

not_same : (d : DataType) (v : Val) → not_val v ≡ unary_val Not d v
not_same d null_val = refl
not_same d (bool_val b) = refl
not_same d (int_val z) = refl
not_same d (text_val t) = refl
not_same d (list_val vs) = refl
not_same d (struct_val vs) = refl

pub not_vals : (d : DataType) (vs : List Val) → map not_val vs ≡ map (unary_val Not d) vs
not_vals d [] = refl
not_vals d (v ∷ vs) = λ i. not_same d v i ∷ not_vals d vs i

-- ---- null tests
test_one : (want : Bool) (v : Val) → bool_val (test_bit want (is_nothing (marked v))) ≡ read_marked (null_test want (marked v))
test_one true null_val = refl
test_one false null_val = refl
test_one true (bool_val b) = refl
test_one false (bool_val b) = refl
test_one true (int_val z) = refl
test_one false (int_val z) = refl
test_one true (text_val t) = refl
test_one false (text_val t) = refl
test_one true (list_val vs) = refl
test_one false (list_val vs) = refl
test_one true (struct_val vs) = refl
test_one false (struct_val vs) = refl

pub tests_nullable : (want : Bool) (d : DataType) (vs : List Val) → is_nullable d ≡ true → map bool_val (map (test_bit want) (map (λ v. is_nothing (marked v)) vs)) ≡ map (test_val want d) vs
tests_nullable want d [] h = refl
tests_nullable want d (v ∷ vs) h =
    λ i. (test_one want v ∙ ap (λ b. read_marked (cond b (null_test want (marked v)) (boolean (not want)))) (sym h)) i ∷ tests_nullable want d vs h i

pub tests_never : (want : Bool) (d : DataType) (vs : List Val) → is_nullable d ≡ false → replicate (length vs) (bool_val (not want)) ≡ map (test_val want d) vs
tests_never want d [] h = refl
tests_never want d (v ∷ vs) h = λ i. read_marked (cond (sym h i) (null_test want (marked v)) (boolean (not want))) ∷ tests_never want d vs h i

pub test_same : (want : Bool) (bs : List Bool) → want ≡ true → bs ≡ map (test_bit want) bs
test_same true [] h = refl
test_same true (b ∷ bs) h = λ i. b ∷ test_same true bs h i
test_same false bs h = cc

-- ---- lengths
length_same : (d : DataType) (v : Val) → length_val v ≡ unary_val ListLength d v
length_same d null_val = refl
length_same d (bool_val b) = refl
length_same d (int_val z) = refl
length_same d (text_val t) = refl
length_same d (list_val vs) = refl
length_same d (struct_val vs) = refl

pub length_vals : (d : DataType) (vs : List Val) → map length_val vs ≡ map (unary_val ListLength d) vs
length_vals d [] = refl
length_vals d (v ∷ vs) = λ i. length_same d v i ∷ length_vals d vs i

-- ---- an operator that is no sum does not mind the dtype
undamaged : (v : Val) → is_damaged (marked v) ≡ false
undamaged null_val = refl
undamaged (bool_val b) = refl
undamaged (int_val z) = refl
undamaged (text_val t) = refl
undamaged (list_val vs) = refl
undamaged (struct_val vs) = refl

logic_any : (b : Bool) (m n : Nullability) (v w : Val) → logic_value b m (marked v) (marked w) ≡ logic_value b n (marked v) (marked w)
logic_any b m n v w = from m ∙ sym (from n)
  where
    from : (k : Nullability) → logic_value b k (marked v) (marked w) ≡ cond (is_truth b (marked v) || is_truth b (marked w)) (boolean b) (cond (is_truth (not b) (marked v) && is_truth (not b) (marked w)) (boolean (not b)) null)
    from k = λ i. cond (is_truth b (marked v) || is_truth b (marked w)) (boolean b) (cond (undamaged v i || undamaged w i) (damaged k) (cond (is_truth (not b) (marked v) && is_truth (not b) (marked w)) (boolean (not b)) null))

comparison_any : (op : Binary) (m n : Nullability) (v w : Val) → comparison_value op m (marked v) (marked w) ≡ comparison_value op n (marked v) (marked w)
comparison_any op m n v w = from m ∙ sym (from n)
  where
    from : (k : Nullability) → comparison_value op k (marked v) (marked w) ≡ cond (is_nothing (marked v) || is_nothing (marked w)) null (boolean (holds op (order (marked v) (marked w))))
    from k = λ i. cond (is_nothing (marked v) || is_nothing (marked w)) null (cond (undamaged v i || undamaged w i) (damaged k) (boolean (holds op (order (marked v) (marked w)))))

pair_any : (op : Binary) (d : DataType) (v w : Val) → is_sum op ≡ false → pair_val op v w ≡ binary_val op d v w
pair_any Mask d v w h = refl
pair_any And d v w h = ap read_marked (logic_any false Nullable (nullability_of d) v w)
pair_any Or d v w h = ap read_marked (logic_any true Nullable (nullability_of d) v w)
pair_any Equal d v w h = ap read_marked (comparison_any Equal Nullable (nullability_of d) v w)
pair_any NotEqual d v w h = ap read_marked (comparison_any NotEqual Nullable (nullability_of d) v w)
pair_any Less d v w h = ap read_marked (comparison_any Less Nullable (nullability_of d) v w)
pair_any LessOrEqual d v w h = ap read_marked (comparison_any LessOrEqual Nullable (nullability_of d) v w)
pair_any Greater d v w h = ap read_marked (comparison_any Greater Nullable (nullability_of d) v w)
pair_any GreaterOrEqual d v w h = ap read_marked (comparison_any GreaterOrEqual Nullable (nullability_of d) v w)
pair_any CheckedAdd d v w h = cc
pair_any CheckedSub d v w h = cc

pub paired_any : (op : Binary) (d : DataType) (vs ws : List Val) → is_sum op ≡ false → paired (pair_val op) vs ws ≡ paired (binary_val op d) vs ws
paired_any op d [] ws h = refl
paired_any op d (v ∷ vs) [] h = refl
paired_any op d (v ∷ vs) (w ∷ ws) h = λ i. pair_any op d v w h i ∷ paired_any op d vs ws h i

-- ---- a mask
mask_pairs : (vs ws : List Val) → null_where_false (map (λ v. is_true (marked v)) ws) vs ≡ paired (pair_val Mask) vs ws
mask_pairs [] [] = refl
mask_pairs [] (w ∷ ws) = go (is_true (marked w))
  where
    go : (b : Bool) → null_where_false (b ∷ map (λ v. is_true (marked v)) ws) [] ≡ []
    go true = refl
    go false = refl
mask_pairs (v ∷ vs) [] = refl
mask_pairs (v ∷ vs) (null_val ∷ ws) = λ i. null_val ∷ mask_pairs vs ws i
mask_pairs (v ∷ vs) (bool_val true ∷ ws) = λ i. sym (read-marked v) i ∷ mask_pairs vs ws i
mask_pairs (v ∷ vs) (bool_val false ∷ ws) = λ i. null_val ∷ mask_pairs vs ws i
mask_pairs (v ∷ vs) (int_val z ∷ ws) = λ i. null_val ∷ mask_pairs vs ws i
mask_pairs (v ∷ vs) (text_val t ∷ ws) = λ i. null_val ∷ mask_pairs vs ws i
mask_pairs (v ∷ vs) (list_val us ∷ ws) = λ i. null_val ∷ mask_pairs vs ws i
mask_pairs (v ∷ vs) (struct_val us ∷ ws) = λ i. null_val ∷ mask_pairs vs ws i

pub masked_pairs : (op : Binary) (vs ws : List Val) → op ≡ Mask → null_where_false (map (λ v. is_true (marked v)) ws) vs ≡ paired (pair_val op) vs ws
masked_pairs op vs ws h = mask_pairs vs ws ∙ ap (λ o. paired (pair_val o) vs ws) (sym h)

-- ---- slots
pub compare_cells : (op : Binary) (a b : ℤ) (p q : Bool) → is_comparison op ≡ true → cond (p && q) (bool_val (holds op (int_cmp a b))) null_val ≡ pair_val op (cond p (int_val a) null_val) (cond q (int_val b) null_val)
compare_cells op a b true true h = ap read_marked (sym (compares op (bool_type Nullable) (integer a) (integer b) h))
compare_cells op a b true false h = ap read_marked (sym (compares op (bool_type Nullable) (integer a) null h))
compare_cells op a b false q h = ap read_marked (sym (compares op (bool_type Nullable) null (marked (cond q (int_val b) null_val)) h))

pub compare_truths : (op : Binary) (a b p q : Bool) → is_comparison op ≡ true → cond (p && q) (bool_val (holds op (bool_cmp a b))) null_val ≡ pair_val op (cond p (bool_val a) null_val) (cond q (bool_val b) null_val)
compare_truths op a b true true h = ap read_marked (sym (compares op (bool_type Nullable) (boolean a) (boolean b) h))
compare_truths op a b true false h = ap read_marked (sym (compares op (bool_type Nullable) (boolean a) null h))
compare_truths op a b false q h = ap read_marked (sym (compares op (bool_type Nullable) null (marked (cond q (bool_val b) null_val)) h))

pub compare_texts : (op : Binary) (a b : List ℕ) (p q : Bool) → is_comparison op ≡ true → cond (p && q) (bool_val (holds op (slice_cmp nat_cmp a b))) null_val ≡ pair_val op (cond p (text_val a) null_val) (cond q (text_val b) null_val)
compare_texts op a b true true h = ap read_marked (sym (compares op (bool_type Nullable) (text a) (text b) h))
compare_texts op a b true false h = ap read_marked (sym (compares op (bool_type Nullable) (text a) null h))
compare_texts op a b false q h = ap read_marked (sym (compares op (bool_type Nullable) null (marked (cond q (text_val b) null_val)) h))

-- two values, of which none is damaged
by_nulls : (p q b : Bool) → cond (not p && not q) (bool_val b) null_val ≡ read_marked (cond (p || q) null (boolean b))
by_nulls true q b = refl
by_nulls false true b = refl
by_nulls false false b = refl

pub compared_slot : (op : Binary) (v w : Val) → is_comparison op ≡ true
    → cond (not (is_nothing (marked v)) && not (is_nothing (marked w))) (bool_val (holds op (order (marked v) (marked w)))) null_val ≡ pair_val op v w
compared_slot op v w h =
    let b = holds op (order (marked v) (marked w)) in
    let none = is_nothing (marked v) || is_nothing (marked w) in
    let clean : comparison_value op Nullable (marked v) (marked w) ≡ cond none null (boolean b) = λ i. cond none null (cond (undamaged v i || undamaged w i) (damaged Nullable) (boolean b)) in
    by_nulls (is_nothing (marked v)) (is_nothing (marked w)) b ∙ ap read_marked (sym (compares op (bool_type Nullable) (marked v) (marked w) h ∙ clean))

pub sum_cells : (op : Binary) (d : DataType) (a b : ℤ) → is_sum op ≡ true → fits_int d (combine op a b) ≡ true → int_val (combine op a b) ≡ binary_val op d (int_val a) (int_val b)
sum_cells Mask d a b h f = cc
sum_cells And d a b h f = cc
sum_cells Or d a b h f = cc
sum_cells Equal d a b h f = cc
sum_cells NotEqual d a b h f = cc
sum_cells Less d a b h f = cc
sum_cells LessOrEqual d a b h f = cc
sum_cells Greater d a b h f = cc
sum_cells GreaterOrEqual d a b h f = cc
sum_cells CheckedAdd d a b h f = ap (λ t. read_marked (cond t (integer (combine CheckedAdd a b)) gone)) (sym f)
sum_cells CheckedSub d a b h f = ap (λ t. read_marked (cond t (integer (combine CheckedSub a b)) gone)) (sym f)

pub sum_null : (op : Binary) (d : DataType) (a b : ℤ) (p q : Bool) → is_sum op ≡ true → (p && q) ≡ false → null_val ≡ binary_val op d (cond p (int_val a) null_val) (cond q (int_val b) null_val)
sum_null Mask d a b p q h n = cc
sum_null And d a b p q h n = cc
sum_null Or d a b p q h n = cc
sum_null Equal d a b p q h n = cc
sum_null NotEqual d a b p q h n = cc
sum_null Less d a b p q h n = cc
sum_null LessOrEqual d a b p q h n = cc
sum_null Greater d a b p q h n = cc
sum_null GreaterOrEqual d a b p q h n = cc
sum_null CheckedAdd d a b true true h n = cc
sum_null CheckedAdd d a b true false h n = refl
sum_null CheckedAdd d a b false q h n = refl
sum_null CheckedSub d a b true true h n = cc
sum_null CheckedSub d a b true false h n = refl
sum_null CheckedSub d a b false q h n = refl

pub sum_spills : (op : Binary) (d : DataType) (a b : ℤ) → is_sum op ≡ true → spills op d (integer a) (integer b) ≡ not (fits_int d (combine op a b))
sum_spills Mask d a b h = cc
sum_spills And d a b h = cc
sum_spills Or d a b h = cc
sum_spills Equal d a b h = cc
sum_spills NotEqual d a b h = cc
sum_spills Less d a b h = cc
sum_spills LessOrEqual d a b h = cc
sum_spills Greater d a b h = cc
sum_spills GreaterOrEqual d a b h = cc
sum_spills CheckedAdd d a b h = refl
sum_spills CheckedSub d a b h = refl

pub sum_calm : (op : Binary) (d : DataType) (a b : ℤ) (p q : Bool) → is_sum op ≡ true → (p && q) ≡ false → spills op d (marked (cond p (int_val a) null_val)) (marked (cond q (int_val b) null_val)) ≡ false
sum_calm Mask d a b p q h n = refl
sum_calm And d a b p q h n = refl
sum_calm Or d a b p q h n = refl
sum_calm Equal d a b p q h n = refl
sum_calm NotEqual d a b p q h n = refl
sum_calm Less d a b p q h n = refl
sum_calm LessOrEqual d a b p q h n = refl
sum_calm Greater d a b p q h n = refl
sum_calm GreaterOrEqual d a b p q h n = refl
sum_calm CheckedAdd d a b true true h n = cc
sum_calm CheckedAdd d a b true false h n = refl
sum_calm CheckedAdd d a b false q h n = refl
sum_calm CheckedSub d a b true true h n = cc
sum_calm CheckedSub d a b true false h n = refl
sum_calm CheckedSub d a b false q h n = refl

-- ---- a loop that makes slots
pub slots_step : {A : Type 0} (f : A → Val) (g : Val → Val → Val) (vs ws : List Val) (k : ℕ) (v w : Val) (xs more : List A) (bs longer : List Bool) (z : A) (b : Bool) → Some v ≡ slice_get vs k → Some w ≡ slice_get ws k
    → more ≡ xs ++ (z ∷ []) → longer ≡ bs ++ (b ∷ []) → cond b (f z) null_val ≡ g v w → length bs ≡ length xs → typed f xs bs ++ paired g (drop k vs) (drop k ws) ≡ paired g vs ws
    → (length longer ≡ length more) × (typed f more longer ++ paired g (drop (k + 1) vs) (drop (k + 1) ws) ≡ paired g vs ws)
slots_step f g vs ws k v w xs more bs longer z b at other m n is even inv =
    let next : paired g (drop k vs) (drop k ws) ≡ g v w ∷ paired g (drop (k + 1) vs) (drop (k + 1) ws) = λ i. paired g (drop_got vs k (k + 1) v at refl i) (drop_got ws k (k + 1) w other refl i) in
    (rw (m, n) (pushed_even xs bs z b even), rw (m, n) (typed_step f xs bs z b (g v w) (paired g (drop (k + 1) vs) (drop (k + 1) ws)) (paired g vs ws) even (sym is) (ap (λ us. typed f xs bs ++ us) (sym next) ∙ inv)))

-- what stands everywhere stands beside each
pub repeated_beside : (w v : Val) (vs ws : List Val) (k : ℕ) → Some v ≡ slice_get vs k → length ws ≡ length vs → ws ≡ replicate (length ws) w → Some w ≡ slice_get ws k
repeated_beside w v [] ws k at e h = absurd cc
repeated_beside w v (u ∷ vs) [] k at e h = absurd (omega (arith, e))
repeated_beside w v (u ∷ vs) (x ∷ ws) zero at e h = let same : x ≡ w = cc in λ i. Some (sym same i)
repeated_beside w v (u ∷ vs) (x ∷ ws) (suc k) at e h = let rest : ws ≡ replicate (length ws) w = cc in repeated_beside w v vs ws k at (omega (arith, e)) rest

pub slot_step : {A : Type 0} (f : A → Val) (g : Val → Val) (vs : List Val) (k : ℕ) (v : Val) (xs more : List A) (bs longer : List Bool) (z : A) (b : Bool) → Some v ≡ slice_get vs k
    → more ≡ xs ++ (z ∷ []) → longer ≡ bs ++ (b ∷ []) → cond b (f z) null_val ≡ g v → length bs ≡ length xs → typed f xs bs ++ map g (drop k vs) ≡ map g vs
    → (length longer ≡ length more) × (typed f more longer ++ map g (drop (k + 1) vs) ≡ map g vs)
slot_step f g vs k v xs more bs longer z b at m n is even inv =
    let next : map g (drop k vs) ≡ g v ∷ map g (drop (k + 1) vs) = λ i. map g (drop_got vs k (k + 1) v at refl i) in
    (rw (m, n) (pushed_even xs bs z b even), rw (m, n) (typed_step f xs bs z b (g v) (map g (drop (k + 1) vs)) (map g vs) even (sym is) (ap (λ us. typed f xs bs ++ us) (sym next) ∙ inv)))

-- ---- two columns of numbers, side by side
pub compare_pairs : (op : Binary) (xs ys : List ℤ) (bs cs : List Bool) → is_comparison op ≡ true → length bs ≡ length xs → length cs ≡ length ys
    → typed bool_val (map (λ p. holds op (int_cmp p.0 p.1)) (zip xs ys)) (both_true bs cs) ≡ paired (pair_val op) (typed int_val xs bs) (typed int_val ys cs)
compare_pairs op [] ys bs cs k h g = refl
compare_pairs op (x ∷ xs) ys [] cs k h g = absurd (omega (arith, h))
compare_pairs op (x ∷ xs) [] (b ∷ bs) cs k h g = refl
compare_pairs op (x ∷ xs) (y ∷ ys) (b ∷ bs) [] k h g = absurd (omega (arith, g))
compare_pairs op (x ∷ xs) (y ∷ ys) (b ∷ bs) (c ∷ cs) k h g = λ i. compare_cells op x y b c k i ∷ compare_pairs op xs ys bs cs k (omega (arith, h)) (omega (arith, g)) i

pub pairs_long : (op : Binary) (xs ys : List ℤ) (bs cs : List Bool) → length bs ≡ length xs → length cs ≡ length ys → length ys ≡ length xs
    → length (both_true bs cs) ≡ length (map (λ p. holds op (int_cmp p.0 p.1)) (zip xs ys))
pairs_long op [] [] [] [] h g e = refl
pairs_long op [] ys (b ∷ bs) cs h g e = absurd (omega (arith, h))
pairs_long op [] ys [] (c ∷ cs) h g e = refl
pairs_long op [] (y ∷ ys) [] [] h g e = absurd (omega (arith, e))
pairs_long op (x ∷ xs) ys [] cs h g e = absurd (omega (arith, h))
pairs_long op (x ∷ xs) [] (b ∷ bs) cs h g e = absurd (omega (arith, e))
pairs_long op (x ∷ xs) (y ∷ ys) (b ∷ bs) [] h g e = absurd (omega (arith, g))
pairs_long op (x ∷ xs) (y ∷ ys) (b ∷ bs) (c ∷ cs) h g e = λ i. suc (pairs_long op xs ys bs cs (omega (arith, h)) (omega (arith, g)) (omega (arith, e)) i)
