-- The root's values over columns of the parts.
use Rattle.std.proofs.Common.{◌≡◌, ℕ, zero, suc, ◌+◌, ◌<◌, ◌≤◌, ◌^◌, Bool, true, false, ◌||◌, ◌&&◌, None, List, [], ◌∷◌, map, zip, length, get_or, refl, ap, sym, subst, ◌∙◌, arith}
use Rattle.std.specs.List.{list_any, range_with_len}
use Rattle.scan_values.specs.DataType.{DataType, Name, fields_of}
use Rattle.scan_values.specs.NameFaults.{field_names}
use Rattle.scan_values.specs.Arrays.{ArrayData}
use Rattle.scan_values.specs.Marked.{chained}
use Rattle.scan_values.specs.Val.{Val, null_val, struct_val, vals_of, marked, marked_all}
use Rattle.scan_values.specs.Fits.{fits, fits_all, fits_fields}
use Rattle.scan_expr.specs.Bound.{Bound}
use Rattle.scan_expr.specs.Infer.{infer, struct_fields}
use Rattle.scan_expr.specs.Eval.{eval}
use Rattle.scan_expr.specs.Overflow.{overflows}
use Rattle.scan_expr.specs.Typing.{typing_fault}
use Rattle.scan_expr.proofs.Fitting.{and_left, and_right}
use Rattle.scan_expr.proofs.Sound.{eval_fits}
use Rattle.scan_columns.specs.Nested.{AreLong}
use Rattle.scan_columns.specs.Evaluated.{value_in, overflows_in}
use Rattle.scan_columns.specs.Rows.{item_at, struct_at, placed, part_rows, AreColumnsOf}
use Rattle.scan_columns.specs.Parts.{AllFitting}
use Rattle.scan_columns.specs.Joined.{AreAsLong, IsScopeOf, row_at, joined_at, root_overflows}
use Rattle.scan_columns.proofs.Evaluation.{neither, chain_marked}
use Rattle.scan_columns.proofs.RowLemmas.{clean_in}

abbrev pub lists_of : List ArrayData → List (List Val)
lists_of xs = map (λ (a : ArrayData). a.items) xs

-- ---- the parts as columns of the scope
names_long : (ns : List Name) (xs : List ArrayData) → length ns ≡ length xs → length (field_names (fields_of (zip ns (map (λ (a : ArrayData). a.dtype) xs)))) ≡ length (lists_of xs)
names_long [] [] h = refl
names_long [] (x ∷ xs) h = absurd (omega (arith, h))
names_long (n ∷ ns) [] h = absurd (omega (arith, h))
names_long (n ∷ ns) (x ∷ xs) h = λ i. suc (names_long ns xs (omega (arith, h)) i)

lists_long : (n : ℕ) (xs : List ArrayData) → AreAsLong n xs → AreLong n (lists_of xs)
lists_long n [] h = h
lists_long n (x ∷ xs) h = (h.0, lists_long n xs h.1)

pub columns_of_scope : (s : DataType) (n : ℕ) (xs : List ArrayData) → IsScopeOf xs s → AreAsLong n xs → AreColumnsOf s n (lists_of xs)
columns_of_scope s n xs h long = (ap (λ (d : DataType). length (field_names (struct_fields d))) h.2 ∙ names_long h.0 xs h.1, lists_long n xs long)

-- ---- a row
row_items : (xs : List ArrayData) (r : ℕ) → map (item_at r) (lists_of xs) ≡ map (λ (a : ArrayData). get_or a.items r null_val) xs
row_items [] r = refl
row_items (x ∷ xs) r = λ i. get_or x.items r null_val ∷ row_items xs r i

same_row : (xs : List ArrayData) (r : ℕ) → struct_at (lists_of xs) r ≡ row_at xs r
same_row xs r = ap (λ vs. struct_val (vals_of vs)) (row_items xs r)

over_rows : (root : Bound) (xs : List ArrayData) (rs : List ℕ) → overflows_in root.scope root.expr (map (placed (lists_of xs)) rs) ≡ list_any (λ r. overflows root.scope root.expr (marked (row_at xs r)) r) rs
over_rows root xs [] = refl
over_rows root xs (r ∷ rs) = λ i. overflows root.scope root.expr (marked (same_row xs r i)) r || over_rows root xs rs i

pub joined_overflows : (root : Bound) (xs : List ArrayData) (n : ℕ) → overflows_in root.scope root.expr (part_rows (lists_of xs) n) ≡ root_overflows root xs n
joined_overflows root xs n = over_rows root xs (range_with_len 0 n)

in_rows : (root : Bound) (xs : List ArrayData) (rs : List ℕ) → overflows_in root.scope root.expr (map (placed (lists_of xs)) rs) ≡ false
    → map marked (map (value_in root.scope root.expr) (map (placed (lists_of xs)) rs)) ≡ map (joined_at root xs) rs
in_rows root xs [] h = refl
in_rows root xs (r ∷ rs) h =
    let row : Val × ℕ = placed (lists_of xs) r in
    let p = neither (overflows root.scope root.expr (marked row.0) row.1) (overflows_in root.scope root.expr (map (placed (lists_of xs)) rs)) h in
    λ i. (clean_in root.scope root.expr row p.0 ∙ ap (λ (v : Val). eval root.scope root.expr (marked v) r) (same_row xs r)) i ∷ in_rows root xs rs p.1 i

pub joined_values : (root : Bound) (xs : List ArrayData) (n : ℕ) → overflows_in root.scope root.expr (part_rows (lists_of xs) n) ≡ false
    → map marked (map (value_in root.scope root.expr) (part_rows (lists_of xs) n)) ≡ map (joined_at root xs) (range_with_len 0 n)
joined_values root xs n h = in_rows root xs (range_with_len 0 n) h

-- ---- what the root gives fits
item_fits : (vs : List Val) (d : DataType) (k : ℕ) → k < length vs → fits_all (marked_all (vals_of vs)) d ≡ true → fits (marked (get_or vs k null_val)) d ≡ true
item_fits [] d k l h = absurd (omega arith)
item_fits (v ∷ vs) d zero l h = and_left (fits (marked v) d) (fits_all (marked_all (vals_of vs)) d) h
item_fits (v ∷ vs) d (suc k) l h = item_fits vs d k (omega arith) (and_right (fits (marked v) d) (fits_all (marked_all (vals_of vs)) d) h)

both_true : (a b : Bool) → a ≡ true → b ≡ true → (a && b) ≡ true
both_true a b h g = (λ i. h i && b) ∙ g

row_fits : (ns : List Name) (xs : List ArrayData) (n k : ℕ) → length ns ≡ length xs → AreAsLong n xs → AllFitting xs → k < n
    → fits_fields (marked_all (vals_of (map (λ (a : ArrayData). get_or a.items k null_val) xs))) (fields_of (zip ns (map (λ (a : ArrayData). a.dtype) xs))) ≡ true
row_fits [] [] n k e a f l = refl
row_fits [] (x ∷ xs) n k e a f l = absurd (omega arith)
row_fits (m ∷ ns) [] n k e a f l = absurd (omega arith)
row_fits (m ∷ ns) (x ∷ xs) n k e a f l =
    both_true (fits (marked (get_or x.items k null_val)) x.dtype)
    (fits_fields (marked_all (vals_of (map (λ (a : ArrayData). get_or a.items k null_val) xs))) (fields_of (zip ns (map (λ (a : ArrayData). a.dtype) xs))))
    (item_fits x.items x.dtype k (subst (λ m. k < m) (sym a.0) l) f.0) (row_fits ns xs n k (omega arith) a.1 f.1 l)

module _ (root : Bound) (xs : List ArrayData) (n : ℕ) (s : IsScopeOf xs root.scope) (a : AreAsLong n xs) (f : AllFitting xs) (small : n < 2 ^ 64) (t : typing_fault root.scope root.expr ≡ None) where
  one_fits : (k : ℕ) → k < n → fits (joined_at root xs k) (infer root.scope root.expr) ≡ true
  one_fits k l = eval_fits root.scope root.expr (marked (row_at xs k)) k (subst (λ (d : DataType). fits (marked (row_at xs k)) d ≡ true) (sym s.2) (row_fits s.0 xs n k s.1 a f l)) (omega arith) t

  rows_fit : (k m : ℕ) → k + m ≤ n → fits_all (chained (map (joined_at root xs) (range_with_len k m))) (infer root.scope root.expr) ≡ true
  rows_fit k zero l = refl
  rows_fit k (suc m) l =
      both_true (fits (joined_at root xs k) (infer root.scope root.expr)) (fits_all (chained (map (joined_at root xs) (range_with_len (k + 1) m))) (infer root.scope root.expr))
      (one_fits k (omega arith)) (rows_fit (k + 1) m (omega arith))

  pub joined_fit : (vs : List Val) → map marked vs ≡ map (joined_at root xs) (range_with_len 0 n) → fits_all (marked_all (vals_of vs)) (infer root.scope root.expr) ≡ true
  joined_fit vs h = ap (λ ms. fits_all ms (infer root.scope root.expr)) (chain_marked vs ∙ ap chained h) ∙ rows_fit 0 n (omega arith)
