-- Rows of columns, and the root's value on each.
use Rattle.std.proofs.Common.{◌≡◌, ℕ, ◌+◌, ◌<◌, ◌≤◌, ◌^◌, zero, suc, Bool, true, false, ◌&&◌, ◌||◌, None, List, [], ◌∷◌, ◌++◌, length, map, zip, get_or, take, drop, set, refl, ap, sym, subst, ◌∙◌, arith, add-one, append_assoc}
use Rattle.std.specs.List.{list_any, range_with_len}
use Rattle.std.proofs.lemmas.List.{length-map, at_drop_more, drop_more, drop_all, drop-set-lt, take_more_set, map-append, append-nil}
use Rattle.std.proofs.lemmas.List.FromFn.{map-range_with_len_more}
use Rattle.scan_values.specs.DataType.{DataType, Name, fields_of}
use Rattle.scan_values.specs.declared.value.Value.{Value}
use Rattle.scan_values.specs.Arrays.{ArrayData}
use Rattle.scan_values.specs.Marked.{chained}
use Rattle.scan_values.specs.Values.{val_of}
use Rattle.scan_values.specs.Val.{Val, null_val, struct_val, vals_of, marked, marked_all}
use Rattle.scan_values.specs.Fits.{fits, fits_all, fits_fields}
use Rattle.scan_expr.specs.Bound.{Bound}
use Rattle.scan_expr.specs.Infer.{infer}
use Rattle.scan_expr.specs.Eval.{eval}
use Rattle.scan_expr.specs.Overflow.{overflows}
use Rattle.scan_expr.specs.Typing.{typing_fault}
use Rattle.scan_expr.proofs.Evals.{mark}
use Rattle.scan_expr.proofs.Fitting.{and_left, and_right}
use Rattle.scan_expr.proofs.Sound.{eval_fits}
use Rattle.scan_partition.proofs.Loops.{take_whole}
use Rattle.scan_partition.specs.Joining.{heads, AreAsLong, AreFitting, IsScopeOf, row_at, joined_at, root_overflows}

-- ---- a row, column by column
module _ (cs : List (List Val)) (k : ℕ) (c : List Val) (l : k < length cs) (e : c ≡ get_or cs k c) where
  pub row_more : (row more new whole : List Val) → more ≡ row ++ take 1 c → row ++ heads (drop k cs) ≡ whole → more ++ heads (drop (k + 1) (set cs k new)) ≡ whole
  row_more row more new whole m h =
      (λ i. m i ++ heads (drop-set-lt (k + 1) cs k new (omega arith) i)) ∙ append_assoc row (take 1 c) (heads (drop (k + 1) cs))
      ∙ ap (λ (d : List Val). row ++ (take 1 d ++ heads (drop (k + 1) cs))) e ∙ ap (λ r. row ++ r) (sym (at_drop_more heads cs k c l)) ∙ h

  pub rest_more : (new : List Val) (whole : List (List Val)) → new ≡ drop 1 c → take k cs ++ map (drop 1) (drop k cs) ≡ whole → take (k + 1) (set cs k new) ++ map (drop 1) (drop (k + 1) (set cs k new)) ≡ whole
  rest_more new whole n h =
      (λ i. take_more_set cs k new l i ++ map (drop 1) (drop-set-lt (k + 1) cs k new (omega arith) i)) ∙ append_assoc (take k cs) (new ∷ []) (map (drop 1) (drop (k + 1) cs))
      ∙ ap (λ (d : List Val). take k cs ++ (d ∷ map (drop 1) (drop (k + 1) cs))) (n ∙ ap (drop 1) e) ∙ ap (λ r. take k cs ++ r) (sym (at_drop_more (map (drop 1)) cs k c l)) ∙ h

pub row_done : (cs : List (List Val)) (k : ℕ) (row whole : List Val) → length cs ≤ k → row ++ heads (drop k cs) ≡ whole → row ≡ whole
row_done cs k row whole l h = sym (append-nil row) ∙ ap (λ ds. row ++ heads ds) (sym (drop_all k cs l)) ∙ h

-- ---- the rows of arrays
one_item : (vs : List Val) (k : ℕ) → k < length vs → take 1 (drop k vs) ≡ get_or vs k null_val ∷ []
one_item vs k l = ap (take 1) (drop_more vs k null_val l)

pub heads_at : (xs : List ArrayData) (n k : ℕ) → AreAsLong n xs → k < n → heads (map (drop k) (map (λ (a : ArrayData). a.items) xs)) ≡ map (λ (a : ArrayData). get_or a.items k null_val) xs
heads_at [] n k a l = refl
heads_at (x ∷ xs) n k a l = λ i. one_item x.items k (subst (λ m. k < m) (sym a.0) l) i ++ heads_at xs n k a.1 l i

drop_next : (vs : List Val) (k : ℕ) → drop 1 (drop k vs) ≡ drop (k + 1) vs
drop_next vs k = go vs k ∙ ap (λ n. drop n vs) (sym (add-one k))
  where
    go : (vs : List Val) (k : ℕ) → drop 1 (drop k vs) ≡ drop (suc k) vs
    go [] zero = refl
    go [] (suc k) = refl
    go (v ∷ vs) zero = refl
    go (v ∷ vs) (suc k) = go vs k

pub next_columns : (cs : List (List Val)) (k : ℕ) → map (drop 1) (map (drop k) cs) ≡ map (drop (k + 1)) cs
next_columns [] k = refl
next_columns (c ∷ cs) k = λ i. drop_next c k i ∷ next_columns cs k i

pub all_columns : (cs : List (List Val)) → cs ≡ map (drop 0) cs
all_columns [] = refl
all_columns (c ∷ cs) = ap (λ ds. c ∷ ds) (all_columns cs)

-- what a loan of a whole list writes back
pub whole_back : {A : Type 0} (n : ℕ) (old new : List A) → n ≡ length old → length new ≡ length old → take n (new ++ drop (length new) old) ≡ new
whole_back n old new h g =
    ap (λ xs. take n (new ++ xs)) (drop_all (length new) old (omega arith)) ∙ ap (take n) (append-nil new) ∙ take_whole new n (omega arith)

pub next_count : (cs ds : List (List Val)) → ds ≡ map (drop 1) cs → length ds ≡ length cs
next_count cs ds h = ap length h ∙ length-map cs (drop 1)

pub row_read : (xs : List ArrayData) (n k : ℕ) (cs : List (List Val)) (v : Val) → AreAsLong n xs → k < n → v ≡ struct_val (vals_of (heads cs)) → cs ≡ map (drop k) (map (λ (a : ArrayData). a.items) xs) → v ≡ row_at xs k
row_read xs n k cs v a l h e = h ∙ ap (λ ds. struct_val (vals_of (heads ds))) e ∙ ap (λ vs. struct_val (vals_of vs)) (heads_at xs n k a l)

pub one_joined : (root : Bound) (xs : List ArrayData) (k : ℕ) (done more : List Value) (row : Val) (v : Value) → more ≡ done ++ v ∷ [] → marked (val_of v) ≡ eval root.scope root.expr (marked row) k → row ≡ row_at xs k → map mark done ≡ map (joined_at root xs) (range_with_len 0 k)
    → map mark more ≡ map (joined_at root xs) (range_with_len 0 (k + 1))
one_joined root xs k done more row v m e r h =
    ap (map mark) m ∙ map-append mark done (v ∷ [])
    ∙ (λ i. h i ++ (e ∙ ap (λ (w : Val). eval root.scope root.expr (marked w) k) r) i ∷ [])
    ∙ sym (map-range_with_len_more (joined_at root xs) 0 k k (omega arith))

-- ---- what the root gives fits
item_fits : (vs : List Val) (d : DataType) (k : ℕ) → k < length vs → fits_all (marked_all (vals_of vs)) d ≡ true → fits (marked (get_or vs k null_val)) d ≡ true
item_fits [] d k l h = absurd (omega arith)
item_fits (v ∷ vs) d zero l h = and_left (fits (marked v) d) (fits_all (marked_all (vals_of vs)) d) h
item_fits (v ∷ vs) d (suc k) l h = item_fits vs d k (omega arith) (and_right (fits (marked v) d) (fits_all (marked_all (vals_of vs)) d) h)

both_true : (a b : Bool) → a ≡ true → b ≡ true → (a && b) ≡ true
both_true a b h g = (λ i. h i && b) ∙ g

row_fits : (ns : List Name) (xs : List ArrayData) (n k : ℕ) → length ns ≡ length xs → AreAsLong n xs → AreFitting xs → k < n → fits_fields (marked_all (vals_of (map (λ (a : ArrayData). get_or a.items k null_val) xs))) (fields_of (zip ns (map (λ (a : ArrayData). a.dtype) xs))) ≡ true
row_fits [] [] n k e a f l = refl
row_fits [] (x ∷ xs) n k e a f l = absurd (omega arith)
row_fits (m ∷ ns) [] n k e a f l = absurd (omega arith)
row_fits (m ∷ ns) (x ∷ xs) n k e a f l =
    both_true (fits (marked (get_or x.items k null_val)) x.dtype) (fits_fields (marked_all (vals_of (map (λ (a : ArrayData). get_or a.items k null_val) xs))) (fields_of (zip ns (map (λ (a : ArrayData). a.dtype) xs))))
    (item_fits x.items x.dtype k (subst (λ m. k < m) (sym a.0) l) f.0) (row_fits ns xs n k (omega arith) a.1 f.1 l)

module _ (root : Bound) (xs : List ArrayData) (n : ℕ) (s : IsScopeOf xs root.scope) (a : AreAsLong n xs) (f : AreFitting xs) (small : n < 2 ^ 64) (t : typing_fault root.scope root.expr ≡ None) where
  one_fits : (k : ℕ) → k < n → fits (joined_at root xs k) (infer root.scope root.expr) ≡ true
  one_fits k l = eval_fits root.scope root.expr (marked (row_at xs k)) k (subst (λ (d : DataType). fits (marked (row_at xs k)) d ≡ true) (sym s.2) (row_fits s.0 xs n k s.1 a f l)) (omega arith) t

  rows_fit : (k m : ℕ) → k + m ≤ n → fits_all (chained (map (joined_at root xs) (range_with_len k m))) (infer root.scope root.expr) ≡ true
  rows_fit k zero l = refl
  rows_fit k (suc m) l =
      both_true (fits (joined_at root xs k) (infer root.scope root.expr)) (fits_all (chained (map (joined_at root xs) (range_with_len (k + 1) m))) (infer root.scope root.expr))
      (one_fits k (omega arith)) (rows_fit (k + 1) m (omega arith))

  pub joined_fit : fits_all (chained (map (joined_at root xs) (range_with_len 0 n))) (infer root.scope root.expr) ≡ true
  joined_fit = rows_fit 0 n (omega arith)

-- ---- where the root overflows
none_of : (f : ℕ → Bool) (a n : ℕ) → ((r : ℕ) → r < a + n → f r ≡ false) → list_any f (range_with_len a n) ≡ false
none_of f a zero h = refl
none_of f a (suc n) h = λ i. h a (omega arith) i || none_of f (a + 1) n (λ r l. h r (omega arith)) i

or_first : (a b : Bool) → a ≡ true → a || b ≡ true
or_first a b h = ap (λ c. c || b) h

or_second : (a b : Bool) → b ≡ true → a || b ≡ true
or_second true b h = refl
or_second false b h = h

-- the row at distance d from the first
one_of : (f : ℕ → Bool) (a n d : ℕ) → d < n → f (a + d) ≡ true → list_any f (range_with_len a n) ≡ true
one_of f a zero d l h = absurd (omega arith)
one_of f a (suc n) zero l h = or_first (f a) (list_any f (range_with_len (a + 1) n)) (let e : a + 0 ≡ a = omega arith in subst (λ m. f m ≡ true) e h)
one_of f a (suc n) (suc d) l h = or_second (f a) (list_any f (range_with_len (a + 1) n)) (let e : a + suc d ≡ (a + 1) + d = omega arith in one_of f (a + 1) n d (omega arith) (subst (λ m. f m ≡ true) e h))

pub none_overflows : (root : Bound) (xs : List ArrayData) (n : ℕ) → ((r : ℕ) → r < n → overflows root.scope root.expr (marked (row_at xs r)) r ≡ false) → root_overflows root xs n ≡ false
none_overflows root xs n h = none_of (λ r. overflows root.scope root.expr (marked (row_at xs r)) r) 0 n (λ r l. h r (omega arith))

pub one_overflows : (root : Bound) (xs : List ArrayData) (n r : ℕ) → r < n → overflows root.scope root.expr (marked (row_at xs r)) r ≡ true → root_overflows root xs n ≡ true
one_overflows root xs n r l h = let e : r ≡ 0 + r = omega arith in one_of (λ k. overflows root.scope root.expr (marked (row_at xs k)) k) 0 n r l (subst (λ k. overflows root.scope root.expr (marked (row_at xs k)) k ≡ true) e h)
