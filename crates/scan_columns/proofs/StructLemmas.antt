-- The lengths of lists, the fields of structs, and structs joined to structs.
use Rattle.std.proofs.Common.{◌≡◌, ℕ, zero, suc, pos, ◌+◌, ◌<◌, ◌≤◌, Bool, true, false, cond, List, [], ◌∷◌, ◌++◌, map, take, drop, length, get_or, refl, ap, sym, ◌∙◌, append_assoc, arith}
use Rattle.std.specs.List.{list_all}
use Rattle.std.proofs.lemmas.List.{length-append, length-drop, length-map, append-nil}
use Rattle.scan_values.specs.DataType.{DataType, Name, Fields}
use Rattle.scan_values.specs.Masks.{null_where_false}
use Rattle.scan_values.specs.Val.{Val, null_val, int_val, vals_of, marked_all, read_marked, read-marked}
use Rattle.scan_expr.specs.Eval.{pick}
use Rattle.scan_expr.specs.Infer.{fields_or_none}
use Rattle.scan_expr.proofs.Picks.{length-listed, pick_at}
use Rattle.scan_columns.specs.declared.cells.Cells.{Cells}
use Rattle.scan_columns.specs.Cells.{vals_in}
use Rattle.scan_columns.specs.Nested.{cuts, total, list_of, struct_of, heads, rows_of, AreLong}
use Rattle.scan_columns.specs.Operands.{length_val, field_val}
use Rattle.scan_columns.specs.Rows.{IsPlaceOf, IsFieldIn}
use Rattle.scan_columns.specs.Typed.{typed}
use Rattle.scan_columns.proofs.NestedLemmas.{take_count, shorter, rows_length}
use Rattle.scan_columns.proofs.ListLemmas.{map_pushed}
use Rattle.scan_columns.proofs.TypedLemmas.{typed_append}

-- ---- the lengths of lists
count_one : (n : ℕ) (es : List Val) (b : Bool) → n ≤ length es → cond b (int_val (pos n)) null_val ≡ length_val (cond b (list_of (take n es)) null_val)
count_one n es true h = ap (λ k. int_val (pos k)) (sym (length-listed (take n es) ∙ take_count n es h))
count_one n es false h = refl

pub lists_lengths : (ns : List ℕ) (es : List Val) (bs : List Bool) → total ns ≡ length es → typed int_val (map pos ns) bs ≡ map length_val (typed list_of (cuts ns es) bs)
lists_lengths [] es bs h = refl
lists_lengths (n ∷ ns) es [] h = refl
lists_lengths (n ∷ ns) es (b ∷ bs) h = λ i. count_one n es b (omega (arith, h)) i ∷ lists_lengths ns (drop n es) bs (omega (arith, h, length-drop n es)) i

-- ---- the fields of structs
pub all_kept : (bs : List Bool) (vs : List Val) → list_all (λ b. b) bs ≡ true → length vs ≡ length bs → vs ≡ null_where_false bs vs
all_kept [] [] h e = refl
all_kept [] (v ∷ vs) h e = absurd (omega (arith, e))
all_kept (b ∷ bs) [] h e = refl
all_kept (true ∷ bs) (v ∷ vs) h e = λ i. v ∷ all_kept bs vs h (omega (arith, e)) i
all_kept (false ∷ bs) (v ∷ vs) h e = cc

column_split : (n p : ℕ) (cs : List (List Val)) → AreLong (suc n) cs → p < length cs → get_or cs p [] ≡ get_or (heads cs) p null_val ∷ get_or (map (drop 1) cs) p []
column_split n p [] h l = absurd (omega (arith, l))
column_split n p ([] ∷ cs) h l = absurd (omega (arith, h.0))
column_split n zero ((v ∷ vs) ∷ cs) h l = refl
column_split n (suc p) ((v ∷ vs) ∷ cs) h l = column_split n p cs h.1 (omega (arith, l))

heads_length : (n : ℕ) (cs : List (List Val)) → AreLong (suc n) cs → length (heads cs) ≡ length cs
heads_length n [] h = refl
heads_length n ([] ∷ cs) h = absurd (omega (arith, h.0))
heads_length n ((v ∷ vs) ∷ cs) h = λ i. suc (heads_length n cs h.1 i)

rest_length : (cs : List (List Val)) → length (map (drop 1) cs) ≡ length cs
rest_length [] = refl
rest_length (c ∷ cs) = λ i. suc (rest_length cs i)

field_one : (n : Name) (s : DataType) (p : ℕ) (vs : List Val) (b : Bool) → IsPlaceOf n s p → p < length vs → cond b (get_or vs p null_val) null_val ≡ field_val n s (cond b (struct_of vs) null_val)
field_one n s p vs true at l =
    sym (read-marked (get_or vs p null_val)) ∙ ap read_marked (sym (pick_at n at.0 vs p at.2 l))
    ∙ ap (λ (fs : Fields). read_marked (pick n fs (marked_all (vals_of vs)))) (sym (ap fields_or_none at.1))
field_one n s p vs false at l = refl

mask_one : (b : Bool) (bs : List Bool) (v : Val) (vs : List Val) → null_where_false (b ∷ bs) (v ∷ vs) ≡ cond b v null_val ∷ null_where_false bs vs
mask_one true bs v vs = refl
mask_one false bs v vs = refl

field_at : (n : Name) (s : DataType) (p : ℕ) (bs : List Bool) (cs : List (List Val)) → IsPlaceOf n s p → AreLong (length bs) cs → p < length cs → null_where_false bs (get_or cs p []) ≡ map (field_val n s) (typed struct_of (rows_of (length bs) cs) bs)
field_at n s p [] cs at h l = refl
field_at n s p (b ∷ bs) cs at h l =
    ap (null_where_false (b ∷ bs)) (column_split (length bs) p cs h l) ∙ mask_one b bs (get_or (heads cs) p null_val) (get_or (map (drop 1) cs) p [])
    ∙ (λ i. field_one n s p (heads cs) b at (omega (arith, l, heads_length (length bs) cs h)) i ∷ field_at n s p bs (map (drop 1) cs) at (shorter (length bs) cs h) (omega (arith, l, rest_length cs)) i)

pub field_masked : (n : Name) (s : DataType) (bs : List Bool) (cs : List (List Val)) (vs : List Val) → IsFieldIn n s cs vs → AreLong (length bs) cs → null_where_false bs vs ≡ map (field_val n s) (typed struct_of (rows_of (length bs) cs) bs)
field_masked n s bs cs vs at h = ap (null_where_false bs) at.3 ∙ field_at n s at.0 bs cs at.1 h at.2

long_get : (n p : ℕ) (cs : List (List Val)) → AreLong n cs → p < length cs → length (get_or cs p []) ≡ n
long_get n p [] h l = absurd (omega (arith, l))
long_get n zero (c ∷ cs) h l = h.0
long_get n (suc p) (c ∷ cs) h l = long_get n p cs h.1 (omega (arith, l))

pub field_long : (n : Name) (s : DataType) (k : ℕ) (cs : List (List Val)) (vs : List Val) → IsFieldIn n s cs vs → AreLong k cs → length vs ≡ k
field_long n s k cs vs at h = ap length at.3 ∙ long_get k at.0 cs h at.2

pub field_kept : (n : Name) (s : DataType) (bs : List Bool) (cs : List (List Val)) (vs : List Val) → IsFieldIn n s cs vs → AreLong (length bs) cs → list_all (λ b. b) bs ≡ true → vs ≡ map (field_val n s) (typed struct_of (rows_of (length bs) cs) bs)
field_kept n s bs cs vs at h all = all_kept bs vs all (field_long n s (length bs) cs vs at h) ∙ field_masked n s bs cs vs at h

-- ---- structs joined to structs
-- each column, and then another
abbrev pub extended : List (List Val) → List (List Val) → List (List Val)
extended [] ds = []
extended (c ∷ cs) [] = []
extended (c ∷ cs) (d ∷ ds) = (c ++ d) ∷ extended cs ds

first_extended : (n : ℕ) (cs ds : List (List Val)) → AreLong (suc n) cs → length ds ≡ length cs → heads (extended cs ds) ≡ heads cs
first_extended n [] ds h e = refl
first_extended n (c ∷ cs) [] h e = absurd (omega (arith, e))
first_extended n ([] ∷ cs) (d ∷ ds) h e = absurd (omega (arith, h.0))
first_extended n ((v ∷ vs) ∷ cs) (d ∷ ds) h e = λ i. v ∷ first_extended n cs ds h.1 (omega (arith, e)) i

rest_extended : (n : ℕ) (cs ds : List (List Val)) → AreLong (suc n) cs → length ds ≡ length cs → map (drop 1) (extended cs ds) ≡ extended (map (drop 1) cs) ds
rest_extended n [] ds h e = refl
rest_extended n (c ∷ cs) [] h e = absurd (omega (arith, e))
rest_extended n ([] ∷ cs) (d ∷ ds) h e = absurd (omega (arith, h.0))
rest_extended n ((v ∷ vs) ∷ cs) (d ∷ ds) h e = λ i. (vs ++ d) ∷ rest_extended n cs ds h.1 (omega (arith, e)) i

none_extended : (cs ds : List (List Val)) → AreLong 0 cs → length ds ≡ length cs → extended cs ds ≡ ds
none_extended [] [] h e = refl
none_extended [] (d ∷ ds) h e = absurd (omega (arith, e))
none_extended (c ∷ cs) [] h e = absurd (omega (arith, e))
none_extended ([] ∷ cs) (d ∷ ds) h e = λ i. d ∷ none_extended cs ds h.1 (omega (arith, e)) i
none_extended ((v ∷ vs) ∷ cs) (d ∷ ds) h e = absurd (omega (arith, h.0))

rows_extended : (n m : ℕ) (cs ds : List (List Val)) → AreLong n cs → length ds ≡ length cs → rows_of (n + m) (extended cs ds) ≡ rows_of n cs ++ rows_of m ds
rows_extended zero m cs ds h e = let none : 0 + m ≡ m = omega arith in λ i. rows_of (none i) (none_extended cs ds h e i)
rows_extended (suc n) m cs ds h e =
    let next : suc n + m ≡ suc (n + m) = omega arith in
    (λ i. rows_of (next i) (extended cs ds)) ∙ (λ i. first_extended n cs ds h e i ∷ rows_of (n + m) (rest_extended n cs ds h e i))
    ∙ (λ i. heads cs ∷ rows_extended n m (map (drop 1) cs) ds (shorter n cs h) (omega (arith, e, rest_length cs)) i)

pub structs_append : (bs es : List Bool) (cs ds : List (List Val)) → AreLong (length bs) cs → length ds ≡ length cs
    → typed struct_of (rows_of (length (bs ++ es)) (extended cs ds)) (bs ++ es) ≡ typed struct_of (rows_of (length bs) cs) bs ++ typed struct_of (rows_of (length es) ds) es
structs_append bs es cs ds h e =
    (λ i. typed struct_of (rows_of (length-append bs es i) (extended cs ds)) (bs ++ es))
    ∙ (λ i. typed struct_of (rows_extended (length bs) (length es) cs ds h e i) (bs ++ es))
    ∙ typed_append struct_of (rows_of (length bs) cs) (rows_of (length es) ds) bs es (sym (rows_length (length bs) cs))

pub long_extended : (m n : ℕ) (cs ds : List (List Val)) → AreLong m cs → AreLong n ds → AreLong (m + n) (extended cs ds)
long_extended m n [] ds h k = tt
long_extended m n (c ∷ cs) [] h k = tt
long_extended m n (c ∷ cs) (d ∷ ds) h k = (length-append c d ∙ (λ i. h.0 i + k.0 i), long_extended m n cs ds h.1 k.1)

-- a loop over the fields of both
pub extend_step : (xs ys later rest : List Cells) (x y z : Cells) (made more : List Cells) (whole : List (List Val)) → xs ≡ x ∷ later → ys ≡ y ∷ rest → vals_in z ≡ vals_in x ++ vals_in y → more ≡ made ++ (z ∷ [])
    → map vals_in made ++ extended (map vals_in xs) (map vals_in ys) ≡ whole → map vals_in more ++ extended (map vals_in later) (map vals_in rest) ≡ whole
extend_step xs ys later rest x y z made more whole ex ey v m inv =
    let others = extended (map vals_in later) (map vals_in rest) in
    (λ i. map vals_in (m i) ++ others) ∙ (λ i. map_pushed vals_in made z i ++ others) ∙ append_assoc (map vals_in made) (vals_in z ∷ []) others
    ∙ (λ i. map vals_in made ++ (v i ∷ others)) ∙ (λ i. map vals_in made ++ extended (map vals_in (sym ex i)) (map vals_in (sym ey i))) ∙ inv

pub extend_done : (xs ys made : List Cells) (whole : List (List Val)) → xs ≡ [] → map vals_in made ++ extended (map vals_in xs) (map vals_in ys) ≡ whole → map vals_in made ≡ whole
extend_done xs ys made whole e inv = sym (append-nil (map vals_in made)) ∙ (λ i. map vals_in made ++ extended (map vals_in (sym e i)) (map vals_in ys)) ∙ inv

pub as_many : (xs ys cells others : List Cells) → xs ≡ cells → ys ≡ others → length ys ≡ length xs → length (map vals_in others) ≡ length (map vals_in cells)
as_many xs ys cells others a b e = length-map others vals_in ∙ ap length (sym b) ∙ e ∙ ap length a ∙ sym (length-map cells vals_in)

pub none_left : (xs : List Cells) (n : ℕ) → n ≡ length xs → n ≡ 0 → xs ≡ []
none_left [] n h e = refl
none_left (x ∷ xs) n h e = absurd (omega (arith, h, e))
