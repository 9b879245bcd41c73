-- The values of expressions in rows.
use Rattle.std.proofs.Common.{◌≡◌, ℕ, zero, suc, ◌+◌, ◌<◌, ◌≤◌, Bool, true, false, ◌||◌, List, [], ◌∷◌, ◌++◌, pos, bytes_eq, map, take, drop, length, replicate, get_or, add-one, refl, ap, sym, subst, ◌∙◌, arith}
use Rattle.std.specs.List.{All, AllByRecursion, list_any, range_with_len}
use Rattle.std.proofs.lemmas.List.Elements.{recursion_from_All}
use Rattle.std.proofs.lemmas.List.{length-map, drop_more}
use Rattle.std.proofs.lemmas.List.Quantifiers.{position-Some}
use Rattle.std.proofs.lemmas.List.FromFn.{length-map-range_with_len, map-range_with_len_more, fill_by_all}
use Rattle.scan_values.specs.DataType.{DataType, Name, Fields}
use Rattle.scan_values.specs.FieldLists.{names_of}
use Rattle.scan_values.specs.NameFaults.{field_names}
use Rattle.scan_values.specs.declared.ptype.Nullability.{Nullability}
use Rattle.scan_values.specs.Val.{Val, val, null_val, int_val, struct_val, vals_of, marked, marked_all, read_marked, read_all, read-marked, marked-read, is_clean-marked}
use Rattle.scan_expr.specs.declared.op.Unary.{Unary}
use Rattle.scan_expr.specs.declared.op.Unary.TheVariants.{GetItem}
use Rattle.scan_expr.specs.declared.op.Binary.{Binary}
use Rattle.scan_expr.specs.Expr.{Expr, is_root, root, row_index, literal, unary, binary, pack, parts_of}
use Rattle.scan_expr.specs.Bound.{Bound, exprs_of}
use Rattle.scan_expr.specs.Eval.{eval, eval_all, unary_value, binary_value, pick}
use Rattle.scan_expr.specs.Infer.{infer, binary_type, fields_or_none, struct_fields}
use Rattle.scan_expr.specs.Overflow.{overflows, overflows_on, spills}
use Rattle.scan_expr.proofs.Clean.{eval_clean}
use Rattle.scan_expr.proofs.Evals.{part_overflows, pack_overflows}
use Rattle.scan_expr.proofs.Picks.{pick_at}
use Rattle.scan_expr.proofs.Placing.{names-fields}
use Rattle.scan_columns.specs.declared.cells.Cells.{Cells}
use Rattle.scan_columns.specs.Cells.{vals_in}
use Rattle.scan_columns.specs.Nested.{AreLong, heads, struct_of, rows_of}
use Rattle.scan_columns.specs.Typed.{typed}
use Rattle.scan_columns.specs.Evaluated.{value_on, value_in, overflows_in, unary_val, binary_val, paired, spills_in}
use Rattle.scan_columns.specs.Rows.{item_at, struct_at, placed, part_rows, unnumbered, row_value, row_number, AreColumnsOf, IsFieldAt, bound_in, bound_overflows_in}
use Rattle.scan_columns.proofs.Evaluation.{neither}

-- ---- how many rows
pub whole_length : (vs : List Val) → length (map unnumbered vs) ≡ length vs
whole_length [] = refl
whole_length (v ∷ vs) = λ i. suc (whole_length vs i)

pub parts_length : (columns : List (List Val)) (n : ℕ) → length (part_rows columns n) ≡ n
parts_length columns n = length-map-range_with_len (placed columns) 0 n

-- ---- one column
pub whole_values : (s : DataType) (e : Expr) (vs : List Val) → map (value_in s e) (map unnumbered vs) ≡ map (value_on s e) vs
whole_values s e [] = refl
whole_values s e (v ∷ vs) = λ i. value_on s e v ∷ whole_values s e vs i

pub whole_overflows : (s : DataType) (e : Expr) (vs : List Val) → overflows_in s e (map unnumbered vs) ≡ overflows_on s e vs
whole_overflows s e [] = refl
whole_overflows s e (v ∷ vs) = λ i. overflows s e (marked v) 0 || whole_overflows s e vs i

pub whole_firsts : (vs : List Val) → vs ≡ map row_value (map unnumbered vs)
whole_firsts [] = refl
whole_firsts (v ∷ vs) = λ i. v ∷ whole_firsts vs i

pub whole_numbers : (vs : List Val) → replicate (length vs) (int_val (pos 0)) ≡ map row_number (map unnumbered vs)
whole_numbers [] = refl
whole_numbers (v ∷ vs) = λ i. int_val (pos 0) ∷ whole_numbers vs i

pub is_root_is : (e : Expr) → is_root e ≡ true → e ≡ root
is_root_is root h = refl
is_root_is row_index h = cc
is_root_is (literal d v) h = cc
is_root_is (unary u e) h = cc
is_root_is (binary b x y) h = cc
is_root_is (pack ps n) h = cc

pub whole_none : (s : DataType) (e : Expr) (vs : List Val) → is_root e ≡ true → overflows_on s e vs ≡ false
whole_none s e vs h = subst (λ (x : Expr). overflows_on s x vs ≡ false) (sym (is_root_is e h)) (go vs)
  where
    go : (vs : List Val) → overflows_on s root vs ≡ false
    go [] = refl
    go (v ∷ vs) = go vs

-- ---- a node
pub clean_in : (s : DataType) (e : Expr) (row : Val × ℕ) → overflows s e (marked row.0) row.1 ≡ false → marked (value_in s e row) ≡ eval s e (marked row.0) row.1
clean_in s e row h = marked-read (eval s e (marked row.0) row.1) (eval_clean s e (marked row.0) row.1 (is_clean-marked row.0) h)

pub root_in : (s : DataType) (rows : List (Val × ℕ)) → map row_value rows ≡ map (value_in s root) rows
root_in s [] = refl
root_in s (r ∷ rows) = λ i. sym (read-marked r.0) i ∷ root_in s rows i

pub root_none : (s : DataType) (rows : List (Val × ℕ)) → overflows_in s root rows ≡ false
root_none s [] = refl
root_none s (r ∷ rows) = root_none s rows

pub number_in : (s : DataType) (rows : List (Val × ℕ)) → map row_number rows ≡ map (value_in s row_index) rows
number_in s [] = refl
number_in s (r ∷ rows) = λ i. int_val (pos r.1) ∷ number_in s rows i

pub number_none : (s : DataType) (rows : List (Val × ℕ)) → overflows_in s row_index rows ≡ false
number_none s [] = refl
number_none s (r ∷ rows) = number_none s rows

pub literal_in : (s d : DataType) (w : Val) (rows : List (Val × ℕ)) → replicate (length rows) w ≡ map (value_in s (literal d w)) rows
literal_in s d w [] = refl
literal_in s d w (r ∷ rows) = λ i. sym (read-marked w) i ∷ literal_in s d w rows i

pub literal_none : (s d : DataType) (w : Val) (rows : List (Val × ℕ)) → overflows_in s (literal d w) rows ≡ false
literal_none s d w [] = refl
literal_none s d w (r ∷ rows) = literal_none s d w rows

pub unary_in : (u : Unary) (s : DataType) (e : Expr) (rows : List (Val × ℕ)) → overflows_in s e rows ≡ false → map (unary_val u (infer s e)) (map (value_in s e) rows) ≡ map (value_in s (unary u e)) rows
unary_in u s e [] h = refl
unary_in u s e (r ∷ rows) h =
    let p = neither (overflows s e (marked r.0) r.1) (overflows_in s e rows) h in
    λ i. read_marked (unary_value u (infer s e) (clean_in s e r p.0 i)) ∷ unary_in u s e rows p.1 i

pub binary_in : (o : Binary) (s : DataType) (x y : Expr) (rows : List (Val × ℕ)) → overflows_in s x rows ≡ false → overflows_in s y rows ≡ false
    → paired (binary_val o (binary_type o (infer s x) (infer s y))) (map (value_in s x) rows) (map (value_in s y) rows) ≡ map (value_in s (binary o x y)) rows
binary_in o s x y [] h k = refl
binary_in o s x y (r ∷ rows) h k =
    let p = neither (overflows s x (marked r.0) r.1) (overflows_in s x rows) h in
    let q = neither (overflows s y (marked r.0) r.1) (overflows_in s y rows) k in
    λ i. read_marked (binary_value o (binary_type o (infer s x) (infer s y)) (clean_in s x r p.0 i) (clean_in s y r q.0 i)) ∷ binary_in o s x y rows p.1 q.1 i

pub binary_spills : (o : Binary) (s : DataType) (x y : Expr) (rows : List (Val × ℕ)) → overflows_in s x rows ≡ false → overflows_in s y rows ≡ false
    → overflows_in s (binary o x y) rows ≡ spills_in o (binary_type o (infer s x) (infer s y)) (map (value_in s x) rows) (map (value_in s y) rows)
binary_spills o s x y [] h k = refl
binary_spills o s x y (r ∷ rows) h k =
    let p = neither (overflows s x (marked r.0) r.1) (overflows_in s x rows) h in
    let q = neither (overflows s y (marked r.0) r.1) (overflows_in s y rows) k in
    λ i. (p.0 i || (q.0 i || spills o (binary_type o (infer s x) (infer s y)) (sym (clean_in s x r p.0) i) (sym (clean_in s y r q.0) i))) || binary_spills o s x y rows p.1 q.1 i

or_second : (a b : Bool) → b ≡ true → (a || b) ≡ true
or_second true b h = refl
or_second false b h = h

first_of : (a b c rest all : Bool) → (a || rest) ≡ true → (rest ≡ true → all ≡ true) → ((a || (b || c)) || all) ≡ true
first_of true b c rest all h k = refl
first_of false b c rest all h k = or_second (b || c) all (k h)

second_of : (a b c rest all : Bool) → (b || rest) ≡ true → (rest ≡ true → all ≡ true) → ((a || (b || c)) || all) ≡ true
second_of true b c rest all h k = refl
second_of false true c rest all h k = refl
second_of false false c rest all h k = or_second c all (k h)

pub binary_first : (o : Binary) (s : DataType) (x y : Expr) (rows : List (Val × ℕ)) → overflows_in s x rows ≡ true → overflows_in s (binary o x y) rows ≡ true
binary_first o s x y [] h = h
binary_first o s x y (r ∷ rows) h =
    first_of (overflows s x (marked r.0) r.1) (overflows s y (marked r.0) r.1) (spills o (binary_type o (infer s x) (infer s y)) (eval s x (marked r.0) r.1) (eval s y (marked r.0) r.1))
    (overflows_in s x rows) (overflows_in s (binary o x y) rows) h (binary_first o s x y rows)

pub binary_second : (o : Binary) (s : DataType) (x y : Expr) (rows : List (Val × ℕ)) → overflows_in s y rows ≡ true → overflows_in s (binary o x y) rows ≡ true
binary_second o s x y [] h = h
binary_second o s x y (r ∷ rows) h =
    second_of (overflows s x (marked r.0) r.1) (overflows s y (marked r.0) r.1) (spills o (binary_type o (infer s x) (infer s y)) (eval s x (marked r.0) r.1) (eval s y (marked r.0) r.1))
    (overflows_in s y rows) (overflows_in s (binary o x y) rows) h (binary_second o s x y rows)

-- ---- a struct of expressions
pub get_map : {A B : Type 0} (f : A → B) (xs : List A) (k : ℕ) (a : A) (b : B) → k < length xs → get_or (map f xs) k b ≡ f (get_or xs k a)
get_map f [] k a b l = absurd (omega (arith, l))
get_map f (x ∷ xs) zero a b l = refl
get_map f (x ∷ xs) (suc k) a b l = get_map f xs k a b (omega (arith, l))

parts_in : (s : DataType) (ns : List Name) (bs : List Bound) (row : Val × ℕ) → AllByRecursion (λ b. b.scope ≡ s) bs → read_all (eval_all s (parts_of ns (exprs_of bs)) (marked row.0) row.1) ≡ vals_of (map (λ (b : Bound). value_in b.scope b.expr row) bs)
parts_in s ns [] row h = refl
parts_in s [] (b ∷ bs) row h = λ i. val (read_marked (eval (sym h.0 i) b.expr (marked row.0) row.1)) (parts_in s [] bs row h.1 i)
parts_in s (n ∷ ns) (b ∷ bs) row h = λ i. val (read_marked (eval (sym h.0 i) b.expr (marked row.0) row.1)) (parts_in s ns bs row h.1 i)

each_item : (bs : List Bound) (rows : List (Val × ℕ)) (k : ℕ) (d : Val × ℕ) → k < length rows → map (item_at k) (map (bound_in rows) bs) ≡ map (λ (b : Bound). value_in b.scope b.expr (get_or rows k d)) bs
each_item [] rows k d l = refl
each_item (b ∷ bs) rows k d l = λ i. get_map (value_in b.scope b.expr) rows k d null_val l i ∷ each_item bs rows k d l i

pub pack_in : (s : DataType) (ns : List Name) (n : Nullability) (bs : List Bound) (rows : List (Val × ℕ)) → All (λ b. b.scope ≡ s) bs
    → map (struct_at (map (bound_in rows) bs)) (range_with_len 0 (length rows)) ≡ map (value_in s (pack (parts_of ns (exprs_of bs)) n)) rows
pack_in s ns n bs rows h =
    let f : Val × ℕ → Val = value_in s (pack (parts_of ns (exprs_of bs)) n) in
    let d : Val × ℕ = unnumbered null_val in
    sym (fill_by_all (struct_at (map (bound_in rows) bs)) (map f rows) (length rows) null_val (length-map rows f)
    (λ k l. get_map f rows k d null_val l ∙ ap struct_val (parts_in s ns bs (get_or rows k d) (recursion_from_All (λ b. b.scope ≡ s) bs h)) ∙ ap (λ vs. struct_val (vals_of vs)) (sym (each_item bs rows k d l))))

never_none : (bs : List Bound) → list_any (bound_overflows_in []) bs ≡ false
never_none [] = refl
never_none (b ∷ bs) = never_none bs

or_swap : (a b c d : Bool) → ((a || b) || (c || d)) ≡ ((a || c) || (b || d))
or_swap true b c d = refl
or_swap false true true d = refl
or_swap false true false d = refl
or_swap false false c d = refl

any_more : (bs : List Bound) (r : Val × ℕ) (rows : List (Val × ℕ)) → (part_overflows (marked r.0) r.1 bs || list_any (bound_overflows_in rows) bs) ≡ list_any (bound_overflows_in (r ∷ rows)) bs
any_more [] r rows = refl
any_more (b ∷ bs) r rows =
    or_swap (overflows b.scope b.expr (marked r.0) r.1) (part_overflows (marked r.0) r.1 bs) (bound_overflows_in rows b) (list_any (bound_overflows_in rows) bs)
    ∙ ap (λ c. bound_overflows_in (r ∷ rows) b || c) (any_more bs r rows)

pub pack_over : (s : DataType) (ns : List Name) (n : Nullability) (bs : List Bound) (rows : List (Val × ℕ)) → All (λ b. b.scope ≡ s) bs
    → list_any (bound_overflows_in rows) bs ≡ overflows_in s (pack (parts_of ns (exprs_of bs)) n) rows
pack_over s ns n bs [] h = never_none bs
pack_over s ns n bs (r ∷ rows) h =
    sym (any_more bs r rows) ∙ (λ i. sym (pack_overflows s ns n bs (marked r.0) r.1 h) i || pack_over s ns n bs rows h i)

-- ---- a part
each_long : (columns : List (List Val)) (n p : ℕ) → AreLong n columns → p < length columns → length (get_or columns p []) ≡ n
each_long [] n p h l = absurd (omega (arith, l))
each_long (vs ∷ columns) n zero h l = h.0
each_long (vs ∷ columns) n (suc p) h l = each_long columns n p h.1 (omega (arith, l))

map_twice : {A B C : Type 0} (f : B → C) (g : A → B) (xs : List A) → map (λ x. f (g x)) xs ≡ map f (map g xs)
map_twice f g [] = refl
map_twice f g (x ∷ xs) = λ i. f (g x) ∷ map_twice f g xs i

pub part_in : (s : DataType) (e : Expr) (p n : ℕ) (columns : List (List Val)) → IsFieldAt s e p → AreLong n columns → p < length columns → get_or columns p [] ≡ map (value_in s e) (part_rows columns n)
part_in s e p n columns at long l =
    let vs = get_or columns p [] in
    let f : ℕ → Val = λ r. value_in s e (placed columns r) in
    let fields = ap fields_or_none at.1.1 in
    let one : (k : ℕ) → k < n → get_or vs k null_val ≡ f k =
    λ k b. sym (get_map (item_at k) columns p [] null_val l) ∙ sym (read-marked (get_or (map (item_at k) columns) p null_val))
    ∙ ap read_marked (sym (pick_at at.0 at.1.0 (map (item_at k) columns) p at.1.2 (omega (arith, l, length-map columns (item_at k)))))
    ∙ ap (λ (fs : Fields). read_marked (pick at.0 fs (marked_all (vals_of (map (item_at k) columns))))) (sym fields)
    ∙ ap (λ (x : Expr). value_in s x (placed columns k)) (sym at.2) in
    fill_by_all f vs n null_val (each_long columns n p long l) one ∙ map_twice (value_in s e) (placed columns) (range_with_len 0 n)

pub place_within : (s : DataType) (e : Expr) (p n : ℕ) (columns : List (List Val)) → IsFieldAt s e p → AreColumnsOf s n columns → p < length columns
place_within s e p n columns at over =
    let fs = at.1.0 in
    let names : field_names (struct_fields s) ≡ names_of fs = ap (λ o. field_names (fields_or_none o)) at.1.1 ∙ names-fields fs in
    let found = position-Some (bytes_eq at.0) (names_of fs) p [] (sym at.1.2) in
    omega (arith, found.0, over.0, ap length names)

field_none : (s : DataType) (u : Unary) (rows : List (Val × ℕ)) → overflows_in s (unary u root) rows ≡ false
field_none s u [] = refl
field_none s u (r ∷ rows) = field_none s u rows

pub part_none : (s : DataType) (e : Expr) (p : ℕ) (rows : List (Val × ℕ)) → IsFieldAt s e p → overflows_in s e rows ≡ false
part_none s e p rows at = subst (λ (x : Expr). overflows_in s x rows ≡ false) (sym at.2) (field_none s (GetItem at.0) rows)

pub parts_firsts : (columns : List (List Val)) (rs : List ℕ) → map (struct_at columns) rs ≡ map row_value (map (placed columns) rs)
parts_firsts columns [] = refl
parts_firsts columns (r ∷ rs) = λ i. struct_at columns r ∷ parts_firsts columns rs i

pub parts_numbers : (columns : List (List Val)) (rs : List ℕ) → map (λ r. int_val (pos r)) rs ≡ map row_number (map (placed columns) rs)
parts_numbers columns [] = refl
parts_numbers columns (r ∷ rs) = λ i. int_val (pos r) ∷ parts_numbers columns rs i

-- ---- a loop over places
pub range_step : (f : ℕ → Val) (k : ℕ) (made pushed : List Val) (v : Val) → pushed ≡ made ++ (v ∷ []) → v ≡ f k → made ≡ map f (range_with_len 0 k) → pushed ≡ map f (range_with_len 0 (k + 1))
range_step f k made pushed v p h inv = p ∙ (λ i. inv i ++ (h i ∷ [])) ∙ sym (map-range_with_len_more f 0 k k (omega arith))

pub column_is : (cs : List Cells) (p : ℕ) (c : Cells) → p < length cs → c ≡ get_or cs p c → vals_in c ≡ get_or (map vals_in cs) p []
column_is cs p c l h = ap vals_in h ∙ sym (get_map vals_in cs p c [] l)

pub unary_safe : (s : DataType) (u : Unary) (vs : List Val) → overflows_on s (unary u root) vs ≡ false
unary_safe s u [] = refl
unary_safe s u (v ∷ vs) = unary_safe s u vs

-- ---- columns as structs
pub bound_long : (rows : List (Val × ℕ)) (bs : List Bound) → AreLong (length rows) (map (bound_in rows) bs)
bound_long rows [] = tt
bound_long rows (b ∷ bs) = (length-map rows (value_in b.scope b.expr), bound_long rows bs)

one_item : (vs : List Val) (k : ℕ) → k < length vs → take 1 (drop k vs) ≡ get_or vs k null_val ∷ []
one_item vs k l = ap (take 1) (drop_more vs k null_val l)

heads_at : (columns : List (List Val)) (n k : ℕ) → AreLong n columns → k < n → heads (map (drop k) columns) ≡ map (item_at k) columns
heads_at [] n k a l = refl
heads_at (vs ∷ columns) n k a l = λ i. one_item vs k (subst (λ m. k < m) (sym a.0) l) i ++ heads_at columns n k a.1 l i

drop_next : (vs : List Val) (k : ℕ) → drop 1 (drop k vs) ≡ drop (k + 1) vs
drop_next vs k = go vs k ∙ ap (λ n. drop n vs) (sym (add-one k))
  where
    go : (vs : List Val) (k : ℕ) → drop 1 (drop k vs) ≡ drop (suc k) vs
    go [] zero = refl
    go [] (suc k) = refl
    go (v ∷ vs) zero = refl
    go (v ∷ vs) (suc k) = go vs k

next_columns : (columns : List (List Val)) (k : ℕ) → map (drop 1) (map (drop k) columns) ≡ map (drop (k + 1)) columns
next_columns [] k = refl
next_columns (vs ∷ columns) k = λ i. drop_next vs k i ∷ next_columns columns k i

all_columns : (columns : List (List Val)) → columns ≡ map (drop 0) columns
all_columns [] = refl
all_columns (vs ∷ columns) = λ i. vs ∷ all_columns columns i

typed_rows : (m a n : ℕ) (columns : List (List Val)) → AreLong n columns → a + m ≤ n → typed struct_of (rows_of m (map (drop a) columns)) (replicate m true) ≡ map (struct_at columns) (range_with_len a m)
typed_rows zero a n columns long l = refl
typed_rows (suc m) a n columns long l =
    λ i. struct_of (heads_at columns n a long (omega (arith, l)) i) ∷ ((λ j. typed struct_of (rows_of m (next_columns columns a j)) (replicate m true)) ∙ typed_rows m (a + 1) n columns long (omega (arith, l))) i

pub structs_all : (n k : ℕ) (columns : List (List Val)) → k ≡ n → AreLong n columns → typed struct_of (rows_of k columns) (replicate n true) ≡ map (struct_at columns) (range_with_len 0 n)
structs_all n k columns e long = (λ i. typed struct_of (rows_of (e i) (all_columns columns i)) (replicate n true)) ∙ typed_rows n 0 n columns long (omega arith)
