-- Columns side by side: the values of an expression over their structs.
use Rattle.std.proofs.Common.{◌≡◌, ℕ, zero, suc, ◌+◌, ◌<◌, Bool, true, false, ◌||◌, List, [], ◌∷◌, map, length, get_or, zip, refl, ap, ◌∙◌, sym, arith, subst}
use Rattle.std.specs.List.{list_any, range_with_len}
use Rattle.scan_values.specs.Arrays.{ArrayData}
use Rattle.scan_values.specs.DataType.{DataType, Fields, no_fields, field, struct_type, fields_of, Name}
use Rattle.scan_values.specs.declared.ptype.Nullability.TheVariants.{NonNullable}
use Rattle.scan_values.specs.Marked.{struct}
use Rattle.scan_values.specs.Val.{null_val, vals_of, marked, marked_all}
use Rattle.scan_segments.specs.Source.{Store}
use Rattle.scan_expr.specs.Bound.{bound_of}
use Rattle.scan_expr.specs.Expr.{Expr, uses_row_index}
use Rattle.scan_expr.specs.Eval.{eval}
use Rattle.scan_expr.specs.Overflow.{overflows}
use Rattle.scan_expr.proofs.Clean.{any_row}
use Rattle.scan_expr.proofs.Overflowing.{any_row_overflows}
use Rattle.scan_columns.specs.Joined.{AreAsLong, IsScopeOf, row_at, joined_at, root_overflows}
use Rattle.scan_plans.specs.PlanTree.{over, PlanTrees, no_plans, plan}
use Rattle.scan_plans.specs.Came.{Came, arrived}
use Rattle.scan_plans.specs.Meaning.{value_at, values_at, overflow_at, overflow_in, overflow_on, AreFields}
use Rattle.scan_plans.specs.Reads.{AreColumns, AllDecode, any_overflow_on}
use Rattle.scan_plans.specs.Wants.{wanted, all_wanted}
use Rattle.scan_plans.proofs.Building.{fails_append}

-- ---- lengths
length-map : {A B : Type 0} (f : A → B) (xs : List A) → length (map f xs) ≡ length xs
length-map f [] = refl
length-map f (x ∷ xs) = ap suc (length-map f xs)

same_length : {A B C : Type 0} (f : A → C) (g : B → C) (xs : List A) (ys : List B) → map f xs ≡ map g ys → length xs ≡ length ys
same_length f g xs ys h = sym (length-map f xs) ∙ ap length h ∙ length-map g ys

pub columns_long : (ps : PlanTrees) (here : Came) (is : List ℕ) (cs : List ArrayData) → AreColumns ps here is cs → AreAsLong (length is) cs
columns_long no_plans here is [] h = tt
columns_long no_plans here is (a ∷ cs) h = absurd h
columns_long (plan p ps) here is [] h = absurd h
columns_long (plan p ps) here is (a ∷ cs) h = (same_length marked (value_at p (arrived here)) a.items is (h.0).items, columns_long ps here is cs h.1)

-- ---- the scope
field_names : Fields → List Name
field_names no_fields = []
field_names (field n d fs) = n ∷ field_names fs

names_long : (fs : Fields) (ps : PlanTrees) (here : Came) (is : List ℕ) (cs : List ArrayData) → AreFields fs ps → AreColumns ps here is cs → length (field_names fs) ≡ length cs
unfolding field_names
names_long no_fields no_plans here is [] f h = refl
names_long no_fields no_plans here is (a ∷ cs) f h = absurd h
names_long no_fields (plan p ps) here is cs f h = absurd f
names_long (field n d fs) no_plans here is cs f h = absurd f
names_long (field n d fs) (plan p ps) here is [] f h = absurd h
names_long (field n d fs) (plan p ps) here is (a ∷ cs) f h = ap suc (names_long fs ps here is cs f.1 h.1)

fields_same : (fs : Fields) (ps : PlanTrees) (here : Came) (is : List ℕ) (cs : List ArrayData) → AreFields fs ps → AreColumns ps here is cs → fs ≡ fields_of (zip (field_names fs) (map (λ (a : ArrayData). a.dtype) cs))
unfolding field_names
fields_same no_fields no_plans here is [] f h = refl
fields_same no_fields no_plans here is (a ∷ cs) f h = absurd h
fields_same no_fields (plan p ps) here is cs f h = absurd f
fields_same (field n d fs) no_plans here is cs f h = absurd f
fields_same (field n d fs) (plan p ps) here is [] f h = absurd h
fields_same (field n d fs) (plan p ps) here is (a ∷ cs) f h = let e : a.dtype ≡ d = (h.0).dtype ∙ sym f.0 in rw e (ap (λ gs. field n d gs) (fields_same fs ps here is cs f.1 h.1))

pub columns_scope : (d : DataType) (fs : Fields) (ps : PlanTrees) (here : Came) (is : List ℕ) (cs : List ArrayData) → d ≡ struct_type fs NonNullable → AreFields fs ps → AreColumns ps here is cs → IsScopeOf cs d
columns_scope d fs ps here is cs e f h = (field_names fs, names_long fs ps here is cs f h, e ∙ ap (λ gs. struct_type gs NonNullable) (fields_same fs ps here is cs f h))

-- ---- rows
nth_same : {A B C : Type 0} (f : A → C) (g : B → C) (xs : List A) (ys : List B) (r : ℕ) (x : A) (y : B) → map f xs ≡ map g ys → r < length ys → f (get_or xs r x) ≡ g (get_or ys r y)
nth_same f g xs [] r x y h l = let z : ⊥ = omega (arith, l) in absurd z
nth_same f g [] (b ∷ ys) r x y h l = absurd cc
nth_same f g (a ∷ xs) (b ∷ ys) zero x y h l = cc
nth_same f g (a ∷ xs) (b ∷ ys) (suc r) x y h l = let e : map f xs ≡ map g ys = cc in nth_same f g xs ys r x y e (omega (arith, l))

row_same : (ps : PlanTrees) (here : Came) (is : List ℕ) (cs : List ArrayData) (r : ℕ) → AreColumns ps here is cs → r < length is
    → marked_all (vals_of (map (λ (a : ArrayData). get_or a.items r null_val) cs)) ≡ values_at ps (arrived here) (get_or is r 0)
row_same no_plans here is [] r h l = refl
row_same no_plans here is (a ∷ cs) r h l = absurd h
row_same (plan p ps) here is [] r h l = absurd h
row_same (plan p ps) here is (a ∷ cs) r h l = rw (nth_same marked (value_at p (arrived here)) a.items is r null_val 0 (h.0).items l, row_same ps here is cs r h.1 l) refl

over_rows : {A : Type 0} (f : ℕ → A) (g : ℕ → A) (k : ℕ) (is : List ℕ) → ((r : ℕ) → r < length is → f (k + r) ≡ g (get_or is r 0)) → map f (range_with_len k (length is)) ≡ map g is
over_rows f g k [] h = refl
over_rows f g k (i ∷ is) h = rw (first (h 0 (omega arith))) (ap (λ xs. g i ∷ xs) (over_rows f g (k + 1) is (λ r l. later r (h (r + 1) (omega (arith, l))))))
  where
    first : f (k + 0) ≡ g i → f k ≡ g i
    first e = let z : k + 0 ≡ k = omega arith in subst (λ (n : ℕ). f n ≡ g i) z e

    later : (r : ℕ) → f (k + (r + 1)) ≡ g (get_or (i ∷ is) (r + 1) 0) → f (k + 1 + r) ≡ g (get_or is r 0)
    later r e = let z : k + (r + 1) ≡ k + 1 + r = omega arith in let y : r + 1 ≡ suc r = omega arith in
        subst (λ (n : ℕ). f n ≡ g (get_or is r 0)) z (subst (λ (m : ℕ). f (k + (r + 1)) ≡ g (get_or (i ∷ is) m 0)) y e)

any_over_rows : (f g : ℕ → Bool) (k : ℕ) (is : List ℕ) → ((r : ℕ) → r < length is → f (k + r) ≡ g (get_or is r 0)) → list_any f (range_with_len k (length is)) ≡ list_any g is
any_over_rows f g k is h = any_map f (range_with_len k (length is)) ∙ ap (list_any (λ b. b)) (over_rows f g k is h) ∙ sym (any_map g is)
  where
    any_map : (f : ℕ → Bool) (is : List ℕ) → list_any f is ≡ list_any (λ b. b) (map f is)
    any_map f [] = refl
    any_map f (i ∷ is) = ap (λ b. f i || b) (any_map f is)

pub joined_items : (d : DataType) (e : Expr) (ps : PlanTrees) (here : Came) (is : List ℕ) (cs : List ArrayData) → uses_row_index e ≡ false → AreColumns ps here is cs
    → map (joined_at (bound_of d e) cs) (range_with_len 0 (length is)) ≡ map (value_at (over d e ps) (arrived here)) is
joined_items d e ps here is cs u h = over_rows (joined_at (bound_of d e) cs) (value_at (over d e ps) (arrived here)) 0 is (λ r l. at_row r l)
  where
    at_row : (r : ℕ) → r < length is → joined_at (bound_of d e) cs (0 + r) ≡ value_at (over d e ps) (arrived here) (get_or is r 0)
    at_row r l = let z : 0 + r ≡ r = omega arith in
        subst (λ (n : ℕ). joined_at (bound_of d e) cs n ≡ value_at (over d e ps) (arrived here) (get_or is r 0)) (sym z)
        (any_row d e (marked (row_at cs r)) r 0 u ∙ ap (λ ms. eval d e (struct ms) 0) (row_same ps here is cs r h l))

-- ---- overflows
abbrev pub own_overflow : DataType → Expr → PlanTrees → Store → ℕ → Bool
own_overflow d e ps store i = overflows d e (struct (values_at ps store i)) 0

pub joined_overflows : (d : DataType) (e : Expr) (ps : PlanTrees) (here : Came) (is : List ℕ) (cs : List ArrayData) → uses_row_index e ≡ false → AreColumns ps here is cs
    → root_overflows (bound_of d e) cs (length is) ≡ list_any (own_overflow d e ps (arrived here)) is
joined_overflows d e ps here is cs u h = any_over_rows (λ r. overflows d e (marked (row_at cs r)) r) (own_overflow d e ps (arrived here)) 0 is (λ r l. at_row r l)
  where
    at_row : (r : ℕ) → r < length is → overflows d e (marked (row_at cs (0 + r))) (0 + r) ≡ own_overflow d e ps (arrived here) (get_or is r 0)
    at_row r l = let z : 0 + r ≡ r = omega arith in
        subst (λ (n : ℕ). overflows d e (marked (row_at cs n)) n ≡ own_overflow d e ps (arrived here) (get_or is r 0)) (sym z)
        (any_row_overflows d e (marked (row_at cs r)) r 0 u ∙ ap (λ ms. overflows d e (struct ms) 0) (row_same ps here is cs r h l))

swap_or : (a b c d : Bool) → ((a || b) || (c || d)) ≡ ((a || c) || (b || d))
swap_or true b c d = refl
swap_or false true true d = refl
swap_or false true false d = refl
swap_or false false true d = refl
swap_or false false false d = refl

pub any_or : (f g : ℕ → Bool) (is : List ℕ) → list_any (λ i. f i || g i) is ≡ (list_any f is || list_any g is)
any_or f g [] = refl
any_or f g (i ∷ is) = ap (λ b. (f i || g i) || b) (any_or f g is) ∙ swap_or (f i) (g i) (list_any f is) (list_any g is)

none_on : (is : List ℕ) → list_any (λ i. false) is ≡ false
none_on [] = refl
none_on (i ∷ is) = none_on is

-- some plan overflows at some row, whichever is asked first
pub any_overflow_rows : (ps : PlanTrees) (store : Store) (is : List ℕ) → list_any (overflow_in ps store) is ≡ any_overflow_on ps store is
any_overflow_rows no_plans store is = none_on is
any_overflow_rows (plan p ps) store is = any_or (overflow_at p store) (overflow_in ps store) is ∙ ap (λ b. overflow_on p store is || b) (any_overflow_rows ps store is)

pub over_overflow : (d : DataType) (e : Expr) (ps : PlanTrees) (store : Store) (is : List ℕ) → overflow_on (over d e ps) store is ≡ (any_overflow_on ps store is || list_any (own_overflow d e ps store) is)
over_overflow d e ps store is = any_or (overflow_in ps store) (own_overflow d e ps store) is ∙ ap (λ b. b || list_any (own_overflow d e ps store) is) (any_overflow_rows ps store is)

columns_within : (ps : PlanTrees) (here : Came) (is : List ℕ) (cs : List ArrayData) → AreColumns ps here is cs → any_overflow_on ps (arrived here) is ≡ false
columns_within no_plans here is [] h = refl
columns_within no_plans here is (a ∷ cs) h = absurd h
columns_within (plan p ps) here is [] h = absurd h
columns_within (plan p ps) here is (a ∷ cs) h = rw ((h.0).within) (columns_within ps here is cs h.1)

-- what the plans want was found
pub columns_found : (ps : PlanTrees) (here : Came) (is : List ℕ) (cs : List ArrayData) → AreColumns ps here is cs → AllDecode (all_wanted ps here is) (arrived here)
columns_found no_plans here is [] h = λ id. refl
columns_found no_plans here is (a ∷ cs) h = absurd h
columns_found (plan p ps) here is [] h = absurd h
columns_found (plan p ps) here is (a ∷ cs) h = λ id. fails_append (wanted p here is) (all_wanted ps here is) (arrived here) id ∙ rw ((h.0).found id) (columns_found ps here is cs h.1 id)

-- with columns of its parts a plan overflows where its expression does
pub over_within : (d : DataType) (e : Expr) (ps : PlanTrees) (here : Came) (is : List ℕ) (cs : List ArrayData) → AreColumns ps here is cs → overflow_on (over d e ps) (arrived here) is ≡ list_any (own_overflow d e ps (arrived here)) is
over_within d e ps here is cs h = over_overflow d e ps (arrived here) is ∙ rw (columns_within ps here is cs h) refl
