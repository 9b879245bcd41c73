-- Parts of values that fit a dtype fit it too.
use Rattle.std.proofs.Common.{◌≡◌, ℕ, zero, suc, ◌-◌, List, [], ◌∷◌, take, drop, slice_range, map, Bool, true, false, ◌&&◌, refl, ap, ◌∙◌}
use Rattle.std.specs.List.{items_where_true}
use Rattle.scan_values.specs.DataType.{DataType, bool_type, int_type, utf8_type, list_type, struct_type, with_nullability}
use Rattle.scan_values.specs.declared.ptype.Nullability.TheVariants.{Nullable}
use Rattle.scan_values.specs.Fits.{fits, fits_all}
use Rattle.scan_values.specs.Val.{Val, null_val, bool_val, int_val, text_val, list_val, struct_val, vals_of, marked, marked_all}
use Rattle.scan_values.specs.Masks.{null_where_false}

and_left : (a b : Bool) → (a && b) ≡ true → a ≡ true
and_left true b h = refl
and_left false b h = h

and_right : (a b : Bool) → (a && b) ≡ true → b ≡ true
and_right true b h = h
and_right false b h = cc

both : (a b : Bool) → a ≡ true → b ≡ true → (a && b) ≡ true
both true b h g = g
both false b h g = h

abbrev pub AllFit : List Val → DataType → Type 0
AllFit vs d = fits_all (marked_all (vals_of vs)) d ≡ true

first : (v : Val) (vs : List Val) (d : DataType) → AllFit (v ∷ vs) d → fits (marked v) d ≡ true
first v vs d h = and_left (fits (marked v) d) (fits_all (marked_all (vals_of vs)) d) h

rest : (v : Val) (vs : List Val) (d : DataType) → AllFit (v ∷ vs) d → AllFit vs d
rest v vs d h = and_right (fits (marked v) d) (fits_all (marked_all (vals_of vs)) d) h

joined : (v : Val) (vs : List Val) (d : DataType) → fits (marked v) d ≡ true → AllFit vs d → AllFit (v ∷ vs) d
joined v vs d h g = both (fits (marked v) d) (fits_all (marked_all (vals_of vs)) d) h g

pub fit-drop : (i : ℕ) (vs : List Val) (d : DataType) → AllFit vs d → AllFit (drop i vs) d
fit-drop zero vs d h = h
fit-drop (suc i) [] d h = h
fit-drop (suc i) (v ∷ vs) d h = fit-drop i vs d (rest v vs d h)

pub fit-take : (i : ℕ) (vs : List Val) (d : DataType) → AllFit vs d → AllFit (take i vs) d
fit-take zero vs d h = refl
fit-take (suc i) [] d h = h
fit-take (suc i) (v ∷ vs) d h = joined v (take i vs) d (first v vs d h) (fit-take i vs d (rest v vs d h))

pub fit-range : (i j : ℕ) (vs : List Val) (d : DataType) → AllFit vs d → AllFit (slice_range vs i j) d
fit-range i j vs d h = fit-take (j - i) (drop i vs) d (fit-drop i vs d h)

pub fit-where_true : (bs : List Bool) (vs : List Val) (d : DataType) → AllFit vs d → AllFit (items_where_true bs vs) d
fit-where_true [] vs d h = refl
fit-where_true (b ∷ bs) [] d h = h
fit-where_true (true ∷ bs) (v ∷ vs) d h = joined v (items_where_true bs vs) d (first v vs d h) (fit-where_true bs vs d (rest v vs d h))
fit-where_true (false ∷ bs) (v ∷ vs) d h = fit-where_true bs vs d (rest v vs d h)

fits-null : (d : DataType) → fits (marked null_val) (with_nullability Nullable d) ≡ true
fits-null (bool_type n) = refl
fits-null (int_type p n) = refl
fits-null (utf8_type n) = refl
fits-null (list_type d n) = refl
fits-null (struct_type fs n) = refl

-- a value of a dtype is one of the dtype that may be null besides
fits-nullable : (v : Val) (d : DataType) → fits (marked v) d ≡ true → fits (marked v) (with_nullability Nullable d) ≡ true
fits-nullable null_val d h = fits-null d
fits-nullable (bool_val b) (bool_type n) h = h
fits-nullable (bool_val b) (int_type p n) h = h
fits-nullable (bool_val b) (utf8_type n) h = h
fits-nullable (bool_val b) (list_type d n) h = h
fits-nullable (bool_val b) (struct_type fs n) h = h
fits-nullable (int_val z) (bool_type n) h = h
fits-nullable (int_val z) (int_type p n) h = h
fits-nullable (int_val z) (utf8_type n) h = h
fits-nullable (int_val z) (list_type d n) h = h
fits-nullable (int_val z) (struct_type fs n) h = h
fits-nullable (text_val s) (bool_type n) h = h
fits-nullable (text_val s) (int_type p n) h = h
fits-nullable (text_val s) (utf8_type n) h = h
fits-nullable (text_val s) (list_type d n) h = h
fits-nullable (text_val s) (struct_type fs n) h = h
fits-nullable (list_val vs) (bool_type n) h = h
fits-nullable (list_val vs) (int_type p n) h = h
fits-nullable (list_val vs) (utf8_type n) h = h
fits-nullable (list_val vs) (list_type d n) h = h
fits-nullable (list_val vs) (struct_type fs n) h = h
fits-nullable (struct_val vs) (bool_type n) h = h
fits-nullable (struct_val vs) (int_type p n) h = h
fits-nullable (struct_val vs) (utf8_type n) h = h
fits-nullable (struct_val vs) (list_type d n) h = h
fits-nullable (struct_val vs) (struct_type fs n) h = h

pub fit-null_where_false : (bs : List Bool) (vs : List Val) (d : DataType) → AllFit vs d → AllFit (null_where_false bs vs) (with_nullability Nullable d)
fit-null_where_false [] vs d h = refl
fit-null_where_false (b ∷ bs) [] d h = refl
fit-null_where_false (true ∷ bs) (v ∷ vs) d h =
    joined v (null_where_false bs vs) (with_nullability Nullable d) (fits-nullable v d (first v vs d h)) (fit-null_where_false bs vs d (rest v vs d h))
fit-null_where_false (false ∷ bs) (v ∷ vs) d h =
    joined null_val (null_where_false bs vs) (with_nullability Nullable d) (fits-null d) (fit-null_where_false bs vs d (rest v vs d h))

-- ---- the values of a part of a list
map-drop : {A B : Type 0} (f : A → B) (i : ℕ) (xs : List A) → map f (drop i xs) ≡ drop i (map f xs)
map-drop f zero xs = refl
map-drop f (suc i) [] = refl
map-drop f (suc i) (x ∷ xs) = map-drop f i xs

map-take : {A B : Type 0} (f : A → B) (i : ℕ) (xs : List A) → map f (take i xs) ≡ take i (map f xs)
map-take f zero xs = refl
map-take f (suc i) [] = refl
map-take f (suc i) (x ∷ xs) = ap (λ ys. f x ∷ ys) (map-take f i xs)

pub map-range : {A B : Type 0} (f : A → B) (i j : ℕ) (xs : List A) → map f (slice_range xs i j) ≡ slice_range (map f xs) i j
map-range f i j xs = map-take f (j - i) (drop i xs) ∙ ap (take (j - i)) (map-drop f i xs)

pub map-map : {A B C : Type 0} (f : A → B) (g : B → C) (xs : List A) → map (λ x. g (f x)) xs ≡ map g (map f xs)
map-map f g [] = refl
map-map f g (x ∷ xs) = ap (λ ys. g (f x) ∷ ys) (map-map f g xs)
