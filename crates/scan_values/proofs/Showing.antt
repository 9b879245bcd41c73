-- Fields and values, one after another.
use Rattle.std.proofs.Common.{◌≡◌, ℕ, zero, suc, ◌+◌, ◌*◌, ◌<◌, ◌≤◌, ◌==◌, List, [], ◌∷◌, ◌++◌, length, get_or, drop, map, Some, None, slice_get, true, false, refl, sym, ap, ◌∙◌, subst, arith}
use Rattle.std.specs.Prelude.{codes}
use Rattle.std.proofs.lemmas.Bool.{ne_eqb}
use Rattle.std.proofs.lemmas.List.{drop_more}
use Rattle.scan_values.specs.declared.value.Value.{Value}
use Rattle.scan_values.specs.DataType.{DataType, Name, bool_type, int_type, utf8_type, list_type, struct_type, Fields, fields_of, size_of, fields_size, nullability_of}
use Rattle.scan_values.specs.Kinds.{element_of, struct_fields_of}
use Rattle.scan_values.specs.Val.{vals_of, val_size, vals_size}
use Rattle.scan_values.specs.Values.{val_of}
use Rattle.scan_values.specs.Shown.{comma, shown_dtype, shown_kind, shown_null, shown_field, shown_fields, shown_val, shown_vals}

pub not_zero : (i : ℕ) → ((i + 1) == 0) ≡ false
not_zero i = ne_eqb (i + 1) 0 (omega arith)

-- ---- dtypes
pub kind_and_null : (d : DataType) → shown_kind d ++ shown_null (nullability_of d) ≡ shown_dtype d
kind_and_null (bool_type n) = refl
kind_and_null (int_type p n) = refl
kind_and_null (utf8_type n) = refl
kind_and_null (list_type d n) = refl
kind_and_null (struct_type fs n) = refl

pub of_list : (d e : DataType) → Some e ≡ element_of d → (codes "list(" ++ (shown_dtype e ++ codes ")") ≡ shown_kind d) × (4 * size_of e + 4 ≤ 4 * size_of d)
of_list (bool_type n) e h = absurd (cc)
of_list (int_type p n) e h = absurd (cc)
of_list (utf8_type n) e h = absurd (cc)
of_list (list_type d n) e h = let q : e ≡ d = cc in subst (λ x. (codes "list(" ++ (shown_dtype x ++ codes ")") ≡ shown_kind (list_type d n)) × (4 * size_of x + 4 ≤ 4 * size_of (list_type d n))) (sym q) (refl, omega arith)
of_list (struct_type fs n) e h = absurd (cc)

pub of_struct : (d : DataType) (fs : Fields) → Some fs ≡ struct_fields_of d → (codes "{" ++ (shown_fields true fs ++ codes "}") ≡ shown_kind d) × (4 * fields_size fs + 4 ≤ 4 * size_of d)
of_struct (bool_type n) fs h = absurd (cc)
of_struct (int_type p n) fs h = absurd (cc)
of_struct (utf8_type n) fs h = absurd (cc)
of_struct (list_type d n) fs h = absurd (cc)
of_struct (struct_type gs n) fs h = let q : fs ≡ gs = cc in subst (λ x. (codes "{" ++ (shown_fields true x ++ codes "}") ≡ shown_kind (struct_type gs n)) × (4 * fields_size x + 4 ≤ 4 * size_of (struct_type gs n))) (sym q) (refl, omega arith)

-- ---- fields
found_drop : {A : Type 0} (xs : List A) (i : ℕ) (x : A) → slice_get xs i ≡ Some x → drop i xs ≡ x ∷ drop (i + 1) xs
found_drop [] i x h = cc
found_drop (y ∷ xs) zero x h = let e : y ≡ x = cc in ap (λ z. z ∷ xs) e
found_drop (y ∷ xs) (suc i) x h = let e : suc i + 1 ≡ suc (i + 1) = omega arith in rw e (found_drop xs i x h)

past_drop : {A : Type 0} (xs : List A) (i : ℕ) → slice_get xs i ≡ None → drop i xs ≡ []
past_drop [] zero h = refl
past_drop [] (suc i) h = refl
past_drop (y ∷ xs) zero h = cc
past_drop (y ∷ xs) (suc i) h = past_drop xs i h

field_size : (fs : List (Name × DataType)) (i : ℕ) (f : Name × DataType) → slice_get fs i ≡ Some f → size_of f.1 + 1 ≤ fields_size (fields_of fs)
field_size [] i f h = absurd (cc)
field_size (g ∷ fs) zero f h = let e : g ≡ f = cc in subst (λ (x : Name × DataType). size_of x.1 + 1 ≤ fields_size (fields_of (g ∷ fs))) e (omega arith)
field_size (g ∷ fs) (suc i) f h = let r = field_size fs i f h in omega (arith, r)

-- the size of a field's dtype, and what is left of the text once it is shown
pub next_field : (fs : List (Name × DataType)) (i : ℕ) (f : Name × DataType) → slice_get fs i ≡ Some f
    → (size_of f.1 + 1 ≤ fields_size (fields_of fs))
    × (shown_fields (i == 0) (fields_of (drop i fs)) ≡ shown_field (i == 0) f.0 f.1 ++ shown_fields ((i + 1) == 0) (fields_of (drop (i + 1) fs)))
next_field fs i f h = (
  field_size fs i f h,
  ap (λ gs. shown_fields (i == 0) (fields_of gs)) (found_drop fs i f h)
      ∙ ap (λ b. shown_field (i == 0) f.0 f.1 ++ shown_fields b (fields_of (drop (i + 1) fs))) (sym (not_zero i)),
)

pub no_field : (fs : List (Name × DataType)) (i : ℕ) → slice_get fs i ≡ None → shown_fields (i == 0) (fields_of (drop i fs)) ≡ []
no_field fs i h = ap (λ gs. shown_fields (i == 0) (fields_of gs)) (past_drop fs i h)

-- ---- values
size_at : (vs : List Value) (i : ℕ) (d : Value) → i < length vs → val_size (val_of (get_or vs i d)) ≤ vals_size (vals_of (map val_of vs))
size_at [] i d h = absurd (omega arith)
size_at (v ∷ vs) zero d h = omega arith
size_at (v ∷ vs) (suc i) d h = let e = size_at vs i d (omega arith) in omega (arith, e)

pub next_value : (vs : List Value) (i : ℕ) (v : Value) → i < length vs → v ≡ get_or vs i v
    → (val_size (val_of v) ≤ vals_size (vals_of (map val_of vs)))
    × (shown_vals (i == 0) (vals_of (map val_of (drop i vs))) ≡ (comma (i == 0) ++ shown_val (val_of v)) ++ shown_vals ((i + 1) == 0) (vals_of (map val_of (drop (i + 1) vs))))
next_value vs i v h at = (
  subst (λ x. val_size (val_of x) ≤ vals_size (vals_of (map val_of vs))) (sym at) (size_at vs i v h),
  ap (λ xs. shown_vals (i == 0) (vals_of (map val_of xs))) (drop_more vs i v h ∙ ap (λ x. x ∷ drop (i + 1) vs) (sym at))
      ∙ ap (λ b. (comma (i == 0) ++ shown_val (val_of v)) ++ shown_vals b (vals_of (map val_of (drop (i + 1) vs)))) (sym (not_zero i)),
)
