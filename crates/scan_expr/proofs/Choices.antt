-- Fields that are chosen by their names, and those that are left.
use Rattle.std.proofs.Common.{◌≡◌, ℕ, ◌+◌, ◌<◌, ◌≤◌, zero, suc, Bool, true, false, cond, not, max, List, [], ◌∷◌, ◌++◌, length, get_or, drop, map, zip, Some, None, slice_get, bytes_eq, refl, ap, sym, ◌∙◌, add-one, arith}
use Rattle.std.specs.List.{filter}
use Rattle.std.proofs.Common.{append_assoc, length-append}
use Rattle.std.proofs.lemmas.List.{append-nil}
use Rattle.std.proofs.Math.ListN.{drop_of_length-le}
use Rattle.scan_values.specs.DataType.{DataType, Name, Fields, no_fields, field, fields_of, depth_of, fields_depth, bool_type, int_type, utf8_type, list_type, struct_type}
use Rattle.scan_values.specs.FieldLists.{names_of, dtypes_of, dtype_named}
use Rattle.scan_values.specs.NameFaults.{has_name}
use Rattle.scan_expr.specs.Infer.{struct_fields, field_type, type_or_bool, chosen, without}

-- ---- chosen fields
pub chosen-zip : (ns : List Name) (fs : Fields) → fields_of (zip ns (map (λ n. field_type n fs) ns)) ≡ chosen ns fs
chosen-zip [] fs = refl
chosen-zip (n ∷ ns) fs = ap (field n (field_type n fs)) (chosen-zip ns fs)

named_depth : (n : Name) (fs : Fields) → depth_of (field_type n fs) ≤ max (fields_depth fs) 1
named_depth n no_fields = omega arith
named_depth n (field m d fs) = first (bytes_eq n m) (named_depth n fs)
  where
    first : (b : Bool) → depth_of (type_or_bool (dtype_named n fs)) ≤ max (fields_depth fs) 1 → depth_of (type_or_bool (cond b (Some d) (dtype_named n fs))) ≤ max (max (depth_of d) (fields_depth fs)) 1
    first true h = omega arith
    first false h = omega (arith, h)

pub chosen_depth : (ns : List Name) (fs : Fields) → fields_depth (chosen ns fs) ≤ max (fields_depth fs) 1
chosen_depth [] fs = omega arith
chosen_depth (n ∷ ns) fs = omega (arith, named_depth n fs, chosen_depth ns fs)

pub without_depth : (ns : List Name) (fs : Fields) → fields_depth (without ns fs) ≤ fields_depth fs
without_depth ns no_fields = omega arith
without_depth ns (field n d fs) = first (has_name n ns) (without_depth ns fs)
  where
    first : (b : Bool) → fields_depth (without ns fs) ≤ fields_depth fs → fields_depth (cond b (without ns fs) (field n d (without ns fs))) ≤ max (depth_of d) (fields_depth fs)
    first true h = omega (arith, h)
    first false h = omega (arith, h)

pub struct_depth : (d : DataType) → fields_depth (struct_fields d) + 1 ≤ max (depth_of d) 1
struct_depth (bool_type n) = omega arith
struct_depth (int_type p n) = omega arith
struct_depth (utf8_type n) = omega arith
struct_depth (list_type e n) = omega arith
struct_depth (struct_type fs n) = omega arith

-- ---- fields that are left
abbrev pub is_left : List Name → Name × DataType → Bool
is_left ns f = not (has_name f.0 ns)

pub without-filter : (ns : List Name) (fs : List (Name × DataType)) → without ns (fields_of fs) ≡ fields_of (filter (is_left ns) fs)
without-filter ns [] = refl
without-filter ns (f ∷ fs) = first (has_name f.0 ns) (without-filter ns fs)
  where
    first : (b : Bool) → without ns (fields_of fs) ≡ fields_of (filter (is_left ns) fs)
        → cond b (without ns (fields_of fs)) (field f.0 f.1 (without ns (fields_of fs))) ≡ fields_of (cond (not b) (f ∷ filter (is_left ns) fs) (filter (is_left ns) fs))
    first true h = h
    first false h = ap (field f.0 f.1) h

-- ---- one field further
length-names_of : (fs : List (Name × DataType)) → length (names_of fs) ≡ length fs
length-names_of [] = refl
length-names_of (f ∷ fs) = ap suc (length-names_of fs)

-- ---- the dtypes of the fields that are left
filter_kept : (ns : List Name) (fs : List (Name × DataType)) (i : ℕ) (n : Name) (d : DataType) → n ≡ get_or (names_of fs) i n → Some d ≡ slice_get (dtypes_of fs) i → has_name n ns ≡ false
    → filter (is_left ns) (drop i fs) ≡ (n, d) ∷ filter (is_left ns) (drop (suc i) fs)
filter_kept ns [] i n d at g out = cc
filter_kept ns (f ∷ fs) zero n d at g out =
    let none : has_name f.0 ns ≡ false = cc in
    let same : d ≡ f.1 = cc in
    rw (none, at, same) refl
filter_kept ns (f ∷ fs) (suc i) n d at g out = filter_kept ns fs i n d at g out

filter_out : (ns : List Name) (fs : List (Name × DataType)) (i : ℕ) (n : Name) → i < length (names_of fs) → n ≡ get_or (names_of fs) i n → has_name n ns ≡ true → filter (is_left ns) (drop i fs) ≡ filter (is_left ns) (drop (suc i) fs)
filter_out ns [] i n h at has = absurd (omega arith)
filter_out ns (f ∷ fs) zero n h at has = let one : has_name f.0 ns ≡ true = cc in rw one refl
filter_out ns (f ∷ fs) (suc i) n h at has = filter_out ns fs i n (omega arith) at has

pub no_dtype : (fs : List (Name × DataType)) (i : ℕ) → i < length (names_of fs) → None ≡ slice_get (dtypes_of fs) i → ⊥
no_dtype [] i h g = omega arith
no_dtype (f ∷ fs) zero h g = cc
no_dtype (f ∷ fs) (suc i) h g = no_dtype fs i (omega arith) g

pub record AreLeft (ns : List Name) (fs : List (Name × DataType)) (i : ℕ) (names : List Name) (dtypes : List DataType) : Type 0 where
  pub left : filter (is_left ns) fs ≡ zip names dtypes ++ filter (is_left ns) (drop i fs)
  pub even : length names ≡ length dtypes

zip-push : (ns : List Name) (ds : List DataType) (n : Name) (d : DataType) → length ns ≡ length ds → zip (ns ++ n ∷ []) (ds ++ d ∷ []) ≡ zip ns ds ++ (n, d) ∷ []
zip-push [] [] n d h = refl
zip-push [] (e ∷ ds) n d h = absurd (omega arith)
zip-push (m ∷ ns) [] n d h = absurd (omega arith)
zip-push (m ∷ ns) (e ∷ ds) n d h = ap (λ xs. (m, e) ∷ xs) (zip-push ns ds n d (omega arith))

pub filter_step_kept : (ns : List Name) (fs : List (Name × DataType)) (i : ℕ) (n : Name) (d : DataType) (names : List Name) (dtypes : List DataType) → AreLeft ns fs i names dtypes
    → n ≡ get_or (names_of fs) i n → Some d ≡ slice_get (dtypes_of fs) i → has_name n ns ≡ false → AreLeft ns fs (i + 1) (names ++ n ∷ []) (dtypes ++ d ∷ [])
filter_step_kept ns fs i n d names dtypes a at g out = record {
  left = a.left ∙ rw (add-one, filter_kept ns fs i n d at g out, zip-push names dtypes n d a.even) (sym (append_assoc (zip names dtypes) ((n, d) ∷ []) (filter (is_left ns) (drop (suc i) fs))));
  even = omega (arith, length-append names (n ∷ []), length-append dtypes (d ∷ []), a.even);
}

pub filter_step_out : (ns : List Name) (fs : List (Name × DataType)) (i : ℕ) (n : Name) (names : List Name) (dtypes : List DataType) → AreLeft ns fs i names dtypes
    → i < length (names_of fs) → n ≡ get_or (names_of fs) i n → has_name n ns ≡ true → AreLeft ns fs (i + 1) names dtypes
filter_step_out ns fs i n names dtypes a h at has = record {
  left = a.left ∙ rw (add-one, filter_out ns fs i n h at has) refl;
  even = a.even;
}

pub filter_end : (ns : List Name) (fs : List (Name × DataType)) (i : ℕ) (names : List Name) (dtypes : List DataType) → AreLeft ns fs i names dtypes → length (names_of fs) ≤ i → fields_of (zip names dtypes) ≡ without ns (fields_of fs)
filter_end ns fs i names dtypes a h =
    let none : drop i fs ≡ [] = drop_of_length-le fs (omega (arith, length-names_of fs)) in
    let all : filter (is_left ns) fs ≡ zip names dtypes = a.left ∙ rw none (append-nil (zip names dtypes)) in
    sym (without-filter ns fs ∙ ap fields_of all)

pub chosen_within : (ns : List Name) (d : DataType) → depth_of d ≤ 66 → fields_depth (chosen ns (struct_fields d)) ≤ 65
chosen_within ns d h = omega (arith, chosen_depth ns (struct_fields d), struct_depth d)

pub without_within : (ns : List Name) (d : DataType) → depth_of d ≤ 66 → fields_depth (without ns (struct_fields d)) ≤ 65
without_within ns d h = omega (arith, without_depth ns (struct_fields d), struct_depth d)
