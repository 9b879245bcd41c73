-- Masks that name fields of a layout's dtype miss none.
use Rattle.std.proofs.Common.{◌≡◌, ℕ, zero, suc, ◌+◌, Bool, true, false, cond, ◌||◌, ◌&&◌, List, [], ◌∷◌, length, Option, Some, None, refl, ap, sym, subst, ◌∙◌, arith}
use Rattle.std.specs.Prelude.{option_map, option_and_then, bytes_eq, is_some, slice_get}
use Rattle.std.specs.List.{list_any, position_from}
use Rattle.std.proofs.lemmas.Iterator.Adapters.{position_from-zero}
use Rattle.scan_values.specs.declared.ptype.Nullability.{Nullability}
use Rattle.scan_values.specs.declared.ptype.Nullability.TheVariants.{NonNullable, Nullable}
use Rattle.scan_values.specs.declared.field_path.FieldMask.{FieldMask}
use Rattle.scan_values.specs.declared.field_path.FieldMask.TheVariants.{All, Prefix}
use Rattle.scan_values.specs.DataType.{DataType, bool_type, int_type, utf8_type, list_type, struct_type, Fields, no_fields, field, field_list, Name}
use Rattle.scan_values.specs.FieldLists.{names_of, dtypes_of as field_types, dtype_named}
use Rattle.scan_values.specs.FieldPaths.{matches_all, stepped}
use Rattle.scan_layout.specs.declared.node.LayoutKind.TheVariants.{Leaf, Struct, List as List'}
use Rattle.scan_layout.specs.Check.{with_validity}
use Rattle.scan_layout.specs.Form.{HasForm, HaveForms}
use Rattle.scan_layout.specs.Laws.{path_of}
use Rattle.scan_layout.specs.Layout.{Layout, Nodes, node, no_nodes, child}
use Rattle.scan_layout.specs.Slots.{one_where, every_field, field_of, named_fields, matching_fields}
use Rattle.scan_splits.specs.LayoutSplits.{misses, nth_misses, any_found}
use Rattle.scan_readers.specs.FieldNames.{dtype_at, name_fields}

-- ---- the place of a field that has a name
pub record Found (fs : Fields) (n : Name) (t : DataType) (j : ℕ) : Type 0 where
  pub place : ℕ
  pub at : position_from (bytes_eq n) j (names_of (field_list fs)) ≡ Some (j + place)
  pub dtype : slice_get (field_types (field_list fs)) place ≡ Some t

found_later : (fs : Fields) (n m : Name) (d t : DataType) (j : ℕ) → bytes_eq n m ≡ false → Found fs n t (j + 1) → Found (field m d fs) n t j
found_later fs n m d t j past f =
    let moved : j + 1 + f.place ≡ j + suc f.place = omega arith in
    record { place = suc f.place; at = rw past (f.at ∙ ap Some moved); dtype = f.dtype }

found : (fs : Fields) (n : Name) (t : DataType) (j : ℕ) → dtype_named n fs ≡ Some t → Found fs n t j
found no_fields n t j h = absurd cc
found (field m d fs) n t j h = by (bytes_eq n m) refl h (λ g. found fs n t (j + 1) g)
  where
    by : (b : Bool) → bytes_eq n m ≡ b → cond b (Some d) (dtype_named n fs) ≡ Some t → (dtype_named n fs ≡ Some t → Found fs n t (j + 1)) → Found (field m d fs) n t j
    by true s g rest = record { place = 0; at = rw s (ap Some (omega arith)); dtype = g }
    by false s g rest = found_later fs n m d t j s (rest g)

-- ---- tests of masks
abbrev names : DataType → FieldMask → Bool
names d m = is_some (dtype_at (path_of m) d)

both_left : (a b : Bool) → (a && b) ≡ true → a ≡ true
both_left true b h = refl
both_left false b h = h

both_right : (a b : Bool) → (a && b) ≡ true → b ≡ true
both_right true b h = h
both_right false b h = absurd cc

neither : (a b : Bool) → a ≡ false → b ≡ false → (a || b) ≡ false
neither true b p q = absurd cc
neither false b p q = q

not_first : (a b : Bool) → (a || b) ≡ false → a ≡ false
not_first true b h = h
not_first false b h = refl

not_later : (a b : Bool) → (a || b) ≡ false → b ≡ false
not_later true b h = absurd cc
not_later false b h = h

one : (a : Bool) → a ≡ true → (a && true) ≡ true
one true h = refl
one false h = h

-- ---- what is missed of the fields that are found
none_of_every : (f : FieldMask × ℕ → Bool) (k n : ℕ) → ((i : ℕ) → f (All, i) ≡ false) → list_any f (every_field k n) ≡ false
none_of_every f k zero none = refl
none_of_every f k (suc n) none = neither (f (All, k)) (list_any f (every_field (k + 1) n)) (none k) (none_of_every f (k + 1) n none)

-- the field of a mask that names one, and the mask below it
pub record Stepped (fs : Fields) (m : FieldMask) : Type 0 where
  pub place : ℕ
  pub dtype : DataType
  pub at : field_of (names_of (field_list fs)) m ≡ Some place
  pub is : slice_get (field_types (field_list fs)) place ≡ Some dtype
  pub rest : names dtype (stepped m) ≡ true

below : (n : Name) (ns : List Name) → path_of (stepped (Prefix (n ∷ ns))) ≡ ns
below n [] = refl
below n (m ∷ ns) = refl

some_of : (o : Option DataType) (ns : List Name) → is_some (option_and_then (dtype_at ns) o) ≡ true → (t : DataType) × (o ≡ Some t) × (is_some (dtype_at ns t) ≡ true)
some_of None ns h = absurd cc
some_of (Some t) ns h = (t, refl, h)

step : (fs : Fields) (k : Nullability) (m : FieldMask) → matches_all m ≡ false → names (struct_type fs k) m ≡ true → Stepped fs m
step fs k All none h = absurd cc
step fs k (Prefix []) none h = absurd cc
step fs k (Prefix (n ∷ ns)) none h =
    let t = some_of (dtype_named n fs) ns h in
    let f = found fs n t.0 0 t.1 in
    record {
      place = f.place;
      dtype = t.0;
      at = position_from-zero (bytes_eq n) (names_of (field_list fs)) ∙ f.at ∙ ap Some (let z : 0 + f.place ≡ f.place = omega arith in z);
      is = f.dtype;
      rest = subst (λ p. is_some (dtype_at p t.0) ≡ true) (sym (below n ns)) t.2;
    }

-- a test spares what masks name below fields
abbrev Spares : Fields → (FieldMask × ℕ → Bool) → Type 0
Spares fs f = (m : FieldMask) (i : ℕ) (t : DataType) → slice_get (field_types (field_list fs)) i ≡ Some t → names t m ≡ true → f (m, i) ≡ false

none_of_named : (fs : Fields) (k : Nullability) (f : FieldMask × ℕ → Bool) (masks : List FieldMask) → list_any matches_all masks ≡ false → name_fields (struct_type fs k) masks ≡ true → Spares fs f
    → any_found f (named_fields (names_of (field_list fs)) masks) ≡ false
none_of_named fs k f [] some h none = refl
none_of_named fs k f (m ∷ ms) some h none =
    let s = step fs k m (not_first (matches_all m) (list_any matches_all ms) some) (both_left (names (struct_type fs k) m) (name_fields (struct_type fs k) ms) h) in
    let rest = none_of_named fs k f ms (not_later (matches_all m) (list_any matches_all ms) some) (both_right (names (struct_type fs k) m) (name_fields (struct_type fs k) ms) h) none in
    rw s.at (more (named_fields (names_of (field_list fs)) ms) (stepped m, s.place) (none (stepped m) s.place s.dtype s.is s.rest) rest)
  where
    more : (o : Option (List (FieldMask × ℕ))) (v : FieldMask × ℕ) → f v ≡ false → any_found f o ≡ false → any_found f (option_map (λ vs. v ∷ vs) o) ≡ false
    more None v p q = q
    more (Some vs) v p q = neither (f v) (list_any f vs) p q

none_found : (fs : Fields) (k : Nullability) (f : FieldMask × ℕ → Bool) (masks : List FieldMask) → name_fields (struct_type fs k) masks ≡ true → Spares fs f → ((i : ℕ) → f (All, i) ≡ false)
    → any_found f (matching_fields fs masks) ≡ false
none_found fs k f masks h none all = by (list_any matches_all masks) refl
  where
    by : (b : Bool) → list_any matches_all masks ≡ b → any_found f (matching_fields fs masks) ≡ false
    by true s = rw s (none_of_every f 0 (length (field_list fs)) all)
    by false s = rw s (none_of_named fs k f masks s h none)

-- ---- layouts
shifted_get : (n : Nullability) (ts : List DataType) (i : ℕ) → slice_get (with_validity n ts) (one_where n + i) ≡ slice_get ts i
shifted_get NonNullable ts i = ap (slice_get ts) (let z : 0 + i ≡ i = omega arith in z)
shifted_get Nullable ts i = ap (slice_get (bool_type NonNullable ∷ ts)) (let z : 1 + i ≡ suc i = omega arith in z)

same_type_at : (ts : List DataType) (i : ℕ) (t u : DataType) → slice_get ts i ≡ Some t → slice_get ts i ≡ Some u → t ≡ u
same_type_at ts i t u p q = let z : Some t ≡ Some u = sym p ∙ q in cc

mutual
  pub none_missed : (l : Layout) (t : DataType) (masks : List FieldMask) → HasForm l t → name_fields t masks ≡ true → misses l masks ≡ false
  none_missed (node d rows (Leaf segments spelling) kids) t masks form named = refl
  none_missed (node d rows (List' p) kids) t masks form named = refl
  none_missed (node (bool_type n) rows Struct kids) t masks form named = absurd (let z : false ≡ true = form.1 in cc)
  none_missed (node (int_type p n) rows Struct kids) t masks form named = absurd (let z : false ≡ true = form.1 in cc)
  none_missed (node (utf8_type n) rows Struct kids) t masks form named = absurd (let z : false ≡ true = form.1 in cc)
  none_missed (node (list_type d n) rows Struct kids) t masks form named = absurd (let z : false ≡ true = form.1 in cc)
  none_missed (node (struct_type fs n) rows Struct kids) t masks form named =
      none_found fs n (λ m. nth_misses kids (one_where n + m.1) (m.0 ∷ [])) masks (subst (λ z. name_fields z masks ≡ true) (sym form.0) named)
      (λ m i u at yes. none_missed_at kids (with_validity n (field_types (field_list fs))) (one_where n + i) m form.3 (λ v here. subst (λ z. names z m ≡ true) (same_type_at (field_types (field_list fs)) i u v at (sym (shifted_get n (field_types (field_list fs)) i) ∙ here)) yes))
      (λ i. none_missed_at kids (with_validity n (field_types (field_list fs))) (one_where n + i) All form.3 (λ v here. refl))

  none_missed_at : (ls : Nodes) (ts : List DataType) (k : ℕ) (m : FieldMask) → HaveForms ls ts → ((t : DataType) → slice_get ts k ≡ Some t → names t m ≡ true) → nth_misses ls k (m ∷ []) ≡ false
  none_missed_at no_nodes ts k m forms named = refl
  none_missed_at (child l ls) [] k m forms named = absurd forms
  none_missed_at (child l ls) (t ∷ ts) zero m forms named = none_missed l t (m ∷ []) forms.0 (one (names t m) (named t refl))
  none_missed_at (child l ls) (t ∷ ts) (suc k) m forms named = none_missed_at ls ts k m forms.1 (λ u h. named u h)
