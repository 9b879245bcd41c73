-- What is in a dtype, or in a value, is smaller than it.
use Rattle.std.proofs.Common.{◌≡◌, ℕ, zero, suc, ◌+◌, ◌≤◌, ◌<◌, List, [], ◌∷◌, length, get_or, map, sym, ap, subst, arith, None, Some}
use Rattle.std.specs.Prelude.{slice_get}
use Rattle.scan_values.specs.DataType.{DataType, Name, Fields, bool_type, int_type, utf8_type, list_type, struct_type, fields_of, size_of, fields_size}
use Rattle.scan_values.specs.FieldLists.{dtypes_of}
use Rattle.scan_values.specs.Kinds.{element_of, struct_fields_of}
use Rattle.scan_values.specs.Val.{vals_of, val_size, vals_size}
use Rattle.scan_values.specs.Values.{val_of}
use Rattle.scan_values.specs.declared.value.Value.{Value}

-- a field
pub field_falls : (fs : List (Name × DataType)) (i : ℕ) (d : DataType) → Some d ≡ slice_get (dtypes_of fs) i → size_of d + 1 ≤ fields_size (fields_of fs)
field_falls [] i d is = absurd cc
field_falls (f ∷ fs) zero d is = let e : d ≡ f.1 = cc in let s = ap size_of e in omega (arith, s)
field_falls (f ∷ fs) (suc i) d is = let r = field_falls fs i d is in omega (arith, r)

-- the fields
pub fields_fall : (d : DataType) (fs : Fields) → Some fs ≡ struct_fields_of d → size_of d ≡ fields_size fs + 1
fields_fall (bool_type n) fs is = absurd cc
fields_fall (int_type p n) fs is = absurd cc
fields_fall (utf8_type n) fs is = absurd cc
fields_fall (list_type d n) fs is = absurd cc
fields_fall (struct_type gs n) fs is = let e : gs ≡ fs = cc in ap (λ z. fields_size z + 1) e

-- the elements
pub element_falls : (d e : DataType) → Some e ≡ element_of d → size_of d ≡ size_of e + 1
element_falls (bool_type n) e is = absurd cc
element_falls (int_type p n) e is = absurd cc
element_falls (utf8_type n) e is = absurd cc
element_falls (list_type d n) e is = let s : d ≡ e = cc in ap (λ z. size_of z + 1) s
element_falls (struct_type fs n) e is = absurd cc

size_at : (vs : List Value) (i : ℕ) (d : Value) → i < length vs → val_size (val_of (get_or vs i d)) ≤ vals_size (vals_of (map val_of vs))
size_at [] i d h = absurd (omega arith)
size_at (v ∷ vs) zero d h = omega arith
size_at (v ∷ vs) (suc i) d h = let e = size_at vs i d (omega arith) in omega arith

-- one of some values
pub one_size : (vs : List Value) (i : ℕ) (v : Value) → i < length vs → v ≡ get_or vs i v → val_size (val_of v) ≤ vals_size (vals_of (map val_of vs))
one_size vs i v h e = subst (λ x. val_size (val_of x) ≤ vals_size (vals_of (map val_of vs))) (sym e) (size_at vs i v h)

-- a place within the fields has a dtype
pub field_there : (fs : List (Name × DataType)) (i : ℕ) → i < length fs → None ≡ slice_get (dtypes_of fs) i → ⊥
field_there [] i h e = omega (arith, h)
field_there (f ∷ fs) zero h e = cc
field_there (f ∷ fs) (suc i) h e = field_there fs i (omega (arith, h)) e
