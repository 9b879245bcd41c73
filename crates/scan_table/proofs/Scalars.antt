-- The keys of the rows of a table are scalars.
use Rattle.std.proofs.Common.{◌≡◌, ℕ, zero, suc, ◌+◌, Bool, true, false, List, [], ◌∷◌, ◌++◌, length, map, take, Option, None, Some, refl}
use Rattle.std.specs.Prelude.{◌&&◌, All}
use Rattle.std.proofs.lemmas.List.Elements.{All-nil, All-cons}
use Rattle.scan_values.specs.DataType.{DataType, Name, bool_type, int_type, utf8_type, list_type, struct_type, Fields, no_fields, field}
use Rattle.scan_values.specs.Fits.{fits, fits_all, fits_fields}
use Rattle.scan_values.specs.Kinds.{is_scalar_type}
use Rattle.scan_values.specs.Values.{val_of}
use Rattle.scan_values.specs.declared.value.Value.{Value}
use Rattle.scan_values.specs.Val.{Val, null_val, bool_val, int_val, text_val, list_val, struct_val, Vals, no_vals, val, vals_of, marked, marked_all}
use Rattle.scan_expr.specs.Expr.{Expr, parts_of}
use Rattle.scan_expr.specs.Infer.{infer, infer_all}
use Rattle.scan_groups.specs.Order.{is_scalar, are_scalars}
use Rattle.scan_table.specs.Request.{key_fault, or_else, unless}
use Rattle.scan_table.specs.Spec.{key_count, key_parts, measure_parts, own_names, projection_of}
use Rattle.scan_table.specs.Rows.{listed, row_in}
use Rattle.scan_table.specs.Totalled.{HasKey, begin_scalar, has_keys}
use Rattle.scan_table.specs.declared.fault.TableFault.{TableFault}
use Rattle.scan_table.specs.declared.fault.TableFault.TheVariants as fault
use Rattle.scan_table.specs.declared.spec.TableSpec.{TableSpec}

and_left : (a b : Bool) → (a && b) ≡ true → a ≡ true
and_left true b h = refl
and_left false b h = h

and_right : (a b : Bool) → (a && b) ≡ true → b ≡ true
and_right true b h = h
and_right false b h = cc

and_true : (a b : Bool) → a ≡ true → b ≡ true → (a && b) ≡ true
and_true true b h k = k
and_true false b h k = cc

-- ---- a value of a scalar's dtype is one
scalar_fits : (v : Val) (d : DataType) → is_scalar_type d ≡ true → fits (marked v) d ≡ true → is_scalar v ≡ true
scalar_fits null_val d s h = refl
scalar_fits (bool_val b) d s h = refl
scalar_fits (int_val z) d s h = refl
scalar_fits (text_val t) d s h = refl
scalar_fits (list_val vs) (bool_type n) s h = cc
scalar_fits (list_val vs) (int_type p n) s h = cc
scalar_fits (list_val vs) (utf8_type n) s h = cc
scalar_fits (list_val vs) (list_type d n) s h = cc
scalar_fits (list_val vs) (struct_type fs n) s h = cc
scalar_fits (struct_val vs) (bool_type n) s h = cc
scalar_fits (struct_val vs) (int_type p n) s h = cc
scalar_fits (struct_val vs) (utf8_type n) s h = cc
scalar_fits (struct_val vs) (list_type d n) s h = cc
scalar_fits (struct_val vs) (struct_type fs n) s h = cc

first_scalars : (n : ℕ) (vs : Vals) (fs : Fields) → begin_scalar n fs ≡ true → fits_fields (marked_all vs) fs ≡ true → are_scalars (take n (listed vs)) ≡ true
first_scalars zero vs fs s h = refl
first_scalars (suc n) no_vals fs s h = refl
first_scalars (suc n) (val v vs) no_fields s h = cc
first_scalars (suc n) (val v vs) (field m d fs) s h =
    and_true (is_scalar v) (are_scalars (take n (listed vs)))
    (scalar_fits v d (and_left (is_scalar_type d) (begin_scalar n fs) s) (and_left (fits (marked v) d) (fits_fields (marked_all vs) fs) h))
    (first_scalars n vs fs (and_right (is_scalar_type d) (begin_scalar n fs) s) (and_right (fits (marked v) d) (fits_fields (marked_all vs) fs) h))

no_values : (n : ℕ) → are_scalars (take n []) ≡ true
no_values zero = refl
no_values (suc n) = refl

key_scalars : (n : ℕ) (v : Val) (d : DataType) → has_keys n d ≡ true → fits (marked v) d ≡ true → are_scalars (row_in n v).key ≡ true
key_scalars n null_val d s h = no_values n
key_scalars n (bool_val b) d s h = no_values n
key_scalars n (int_val z) d s h = no_values n
key_scalars n (text_val t) d s h = no_values n
key_scalars n (list_val vs) d s h = no_values n
key_scalars n (struct_val vs) (bool_type m) s h = cc
key_scalars n (struct_val vs) (int_type p m) s h = cc
key_scalars n (struct_val vs) (utf8_type m) s h = cc
key_scalars n (struct_val vs) (list_type d m) s h = cc
key_scalars n (struct_val vs) (struct_type fs m) s h = first_scalars n vs fs s h

-- values of a dtype that begins with so many scalars
pub have_keys : (n : ℕ) (vs : List Value) (d : DataType) → has_keys n d ≡ true → fits_all (marked_all (vals_of (map val_of vs))) d ≡ true → All (HasKey n) vs
have_keys n [] d s h = All-nil (HasKey n)
have_keys n (v ∷ vs) d s h =
    All-cons (HasKey n) v vs
    (key_scalars n (val_of v) d s (and_left (fits (marked (val_of v)) d) (fits_all (marked_all (vals_of (map val_of vs))) d) h))
    (have_keys n vs d s (and_right (fits (marked (val_of v)) d) (fits_all (marked_all (vals_of (map val_of vs))) d) h))

-- ---- the dtype of what is read begins with the keys
head_passes : (b : Bool) (f : TableFault) (o : Option TableFault) → or_else (unless b f) o ≡ None → b ≡ true
head_passes true f o h = refl
head_passes false f o h = absurd (let e : ◌≡◌ {A = Option TableFault} (Some f) None = h in cc)

rest_passes : (b : Bool) (f : TableFault) (o : Option TableFault) → or_else (unless b f) o ≡ None → o ≡ None
rest_passes true f o h = h
rest_passes false f o h = absurd (let e : ◌≡◌ {A = Option TableFault} (Some f) None = h in cc)

keys_begin : (d : DataType) (i j : ℕ) (ks : List (Name × Expr)) (es : List Expr) → key_fault d i ks ≡ None
    → begin_scalar (length ks) (infer_all d (parts_of (own_names j (key_parts ks ++ es)) (key_parts ks ++ es))) ≡ true
keys_begin d i j [] es h = refl
keys_begin d i j (k ∷ ks) es h =
    and_true (is_scalar_type (infer d k.1)) (begin_scalar (length ks) (infer_all d (parts_of (own_names (j + 1) (key_parts ks ++ es)) (key_parts ks ++ es))))
    (head_passes (is_scalar_type (infer d k.1)) (fault.KeyType i) (key_fault d (i + 1) ks) h)
    (keys_begin d (i + 1) (j + 1) ks es (rest_passes (is_scalar_type (infer d k.1)) (fault.KeyType i) (key_fault d (i + 1) ks) h))

pub projection_has_keys : (d : DataType) (s : TableSpec) → key_fault d 0 s.keys.items ≡ None → has_keys (key_count s) (infer d (projection_of s)) ≡ true
projection_has_keys d s h = keys_begin d 0 0 s.keys.items (measure_parts s.measures.items) h
