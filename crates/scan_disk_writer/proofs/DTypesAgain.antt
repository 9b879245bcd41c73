-- A dtype that is written as JSON is read again.
use Rattle.std.proofs.Common.{◌≡◌, ℕ, zero, suc, ◌+◌, ◌≤◌, true, cond, List, ◌∷◌, ◌++◌, refl, ap, ◌∙◌, arith}
use Rattle.std.specs.Prelude.{Option, None, Some, option_map, option_and_then, nat_le}
use Rattle.std.proofs.lemmas.Bool.Decides.{nat_tests}
use Rattle.serde_json.specs.Data.{Data, Items, item}
use Rattle.scan_values.specs.declared.ptype.PType.{PType}
use Rattle.scan_values.specs.declared.ptype.PType.TheVariants.{U8, U16, U32, U64, I8, I16, I32, I64}
use Rattle.scan_values.specs.declared.ptype.Nullability.{Nullability}
use Rattle.scan_values.specs.declared.ptype.Nullability.TheVariants.{NonNullable, Nullable}
use Rattle.scan_values.specs.DataType.{DataType, Name, Fields, no_fields, field, bool_type, int_type, utf8_type, list_type, struct_type, field_list, fields_of, depth_of, fields_depth}
use Rattle.scan_manifest.specs.Json.{each_from, both}
use Rattle.scan_manifest.specs.DTypes.{ptype_named, scalar_named, shallow, field_in, dtype_within}
use Rattle.scan_disk_writer.specs.Json.{ptype_name, mark, named, json_of_dtype, json_of_fields}

pub ptype_again : (p : PType) → ptype_named (ptype_name p) ≡ Some p
ptype_again U8 = refl
ptype_again U16 = refl
ptype_again U32 = refl
ptype_again U64 = refl
ptype_again I8 = refl
ptype_again I16 = refl
ptype_again I32 = refl
ptype_again I64 = refl

int_again : (p : PType) (n : Nullability) → scalar_named (ptype_name p ++ mark n) ≡ Some (int_type p n)
int_again U8 NonNullable = refl
int_again U16 NonNullable = refl
int_again U32 NonNullable = refl
int_again U64 NonNullable = refl
int_again I8 NonNullable = refl
int_again I16 NonNullable = refl
int_again I32 NonNullable = refl
int_again I64 NonNullable = refl
int_again U8 Nullable = refl
int_again U16 Nullable = refl
int_again U32 Nullable = refl
int_again U64 Nullable = refl
int_again I8 Nullable = refl
int_again I16 Nullable = refl
int_again I32 Nullable = refl
int_again I64 Nullable = refl

pub fields_again : (fs : Fields) → fields_of (field_list fs) ≡ fs
fields_again no_fields = refl
fields_again (field n d fs) = ap (field n d) (fields_again fs)

shallow_is : (d : DataType) → depth_of d ≤ 66 → shallow d ≡ Some d
shallow_is d h = let yes : nat_le (depth_of d) 66 ≡ true = grind (arith, nat_tests) in ap (λ b. cond b (Some d) None) yes

field_again : (inner : Data → Option DataType) (n : Name) (j : Data) (d : DataType) → inner j ≡ Some d → field_in inner (named n j) ≡ Some (n, d)
field_again inner n j d h = ap (λ o. both (λ m t. Some (m, t)) (Some n) o) h

pub each_more : {T : Type 0} (f : ℕ → Data → Option T) (i : ℕ) (d : Data) (ds : Items) (x : T) (xs : List T) → f i d ≡ Some x → each_from f (i + 1) ds ≡ Some xs
    → each_from f i (item d ds) ≡ Some (x ∷ xs)
each_more f i d ds x xs h r = ap (option_and_then (λ y. option_map (λ ys. y ∷ ys) (each_from f (i + 1) ds))) h ∙ ap (option_map (λ ys. x ∷ ys)) r

mutual
  pub dtype_again : (d : DataType) (k : ℕ) → depth_of d ≤ k → depth_of d ≤ 66 → dtype_within k (json_of_dtype d) ≡ Some d
  dtype_again (bool_type n) zero h s = absurd (omega (arith, h))
  dtype_again (int_type p n) zero h s = absurd (omega (arith, h))
  dtype_again (utf8_type n) zero h s = absurd (omega (arith, h))
  dtype_again (list_type d n) zero h s = absurd (omega (arith, h))
  dtype_again (struct_type fs n) zero h s = absurd (omega (arith, h))
  dtype_again (bool_type NonNullable) (suc k) h s = refl
  dtype_again (bool_type Nullable) (suc k) h s = refl
  dtype_again (int_type p n) (suc k) h s = int_again p n
  dtype_again (utf8_type NonNullable) (suc k) h s = refl
  dtype_again (utf8_type Nullable) (suc k) h s = refl
  dtype_again (list_type d NonNullable) (suc k) h s =
      ap (λ o. both (λ e n. shallow (list_type e n)) o (Some NonNullable)) (dtype_again d k (omega (arith, h)) (omega (arith, s))) ∙ shallow_is (list_type d NonNullable) s
  dtype_again (list_type d Nullable) (suc k) h s =
      ap (λ o. both (λ e n. shallow (list_type e n)) o (Some Nullable)) (dtype_again d k (omega (arith, h)) (omega (arith, s))) ∙ shallow_is (list_type d Nullable) s
  dtype_again (struct_type fs NonNullable) (suc k) h s =
      ap (λ o. both (λ gs n. shallow (struct_type (fields_of gs) n)) o (Some NonNullable)) (types_again fs k 0 (omega (arith, h)) (omega (arith, s)))
      ∙ (ap (λ gs. shallow (struct_type gs NonNullable)) (fields_again fs) ∙ shallow_is (struct_type fs NonNullable) s)
  dtype_again (struct_type fs Nullable) (suc k) h s =
      ap (λ o. both (λ gs n. shallow (struct_type (fields_of gs) n)) o (Some Nullable)) (types_again fs k 0 (omega (arith, h)) (omega (arith, s)))
      ∙ (ap (λ gs. shallow (struct_type gs Nullable)) (fields_again fs) ∙ shallow_is (struct_type fs Nullable) s)

  types_again : (fs : Fields) (k i : ℕ) → fields_depth fs ≤ k → fields_depth fs ≤ 66 → each_from (λ _. field_in (dtype_within k)) i (json_of_fields fs) ≡ Some (field_list fs)
  types_again no_fields k i h s = refl
  types_again (field n d fs) k i h s =
      each_more (λ _. field_in (dtype_within k)) i (named n (json_of_dtype d)) (json_of_fields fs) (n, d) (field_list fs)
      (field_again (dtype_within k) n (json_of_dtype d) d (dtype_again d k (omega (arith, h)) (omega (arith, s)))) (types_again fs k (i + 1) (omega (arith, h)) (omega (arith, s)))
