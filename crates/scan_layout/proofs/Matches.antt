-- The fields that masks match, one by one.
use Rattle.std.proofs.Common.{◌≡◌, ℕ, zero, suc, ◌+◌, ◌-◌, ◌<◌, ◌≤◌, List, [], ◌∷◌, ◌++◌, length, get_or, drop, arith, add-one, refl, sym, ap, false, true, Option, Some, None, drop-cons, append_assoc, append-nil}
use Rattle.std.specs.Prelude.{option_map}
use Rattle.std.specs.List.{list_any}
use Rattle.scan_values.specs.declared.field_path.FieldMask.{FieldMask}
use Rattle.scan_values.specs.declared.field_path.FieldMask.TheVariants.{All}
use Rattle.scan_values.specs.DataType.{DataType, bool_type, int_type, utf8_type, list_type, struct_type, Fields, Name, field_list, fields_of}
use Rattle.scan_values.specs.FieldLists.{names_of}
use Rattle.scan_values.specs.FieldPaths.{matches_all, stepped}
use Rattle.scan_values.specs.Kinds.{struct_fields_of}
use Rattle.scan_layout.specs.Slots.{every_field, field_of, named_fields, fields_in}

pub all_here : (ms : List FieldMask) (i : ℕ) (m : FieldMask) → i < length ms → m ≡ get_or ms i m → matches_all m ≡ true → list_any matches_all (drop i ms) ≡ true
all_here ms i m h e t = rw (drop-cons ms i m h, ← e, t) refl

pub all_later : (ms : List FieldMask) (i : ℕ) (m : FieldMask) → i < length ms → m ≡ get_or ms i m → matches_all m ≡ false → list_any matches_all (drop i ms) ≡ list_any matches_all (drop (i + 1) ms)
all_later ms i m h e t = rw (drop-cons ms i m h, ← e, t, add-one) refl

past_nil : (ms : List FieldMask) (i : ℕ) → length ms ≤ i → drop i ms ≡ []
past_nil [] zero h = refl
past_nil [] (suc i) h = refl
past_nil (m ∷ ms) zero h = absurd (omega arith)
past_nil (m ∷ ms) (suc i) h = past_nil ms i (omega arith)

pub all_past : (ms : List FieldMask) (i : ℕ) → length ms ≤ i → list_any matches_all (drop i ms) ≡ false
all_past ms i h = rw (past_nil ms i h) refl

pub every_at : (n i : ℕ) → i < n → every_field i (n - i) ≡ (All, i) ∷ every_field (i + 1) (n - (i + 1))
every_at n i h = let e : n - i ≡ suc (n - (i + 1)) = omega arith in ap (every_field i) e

pub every_past : (n i : ℕ) → n ≤ i → every_field i (n - i) ≡ []
every_past n i h = let e : n - i ≡ 0 = omega arith in ap (every_field i) e

-- fields before others that are found
abbrev pub with_found : List (FieldMask × ℕ) → Option (List (FieldMask × ℕ)) → Option (List (FieldMask × ℕ))
with_found front rest = option_map (λ vs. front ++ vs) rest

joined : (front : List (FieldMask × ℕ)) (v : FieldMask × ℕ) (o : Option (List (FieldMask × ℕ))) → with_found front (option_map (λ vs. v ∷ vs) o) ≡ with_found (front ++ v ∷ []) o
joined front v None = refl
joined front v (Some vs) = ap Some (sym (append_assoc front (v ∷ []) vs))

pub named_at : (front : List (FieldMask × ℕ)) (names : List Name) (ms : List FieldMask) (k : ℕ) (m : FieldMask) (i : ℕ) → k < length ms → m ≡ get_or ms k m → Some i ≡ field_of names m →
    with_found front (named_fields names (drop k ms)) ≡ with_found (front ++ (stepped m, i) ∷ []) (named_fields names (drop (k + 1) ms))
named_at front names ms k m i h e g = rw (drop-cons ms k m h, ← e, ← g, add-one) (joined front (stepped m, i) (named_fields names (drop (suc k) ms)))

pub named_fault : (front : List (FieldMask × ℕ)) (names : List Name) (ms : List FieldMask) (k : ℕ) (m : FieldMask) → k < length ms → m ≡ get_or ms k m → None ≡ field_of names m → with_found front (named_fields names (drop k ms)) ≡ None
named_fault front names ms k m h e g = rw (drop-cons ms k m h, ← e, ← g) refl

pub named_past : (front : List (FieldMask × ℕ)) (names : List Name) (ms : List FieldMask) (k : ℕ) → length ms ≤ k → with_found front (named_fields names (drop k ms)) ≡ Some front
named_past front names ms k h = rw (past_nil ms k h) (ap Some (append-nil front))

pub names_again : (xs : List (Name × DataType)) → names_of (field_list (fields_of xs)) ≡ names_of xs
names_again [] = refl
names_again (x ∷ xs) = ap (λ ns. x.0 ∷ ns) (names_again xs)

pub fields_again : (t : DataType) (fs : Fields) → struct_fields_of t ≡ Some fs → fields_in t ≡ fs
fields_again (struct_type gs n) fs e = cc
fields_again (bool_type n) fs e = absurd cc
fields_again (int_type p n) fs e = absurd cc
fields_again (utf8_type n) fs e = absurd cc
fields_again (list_type t n) fs e = absurd cc
