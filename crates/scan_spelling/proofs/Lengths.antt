-- As many values as rows.
use Rattle.std.proofs.Common.{◌≡◌, ℕ, suc, ◌≤◌, List, [], ◌∷◌, length, take, drop, replicate, arith, refl, sym, ◌∙◌, ap, Bool, false, true, Option, Some, None}
use Rattle.std.specs.Prelude.{option_map, option_and_then, nat_lt}
use Rattle.std.proofs.lemmas.Bool.{ltb-false}
use Rattle.std.proofs.lemmas.List.{length-take}
use Rattle.std.proofs.Math.ListN.{length-replicate}
use Rattle.scan_values.specs.declared.dtype.DTypeKind.{DTypeKind}
use Rattle.scan_values.specs.declared.ptype.Nullability.{Nullability}
use Rattle.scan_values.specs.declared.ptype.Nullability.TheVariants.{NonNullable, Nullable}
use Rattle.scan_values.specs.DataType.{DataType, nullability_of}
use Rattle.scan_values.specs.Kinds.{kind_of}
use Rattle.scan_values.specs.Val.{Val}
use Rattle.scan_spelling.specs.declared.spelling.Spelling.{Spelling}
use Rattle.scan_spelling.specs.declared.spelling.Spelling.TheVariants.{One, Two}
use Rattle.scan_spelling.specs.Spelling.{part, cell, cells, group_size, flags_in, slots_in, decode_slots, decode_under, decode, are_bytes}
use Rattle.scan_spelling.proofs.BitGroups.{group_is}

pub bind_some : {A B : Type 0} (o : Option A) (f : A → Option B) (y : B) → option_and_then f o ≡ Some y → (x : A) × (o ≡ Some x) × (f x ≡ Some y)
bind_some None f y e = absurd cc
bind_some (Some x) f y e = (x, refl, e)

pub map_some : {A B : Type 0} (o : Option A) (f : A → B) (y : B) → option_map f o ≡ Some y → (x : A) × (o ≡ Some x) × (f x ≡ y)
map_some None f y e = absurd cc
map_some (Some x) f y e = (x, refl, cc)

pub cells_length : (kind : DTypeKind) (flags bytes : List ℕ) (vs : List Val) → cells kind flags bytes ≡ Some vs → length vs ≡ length flags
cells_length kind [] [] [] e = refl
cells_length kind [] [] (v ∷ vs) e = absurd cc
cells_length kind [] (b ∷ bytes) vs e = absurd cc
cells_length kind (flag ∷ flags) bytes vs e =
    let first = bind_some (cell kind flag bytes) (λ x. option_map (λ us. x.0 ∷ us) (cells kind flags x.1)) vs e in
    let others = map_some (cells kind flags first.0.1) (λ us. first.0.0 ∷ us) vs first.2 in
    let rest : length others.0 ≡ length flags = cells_length kind flags first.0.1 others.0 others.1 in
    sym (ap length others.2) ∙ ap suc rest

abbrev front_of : Option (List ℕ × List ℕ) → List ℕ
front_of None = []
front_of (Some p) = p.0

pub part_length : (n : ℕ) (bytes xs ys : List ℕ) → part n bytes ≡ Some (xs, ys) → length xs ≡ n
part_length n bytes xs ys e = by_test (nat_lt (length bytes) n) refl
  where
    by_test : (b : Bool) → nat_lt (length bytes) n ≡ b → length xs ≡ n
    by_test true p = let none : None ≡ Some (xs, ys) = rw p at e in absurd cc
    by_test false p =
        let some : Some (take n bytes, drop n bytes) ≡ Some (xs, ys) = rw p at e in
        let same : take n bytes ≡ xs = ap front_of some in
        let enough : n ≤ length bytes = ltb-false (length bytes) n p in
        ap length (sym same) ∙ simp length-take (omega arith)

pub flags_in_length : (s : Spelling) (n : ℕ) (bytes flags : List ℕ) → length bytes ≡ group_size s n → flags_in s n bytes ≡ Some flags → length flags ≡ n
flags_in_length One n bytes flags l e = let same : bytes ≡ flags = cc in ap length (sym same) ∙ l
flags_in_length Two n bytes flags l e = (group_is n flags bytes e).0

slots_length : (s : Spelling) (kind : DTypeKind) (n : ℕ) (flags bytes : List ℕ) (vs : List Val) → decode_slots s kind n flags bytes ≡ Some vs → length vs ≡ length flags
slots_length s kind n flags bytes vs e =
    let found = bind_some (slots_in s kind n bytes) (cells kind flags) vs e in
    cells_length kind flags found.0 vs found.2

under_length : (s : Spelling) (n' : Nullability) (kind : DTypeKind) (n : ℕ) (bytes : List ℕ) (vs : List Val) → decode_under s n' kind n bytes ≡ Some vs → length vs ≡ n
under_length s NonNullable kind n bytes vs e = slots_length s kind n (replicate n 1) bytes vs e ∙ length-replicate n 1
under_length s Nullable kind n bytes vs e =
    let split = bind_some (part (group_size s n) bytes) (λ p. option_and_then (λ flags. decode_slots s kind n flags p.1) (flags_in s n p.0)) vs e in
    let found = bind_some (flags_in s n split.0.0) (λ flags. decode_slots s kind n flags split.0.1) vs split.2 in
    slots_length s kind n found.0 split.0.1 vs found.2 ∙ flags_in_length s n split.0.0 found.0 (part_length (group_size s n) bytes split.0.0 split.0.1 split.1) found.1

pub decode_parts : (s : Spelling) (t : DataType) (n : ℕ) (bytes : List ℕ) (vs : List Val) → decode s t n bytes ≡ Some vs → (are_bytes bytes ≡ true) × (decode_under s (nullability_of t) (kind_of t) n bytes ≡ Some vs)
decode_parts s t n bytes vs e = by_test (are_bytes bytes) refl
  where
    by_test : (b : Bool) → are_bytes bytes ≡ b → (are_bytes bytes ≡ true) × (decode_under s (nullability_of t) (kind_of t) n bytes ≡ Some vs)
    by_test true p = let read : decode_under s (nullability_of t) (kind_of t) n bytes ≡ Some vs = rw p at e in (p, read)
    by_test false p = let none : None ≡ Some vs = rw p at e in absurd cc

pub decode_length : (s : Spelling) (t : DataType) (n : ℕ) (bytes : List ℕ) (vs : List Val) → decode s t n bytes ≡ Some vs → length vs ≡ n
decode_length s t n bytes vs e = under_length s (nullability_of t) (kind_of t) n bytes vs (decode_parts s t n bytes vs e).1
