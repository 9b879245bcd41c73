-- The fields that masks match, by names.
use Rattle.std.proofs.Common.{◌≡◌, ℕ, suc, ◌+◌, ◌<◌, List, [], ◌∷◌, ◌++◌, length, map, arith, refl, sym, ◌∙◌, ap, Bool, false, true, ◌||◌, cond, Some, None, bytes_eq, not}
use Rattle.std.specs.Prelude.{option_map, position, nat_lt, if◌then◌else◌}
use Rattle.std.specs.List.{list_any, flat_map, position_or_len}
use Rattle.std.proofs.lemmas.Bool.{ltb-true, lt-ltb}
use Rattle.scan_values.specs.declared.field_path.FieldMask.{FieldMask}
use Rattle.scan_values.specs.declared.field_path.FieldMask.TheVariants.{All, Prefix}
use Rattle.scan_values.specs.DataType.{Fields, no_fields, field, Name, field_list}
use Rattle.scan_values.specs.FieldLists.{names_of}
use Rattle.scan_values.specs.FieldPaths.{matches_all, stepped}
use Rattle.scan_values.proofs.Named.{same_bytes}
use Rattle.scan_layout.specs.Edges.{MaskPath, is_all, place_of, at_place, matching_one, matching}
use Rattle.scan_layout.specs.Edges as edges
use Rattle.scan_layout.specs.Slots.{every_field, field_of, named_fields}
use Rattle.scan_layout.specs.Laws.{path_of, found_at, MasksSplitByFields}
use Rattle.scan_spelling.proofs.Lengths.{bind_some, map_some}

same_all : (m : FieldMask) → is_all (path_of m) ≡ matches_all m
same_all All = refl
same_all (Prefix []) = refl
same_all (Prefix (n ∷ ns)) = refl

some_all : (ms : List FieldMask) → list_any is_all (map path_of ms) ≡ list_any matches_all ms
some_all [] = refl
some_all (m ∷ ms) = λ i. same_all m i || some_all ms i

next_place : (k j : ℕ) → k + 1 + j ≡ k + (j + 1)
next_place k j = omega arith

every_same : (fs : Fields) (k j : ℕ) → edges.every_field fs (k + j) ≡ map (found_at k) (every_field j (length (field_list fs)))
every_same no_fields k j = refl
every_same (field name t fs) k j =
    ap (λ ms. ([], k + j) ∷ ms) (ap (edges.every_field fs) (let e : k + j + 1 ≡ k + (j + 1) = omega arith in e) ∙ every_same fs k (j + 1))

-- where a test passes first, in a list with one more before it
tail_place : (p : Name → Bool) (x : Name) (xs : List Name) (i : ℕ) → p x ≡ false → position p (x ∷ xs) ≡ Some i → (j : ℕ) × (i ≡ suc j) × (position p xs ≡ Some j)
tail_place p x xs i e h = by_test (nat_lt (suc (position_or_len p xs)) (suc (length xs))) refl
  where
    later : position_or_len p (x ∷ xs) ≡ suc (position_or_len p xs)
    later = ap (λ b. cond (not b) (1 + position_or_len p xs) 0) e ∙ (let up : 1 + position_or_len p xs ≡ suc (position_or_len p xs) = omega arith in up)

    at : cond (nat_lt (suc (position_or_len p xs)) (suc (length xs))) (Some (suc (position_or_len p xs))) None ≡ Some i
    at = ap (λ n. cond (nat_lt n (suc (length xs))) (Some n) None) (sym later) ∙ h

    by_test : (b : Bool) → nat_lt (suc (position_or_len p xs)) (suc (length xs)) ≡ b → (j : ℕ) × (i ≡ suc j) × (position p xs ≡ Some j)
    by_test true t =
        let low : suc (position_or_len p xs) < suc (length xs) = ltb-true (suc (position_or_len p xs)) (suc (length xs)) t in
        let is : Some (suc (position_or_len p xs)) ≡ Some i = ap (λ b. cond b (Some (suc (position_or_len p xs))) None) (sym t) ∙ at in
        (position_or_len p xs, cc, rw (lt-ltb (position_or_len p xs) (length xs) (omega arith)) refl)
    by_test false t = let none : None ≡ Some i = ap (λ b. cond b (Some (suc (position_or_len p xs))) None) (sym t) ∙ at in absurd cc

first_place : (p : Name → Bool) (x : Name) (xs : List Name) (i : ℕ) → p x ≡ true → position p (x ∷ xs) ≡ Some i → i ≡ 0
first_place p x xs i e h =
    let now : position_or_len p (x ∷ xs) ≡ 0 = ap (λ b. cond (not b) (1 + position_or_len p xs) 0) e in
    let low : nat_lt 0 (suc (length xs)) ≡ true = lt-ltb 0 (suc (length xs)) (omega arith) in
    let is : Some 0 ≡ Some i = ap (λ b. cond b (Some 0) None) (sym low) ∙ ap (λ n. cond (nat_lt n (suc (length xs))) (Some n) None) (sym now) ∙ h in
    cc

none_there : {P : Type 0} (i : ℕ) → None ≡ Some i → P
none_there i e = absurd cc

found_where : (fs : Fields) (name other : Name) (k i : ℕ) (b : Bool) → bytes_eq name other ≡ b → position (bytes_eq name) (other ∷ names_of (field_list fs)) ≡ Some i →
    ((j : ℕ) → position (bytes_eq name) (names_of (field_list fs)) ≡ Some j → place_of fs name (k + 1) ≡ Some (k + 1 + j)) → (if bytes_eq other name then Some k else place_of fs name (k + 1)) ≡ Some (k + i)
found_where fs name other k i true e h rest =
    let here : i ≡ 0 = first_place (bytes_eq name) other (names_of (field_list fs)) i e h in
    let same : k ≡ k + i = omega (arith, here) in
    rw (same_bytes other name, e) (ap Some same)
found_where fs name other k i false e h rest =
    let later = tail_place (bytes_eq name) other (names_of (field_list fs)) i e h in
    let same : k + 1 + later.0 ≡ k + i = omega (arith, later.1) in
    rw (same_bytes other name, e) (rest later.0 later.2 ∙ ap Some same)

place_found : (fs : Fields) (name : Name) (k i : ℕ) → position (bytes_eq name) (names_of (field_list fs)) ≡ Some i → place_of fs name k ≡ Some (k + i)
place_found no_fields name k i h = none_there i h
place_found (field other t fs) name k i h = found_where fs name other k i (bytes_eq name other) refl h (λ j e. place_found fs name (k + 1) j e)

below : (n : Name) (ns : List Name) → path_of (stepped (Prefix (n ∷ ns))) ≡ ns
below n [] = refl
below n (m ∷ ns) = refl

one_found : (fs : Fields) (k : ℕ) (m : FieldMask) (i : ℕ) → field_of (names_of (field_list fs)) m ≡ Some i → matching_one fs k (path_of m) ≡ found_at k (stepped m, i) ∷ []
one_found fs k All i e = none_there i e
one_found fs k (Prefix []) i e = none_there i e
one_found fs k (Prefix (n ∷ ns)) i e = ap (at_place ns) (place_found fs n k i e) ∙ ap (λ names. (names, k + i) ∷ []) (sym (below n ns))

all_found : (fs : Fields) (k : ℕ) (ms : List FieldMask) (found : List (FieldMask × ℕ)) → named_fields (names_of (field_list fs)) ms ≡ Some found → flat_map (matching_one fs k) (map path_of ms) ≡ map (found_at k) found
all_found fs k [] found e = let same : [] ≡ found = cc in ap (map (found_at k)) same
all_found fs k (m ∷ ms) found e =
    let one = bind_some (field_of (names_of (field_list fs)) m) (λ i. option_map (λ rest. (stepped m, i) ∷ rest) (named_fields (names_of (field_list fs)) ms)) found e in
    let others = map_some (named_fields (names_of (field_list fs)) ms) (λ rest. (stepped m, one.0) ∷ rest) found one.2 in
    (λ j. one_found fs k m one.0 one.1 j ++ all_found fs k ms others.0 others.1 j) ∙ ap (map (found_at k)) others.2

by_test : (fs : Fields) (k : ℕ) (masks : List FieldMask) (found : List (FieldMask × ℕ)) (b : Bool) → (if b then Some (every_field 0 (length (field_list fs))) else named_fields (names_of (field_list fs)) masks) ≡ Some found →
    (if b then edges.every_field fs k else flat_map (matching_one fs k) (map path_of masks)) ≡ map (found_at k) found
by_test fs k masks found true e =
    let same : every_field 0 (length (field_list fs)) ≡ found = cc in
    ap (edges.every_field fs) (let z : k ≡ k + 0 = omega arith in z) ∙ every_same fs k 0 ∙ ap (map (found_at k)) same
by_test fs k masks found false e = all_found fs k masks found e

pub splits_by_fields : MasksSplitByFields
splits_by_fields fs k masks found e =
    ap (λ b. if b then edges.every_field fs k else flat_map (matching_one fs k) (map path_of masks)) (some_all masks) ∙ by_test fs k masks found (list_any matches_all masks) e
