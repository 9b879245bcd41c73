-- The segment that has a row of a leaf.
use Rattle.std.proofs.Common.{◌≡◌, ℕ, suc, ◌+◌, ◌-◌, ◌<◌, ◌≤◌, Bool, true, false, List, [], ◌∷◌, ◌++◌, length, get_or, refl, ap, ◌∙◌, sym, arith}
use Rattle.std.specs.Prelude.{nat_lt, if◌then◌else◌}
use Rattle.std.specs.List.{list_any}
use Rattle.std.proofs.lemmas.Bool.{eq-eqb}
use Rattle.std.proofs.lemmas.Bool.Decides.{nat_tests}
use Rattle.scan_values.specs.DataType.{DataType}
use Rattle.scan_spelling.specs.declared.spelling.Spelling.{Spelling}
use Rattle.scan_layout.specs.Check.{total_rows}
use Rattle.scan_spelling.specs.Places.{place_of, places_of}
use Rattle.scan_splits.specs.Runs.{start_of}
use Rattle.scan_plans.specs.Wants.{leaf_wanted, names_id, part_of}
use Rattle.scan_plans.proofs.LeafWalk.{Segment, to_want, want_start, want_next, start_end, starts_in_time}

pub row_inside : (gs : List Segment) (row k : ℕ) → k ≤ length gs → ((j : ℕ) → j < k → start_of gs (j + 1) ≤ row) → row < total_rows gs → k < length gs
row_inside gs row k h before w = by (nat_lt k (length gs)) refl
  where
    by : (b : Bool) → nat_lt k (length gs) ≡ b → k < length gs
    by true e = grind (arith, nat_tests, e)
    by false e =
        let far : length gs ≤ k = grind (arith, nat_tests, e) in
        let z = start_end gs k far in
        let y = starts_in_time gs row k before in
        absurd (omega (arith, z, y, w))

part_true : (row a b : ℕ) → a ≤ row → row < b → list_any (λ x. x) (part_of row a b (true ∷ [])) ≡ true
part_true row a b low high =
    let y : (b - row) - (a - row) ≡ suc (b - row - 1) = omega (arith, low, high) in
    let z : a - row ≡ 0 = omega (arith, low) in
    rw (y, z) refl

pub names_segment : (d : DataType) (s : Spelling) (gs : List Segment) (row k id : ℕ) → k < length gs → ((j : ℕ) → j < k → start_of gs (j + 1) ≤ row) → row < start_of gs (k + 1) → id ≡ (get_or gs k (0, 0)).0 → names_id id (leaf_wanted 0 (places_of d s gs) (row ∷ [])) ≡ true
names_segment d s gs row k id h before high e =
    let low = starts_in_time gs row k before in
    let any = part_true row (start_of gs k) (start_of gs (k + 1)) low high in
    let all : leaf_wanted 0 (places_of d s gs) (row ∷ []) ≡ place_of d s (get_or gs k (0, 0)) ∷ to_want d s gs row (true ∷ []) (k + 1) =
    sym (want_start d s gs row (true ∷ []) k low) ∙ want_next d s gs row (true ∷ []) k (0, 0) h ∙ ap (λ b. (if b then place_of d s (get_or gs k (0, 0)) ∷ [] else []) ++ to_want d s gs row (true ∷ []) (k + 1)) any in
    ap (λ ps. names_id id ps) all ∙ rw (e, eq-eqb (get_or gs k (0, 0)).0 (get_or gs k (0, 0)).0 refl) refl
