-- The numbers of rows.
use Rattle.std.proofs.Common.{◌≡◌, ℕ, suc, pos, ◌+◌, ◌≤◌, ◌^◌, Bool, true, false, List, [], ◌∷◌, map, length, refl, ap, ◌∙◌, arith}
use Rattle.std.specs.List.{list_any, items_where_true}
use Rattle.scan_values.specs.Arrays.{ArrayData, of_parts}
use Rattle.scan_values.specs.DataType.{int_type}
use Rattle.scan_values.specs.declared.ptype.Nullability.TheVariants.{NonNullable}
use Rattle.scan_values.specs.declared.ptype.PType.TheVariants.{U64}
use Rattle.scan_values.specs.Marked.{integer}
use Rattle.scan_values.specs.Val.{marked}
use Rattle.scan_segments.specs.Source.{Store}
use Rattle.scan_columns.specs.Numbers.{numbers_from}
use Rattle.scan_plans.specs.PlanTree.{numbers}
use Rattle.scan_plans.specs.Came.{Came, arrived}
use Rattle.scan_plans.specs.Meaning.{value_at, true_rows}
use Rattle.scan_plans.specs.Reads.{AreValues}

never : (is : List ℕ) → list_any (λ i. false) is ≡ false
never [] = refl
never (i ∷ is) = never is

numbers_taken : (store : Store) (k first : ℕ) (bits : List Bool) → map marked (items_where_true bits (numbers_from (k + first) (length bits))) ≡ map (value_at (numbers k) store) (true_rows first bits)
numbers_taken store k first [] = refl
numbers_taken store k first (b ∷ bits) = by b (ap (λ n. map marked (items_where_true bits (numbers_from n (length bits)))) next ∙ numbers_taken store k (first + 1) bits)
  where
    next : suc (k + first) ≡ k + (first + 1)
    next = omega arith

    by : (c : Bool) → map marked (items_where_true bits (numbers_from (suc (k + first)) (length bits))) ≡ map (value_at (numbers k) store) (true_rows (first + 1) bits)
        → map marked (items_where_true (c ∷ bits) (numbers_from (k + first) (length (c ∷ bits)))) ≡ map (value_at (numbers k) store) (true_rows first (c ∷ bits))
    by true rest = ap (λ xs. integer (pos (k + first)) ∷ xs) rest
    by false rest = rest

pub numbers_ok : (k first from : ℕ) (here : Came) (bits : List Bool) (b : ArrayData) → from ≡ k + first → b ≡ of_parts (int_type U64 NonNullable) (items_where_true bits (numbers_from from (length bits))) → AreValues (numbers k) here (true_rows first bits) b
numbers_ok k first from here bits b f e = record {
  dtype = ap (λ (x : ArrayData). x.dtype) e;
  items = ap (λ (x : ArrayData). map marked x.items) e ∙ ap (λ n. map marked (items_where_true bits (numbers_from n (length bits)))) f ∙ numbers_taken (arrived here) k first bits;
  within = never (true_rows first bits);
  found = λ id. refl;
}

-- past the last number there is no row
pub numbers_none : (k first : ℕ) (here : Came) (bits : List Bool) (b : ArrayData) → 2 ^ 64 ≤ k + first → k + (first + length bits) ≤ 2 ^ 64 → b ≡ of_parts (int_type U64 NonNullable) [] → AreValues (numbers k) here (true_rows first bits) b
numbers_none k first here [] b far within e = record { dtype = ap (λ (x : ArrayData). x.dtype) e; items = ap (λ (x : ArrayData). map marked x.items) e; within = refl; found = λ id. refl }
numbers_none k first here (c ∷ bits) b far within e = let z : ⊥ = omega (arith, far, within) in absurd z
