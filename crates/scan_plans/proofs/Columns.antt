-- Columns that are read one after another.
use Rattle.std.proofs.Common.{◌≡◌, ℕ, zero, suc, ◌+◌, ◌<◌, ◌≤◌, Bool, true, false, ◌||◌, List, [], ◌∷◌, ◌++◌, take, drop, length, get_or, Err, refl, ap, subst, ◌∙◌, sym, arith}
use Rattle.scan_values.specs.Arrays.{ArrayData}
use Rattle.scan_plans.specs.PlanTree.{PlanTree, plans, tree_size, trees_size}
use Rattle.scan_plans.specs.Came.{Came, arrived}
use Rattle.scan_values.specs.Masks.{true_count}
use Rattle.scan_values.proofs.MaskLemmas.{true_count-cons}
use Rattle.scan_plans.specs.Meaning.{Within, AllWithin, overflow_on, true_rows}
use Rattle.scan_plans.specs.Wants.{wanted, all_wanted, Complete, spoiled, any_spoiled}
use Rattle.scan_plans.specs.Reads.{AreValues, AreColumns, Reads, ReadsAll, any_overflow_on}
use Rattle.scan_plans.specs.declared.fault.ReadFault.{ReadFault}
use Rattle.scan_plans.specs.declared.fault.ReadFault.TheVariants.{Corrupt, Overflow, NoMemory}
use Rattle.scan_plans.proofs.Transfer.{complete_left, complete_right}

or_true : (b : Bool) → (b || true) ≡ true
or_true true = refl
or_true false = refl

pub plans_next : (k : ℕ) (ps : List PlanTree) (p : PlanTree) → k < length ps → p ≡ get_or ps k p → drop k ps ≡ p ∷ drop (k + 1) ps
plans_next zero [] p h e = let z : ⊥ = omega (arith, h) in absurd z
plans_next zero (q ∷ ps) p h e = ap (λ x. x ∷ ps) (sym e)
plans_next (suc k) [] p h e = let z : ⊥ = omega (arith, h) in absurd z
plans_next (suc k) (q ∷ ps) p h e = plans_next k ps p (omega (arith, h)) e ∙ ap (λ n. p ∷ drop n (q ∷ ps)) moved
  where
    moved : suc (k + 1) ≡ suc k + 1
    moved = omega arith

taken_next : (k : ℕ) (ps : List PlanTree) (p : PlanTree) → k < length ps → p ≡ get_or ps k p → take (k + 1) ps ≡ take k ps ++ p ∷ []
taken_next zero [] p h e = let z : ⊥ = omega (arith, h) in absurd z
taken_next zero (q ∷ ps) p h e = ap (λ x. x ∷ []) (sym e)
taken_next (suc k) [] p h e = let z : ⊥ = omega (arith, h) in absurd z
taken_next (suc k) (q ∷ ps) p h e = ap (λ n. take n (q ∷ ps)) moved ∙ ap (λ xs. q ∷ xs) (taken_next k ps p (omega (arith, h)) e)
  where
    moved : suc k + 1 ≡ suc (k + 1)
    moved = omega arith

one_more : (ps : List PlanTree) (p : PlanTree) (here : Came) (is : List ℕ) (cs : List ArrayData) (c : ArrayData) → AreColumns (plans ps) here is cs → AreValues p here is c → AreColumns (plans (ps ++ p ∷ [])) here is (cs ++ c ∷ [])
one_more [] p here is [] c h v = (v, tt)
one_more [] p here is (d ∷ cs) c h v = absurd h
one_more (q ∷ ps) p here is [] c h v = absurd h
one_more (q ∷ ps) p here is (d ∷ cs) c h v = (h.0, one_more ps p here is cs c h.1 v)

pub record Filled (k : ℕ) (ps : List PlanTree) (here : Came) (is : List ℕ) (cs : List ArrayData) : Type 0 where
  pub columns : AreColumns (plans (take k ps)) here is cs
  pub complete : Complete (all_wanted (plans ps) here is) here → Complete (all_wanted (plans (drop k ps)) here is) here
  pub failing : (id : ℕ) → any_spoiled (plans (drop k ps)) here is id ≡ true → any_spoiled (plans ps) here is id ≡ true
  pub spilling : any_overflow_on (plans (drop k ps)) (arrived here) is ≡ true → any_overflow_on (plans ps) (arrived here) is ≡ true

pub filled_next : (k : ℕ) (ps : List PlanTree) (here : Came) (is : List ℕ) (cs : List ArrayData) (p : PlanTree) (c : ArrayData) → k < length ps → p ≡ get_or ps k p → Filled k ps here is cs → AreValues p here is c → Filled (k + 1) ps here is (cs ++ c ∷ [])
filled_next k ps here is cs p c h e f v = record {
  columns = subst (λ (xs : List PlanTree). AreColumns (plans xs) here is (cs ++ c ∷ [])) (sym (taken_next k ps p h e)) (one_more (take k ps) p here is cs c f.columns v);
  complete = λ w. complete_right (wanted p here is) (all_wanted (plans (drop (k + 1) ps)) here is) here (subst (λ (xs : List PlanTree). Complete (all_wanted (plans xs) here is) here) (plans_next k ps p h e) (f.complete w));
  failing = λ id x. f.failing id (ap (λ (xs : List PlanTree). any_spoiled (plans xs) here is id) (plans_next k ps p h e) ∙ rw x (or_true (spoiled p here is id)));
  spilling = λ x. f.spilling (ap (λ xs. any_overflow_on (plans xs) (arrived here) is) (plans_next k ps p h e) ∙ rw x (or_true (overflow_on p (arrived here) is)));
}

pub filled_fault : {A : Type 0} (items : A → List ArrayData) (k : ℕ) (ps : List PlanTree) (here : Came) (is : List ℕ) (cs : List ArrayData) (p : PlanTree)
    (f : ReadFault) → k < length ps → p ≡ get_or ps k p → Filled k ps here is cs → Reads p here is (Err f) → ReadsAll items (plans ps) here is (Err f)
filled_fault items k ps here is cs p (Corrupt id) h e l r = λ w.
    let own = complete_left (wanted p here is) (all_wanted (plans (drop (k + 1) ps)) here is) here (subst (λ (xs : List PlanTree). Complete (all_wanted (plans xs) here is) here) (plans_next k ps p h e) (l.complete w)) in
    l.failing id (ap (λ (xs : List PlanTree). any_spoiled (plans xs) here is id) (plans_next k ps p h e) ∙ rw (r own) refl)
filled_fault items k ps here is cs p Overflow h e l r = l.spilling (ap (λ xs. any_overflow_on (plans xs) (arrived here) is) (plans_next k ps p h e) ∙ rw r refl)
filled_fault items k ps here is cs p NoMemory h e l r = tt

take_all : (k : ℕ) (ps : List PlanTree) → length ps ≤ k → take k ps ≡ ps
take_all zero [] h = refl
take_all zero (p ∷ ps) h = let z : ⊥ = omega (arith, h) in absurd z
take_all (suc k) [] h = refl
take_all (suc k) (p ∷ ps) h = ap (λ xs. p ∷ xs) (take_all k ps (omega (arith, h)))

pub filled_end : (k : ℕ) (ps : List PlanTree) (here : Came) (is : List ℕ) (cs : List ArrayData) → length ps ≤ k → Filled k ps here is cs → AreColumns (plans ps) here is cs
filled_end k ps here is cs h f = subst (λ (xs : List PlanTree). AreColumns (plans xs) here is cs) (take_all k ps h) f.columns

pub within_at : (k n : ℕ) (ps : List PlanTree) (p : PlanTree) → k < length ps → p ≡ get_or ps k p → AllWithin (plans ps) n → Within p n
within_at zero n [] p h e w = let z : ⊥ = omega (arith, h) in absurd z
within_at zero n (q ∷ ps) p h e w = subst (λ (x : PlanTree). Within x n) (sym e) w.0
within_at (suc k) n [] p h e w = let z : ⊥ = omega (arith, h) in absurd z
within_at (suc k) n (q ∷ ps) p h e w = within_at k n ps p (omega (arith, h)) e w.1

pub drop_past : (k : ℕ) (ps : List PlanTree) → length ps ≤ k → drop k ps ≡ []
drop_past zero [] h = refl
drop_past zero (p ∷ ps) h = let z : ⊥ = omega (arith, h) in absurd z
drop_past (suc k) [] h = refl
drop_past (suc k) (p ∷ ps) h = drop_past k ps (omega (arith, h))

pub count_rows : (k : ℕ) (bits : List Bool) → true_count bits ≡ length (true_rows k bits)
count_rows k [] = refl
count_rows k (true ∷ bits) = let e = count_rows (k + 1) bits in let f = true_count-cons true bits in omega (arith, e, f)
count_rows k (false ∷ bits) = let e = count_rows (k + 1) bits in let f = true_count-cons false bits in omega (arith, e, f)

pub size_at : (k : ℕ) (ps : List PlanTree) (p : PlanTree) → k < length ps → p ≡ get_or ps k p → tree_size p + 1 ≤ trees_size (plans ps)
size_at zero [] p h e = let z : ⊥ = omega (arith, h) in absurd z
size_at zero (q ∷ ps) p h e = let s : tree_size p ≡ tree_size q = ap tree_size e in omega (arith, s)
size_at (suc k) [] p h e = let z : ⊥ = omega (arith, h) in absurd z
size_at (suc k) (q ∷ ps) p h e = let s = size_at k ps p (omega (arith, h)) e in omega (arith, s)
