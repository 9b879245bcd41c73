-- The plans of parts, made one after another, and what a reader that numbers rows keeps of them.
use Rattle.std.proofs.Common.{◌≡◌, ℕ, zero, suc, ◌+◌, ◌<◌, ◌≤◌, true, false, List, [], ◌∷◌, ◌++◌, drop, length, get_or, Some, Result, Ok, Err, refl, ap, sym, subst, ◌∙◌, arith, add-one, append_assoc, drop-cons}
use Rattle.std.specs.Prelude.{IfOk}
use Rattle.std.specs.List.{slice_get}
use Rattle.std.proofs.lemmas.List.{append-nil}
use Rattle.std.specs.declared.alloc.Global.{Global}
use Rattle.std.specs.declared.sync.Arc.{Arc}
use Rattle.scan_values.specs.DataType.{DataType}
use Rattle.scan_expr.specs.Bound.{Bound}
use Rattle.scan_expr.specs.Expr.{uses_row_index}
use Rattle.scan_partition.specs.declared.row_idx.Partition.{Partition}
use Rattle.scan_partition.specs.declared.row_idx.Partition.TheVariants.{Child as TheChild}
use Rattle.scan_partition.specs.Partable.{IsPartable, ArePartable}
use Rattle.scan_partition.specs.RowSplit.{IsPartOver, PartsOver, read_type}
use Rattle.scan_plans.specs.PlanData.{PlanData}
use Rattle.scan_plans.specs.PlanTree.{PlanTree}
use Rattle.scan_readers.specs.Kept.{Kept, Stay, find_plan}
use Rattle.scan_readers.specs.PlanOf.{IsPlanOf}
use Rattle.scan_readers.specs.Readers.{ReaderState}
use Rattle.scan_readers.specs.RowIdxData.{numbered_state, kept_by_numbers}
use Rattle.scan_readers.specs.RowParts.{IsPartPlan, ArePartPlans}
use Rattle.scan_readers.proofs.RowPlans.{child_part, unnumbered_plan, kept_here}

-- ---- what is made of one part

pub child_made : {E : Type 0} (s : ReaderState) (number : ℕ) (p : Bound) (q : PlanData) (r : Result PlanTree E) → IsPlanOf s p q → uses_row_index p.expr ≡ false → IfOk r (λ x. x ≡ q.tree) → IfOk r (λ x. IsPartPlan s number TheChild p x)
child_made s number p q (Ok x) is free made = subst (λ (y : PlanTree). IsPartPlan s number TheChild p y) (sym made) (child_part s number p q is free)
child_made s number p q (Err f) is free made = tt

-- ---- the parts at a place
past : {A : Type 0} (k : ℕ) (xs : List A) → length xs ≤ k → drop k xs ≡ []
past zero [] h = refl
past zero (x ∷ xs) h = absurd (omega (arith, h))
past (suc k) [] h = refl
past (suc k) (x ∷ xs) h = past k xs (omega (arith, h))

at_place : {A : Type 0} (xs : List A) (k : ℕ) (x : A) → Some x ≡ slice_get xs k → (k < length xs) × (x ≡ get_or xs k x)
at_place [] k x h = absurd cc
at_place (y ∷ xs) zero x h = (omega arith, cc)
at_place (y ∷ xs) (suc k) x h = let l = at_place xs k x h in (omega (arith, l.0), l.1)

pub own_place : {A : Type 0} (xs : List A) (k : ℕ) (z : A) → k < length xs → get_or xs k z ≡ get_or xs k (get_or xs k z)
own_place [] k z h = absurd (omega (arith, h))
own_place (x ∷ xs) zero z h = refl
own_place (x ∷ xs) (suc k) z h = own_place xs k z (omega (arith, h))

pub over_at : (d : DataType) (is : List Partition) (ps : List Bound) (k : ℕ) (z : Partition) (p : Bound) → PartsOver d is ps → k < length is → Some p ≡ slice_get ps k → IsPartOver (read_type d (get_or is k z)) p
over_at d [] ps k z p o h f = absurd (omega (arith, h))
over_at d (j ∷ is) [] k z p o h f = absurd o
over_at d (j ∷ is) (q ∷ ps) zero z p o h f = let same : q ≡ p = cc in subst (λ (x : Bound). IsPartOver (read_type d j) x) same o.0
over_at d (j ∷ is) (q ∷ ps) (suc k) z p o h f = over_at d is ps k z p o.1 (omega (arith, h)) f

pub partable_at : (ps : List Bound) (k : ℕ) (p : Bound) → ArePartable ps → Some p ≡ slice_get ps k → IsPartable p
partable_at [] k p a f = absurd cc
partable_at (q ∷ ps) zero p a f = let same : q ≡ p = cc in subst IsPartable same a.0
partable_at (q ∷ ps) (suc k) p a f = partable_at ps k p a.1 f

-- ---- one after another: plans of the parts before a place, the same reader, with what it kept
pub record Walked (s t : ReaderState) (old new : Kept) (number : ℕ) (is : List Partition) (ps : List Bound) (k : ℕ) (ns : List PlanTree) : Type 0 where
  pub same : t ≡ s
  pub stay : Stay old new
  pub plans : (rest : List PlanTree) → ArePartPlans s number (drop k is) (drop k ps) rest → ArePartPlans s number is ps (ns ++ rest)

pub stays_after : (a b c : Kept) → Stay a b → Stay b c → Stay a c
stays_after a b c x y = record { stay = λ e p h. y.stay e p (x.stay e p h) }

pub walked_next : (s t u : ReaderState) (old mid new : Kept) (number : ℕ) (is : List Partition) (ps : List Bound) (k : ℕ) (ns : List PlanTree) (i : Partition) (p : Bound) (n : PlanTree)
    → Walked s t old mid number is ps k ns → k < length is → i ≡ get_or is k i → Some p ≡ slice_get ps k → u ≡ t → Stay mid new → IsPartPlan t number i p n → Walked s u old new number is ps (k + 1) (ns ++ n ∷ [])
walked_next s t u old mid new number is ps k ns i p n w h e f same stay made = record {
  same = same ∙ w.same;
  stay = stays_after old mid new w.stay stay;
  plans = λ rest a. subst (λ (xs : List PlanTree). ArePartPlans s number is ps xs) (sym (append_assoc ns (n ∷ []) rest)) (w.plans (n ∷ rest) (more rest a));
}
  where
    own : IsPartPlan s number i p n
    own = subst (λ (x : ReaderState). IsPartPlan x number i p n) w.same made

    items_next : drop k is ≡ i ∷ drop (k + 1) is
    items_next = drop-cons is k i h ∙ ap (λ x. x ∷ drop (suc k) is) (sym e) ∙ ap (λ m. i ∷ drop m is) (sym (add-one k))

    parts_next : drop k ps ≡ p ∷ drop (k + 1) ps
    parts_next = let l = at_place ps k p f in drop-cons ps k p l.0 ∙ ap (λ x. x ∷ drop (suc k) ps) (sym l.1) ∙ ap (λ m. p ∷ drop m ps) (sym (add-one k))

    more : (rest : List PlanTree) → ArePartPlans s number (drop (k + 1) is) (drop (k + 1) ps) rest → ArePartPlans s number (drop k is) (drop k ps) (n ∷ rest)
    more rest a = subst (λ (xs : List Partition). ArePartPlans s number xs (drop k ps) (n ∷ rest)) (sym items_next) (subst (λ (qs : List Bound). ArePartPlans s number (i ∷ drop (k + 1) is) qs (n ∷ rest)) (sym parts_next) (own, a))

pub walked_end : (s t : ReaderState) (old new : Kept) (number : ℕ) (is : List Partition) (ps : List Bound) (k : ℕ) (ns : List PlanTree) → Walked s t old new number is ps k ns → length is ≤ k → length ps ≡ length is → ArePartPlans s number is ps ns
walked_end s t old new number is ps k ns w h even =
    subst (λ (xs : List PlanTree). ArePartPlans s number is ps xs) (append-nil ns) (w.plans [] none)
  where
    none : ArePartPlans s number (drop k is) (drop k ps) []
    none = subst (λ (xs : List Partition). ArePartPlans s number xs (drop k ps) []) (sym (past k is h)) (subst (λ (qs : List Bound). ArePartPlans s number [] qs []) (sym (past k ps (omega (arith, h, even)))) tt)

-- ---- what is kept of a plan that is made

-- ---- the answers of plan
pub unnumbered_result : {E : Type 0} (s : ReaderState) (number : ℕ) (e : Bound) (r : Result (Arc PlanData Global) E) → uses_row_index e.expr ≡ false → IfOk r (λ p. IsPlanOf s e p.value) → IfOk r (λ p. IsPlanOf (numbered_state number s) e p.value)
unnumbered_result s number e (Ok p) free is = unnumbered_plan s number e p.value free is
unnumbered_result s number e (Err f) free is = tt

pub kept_result : {E : Type 0} (child : Kept) (plans : List PlanData) (e : Bound) (r : Result (Arc PlanData Global) E) → uses_row_index e.expr ≡ true → IfOk r (λ p. find_plan plans e ≡ Some p.value) → IfOk r (λ p. kept_by_numbers child plans e ≡ Some p.value)
kept_result child plans e (Ok p) uses is = kept_here child plans e uses ∙ is
kept_result child plans e (Err f) uses is = tt
