-- Plans that are kept.
use Rattle.std.proofs.Common.{◌≡◌, ℕ, zero, suc, ◌+◌, ◌<◌, ◌≤◌, Bool, true, false, List, [], ◌∷◌, ◌++◌, length, get_or, drop, Option, Some, None, Result, Ok, Err, refl, ap, sym, subst, ◌∙◌, arith, add-one, drop-cons}
use Rattle.std.specs.Prelude.{if◌then◌else◌, IfOk, OnOk, OnErr}
use Rattle.std.specs.declared.alloc.Global.{Global}
use Rattle.std.specs.declared.sync.Arc.{Arc}
use Rattle.scan_expr.specs.Bound.{Bound}
use Rattle.scan_expr.specs.Same.{same_bound, same_bound-Decides}
use Rattle.scan_plans.specs.PlanData.{PlanData, EachPlan, plans_of}
use Rattle.scan_values.specs.declared.memory.NoMemory.{NoMemory}
use Rattle.scan_readers.specs.Kept.{Kept, Stay, find_plan, Makes}
use Rattle.scan_readers.specs.PlanOf.{IsPlanOf}
use Rattle.scan_readers.specs.Readers.{ReaderState}

-- ---- the walk that finds a plan
pub found_here : (rs : List (Arc PlanData Global)) (i : ℕ) (r : Arc PlanData Global) (e : Bound) → i < length rs → r ≡ get_or rs i r → same_bound (r.value).expr e ≡ true → Some r.value ≡ find_plan (plans_of (drop i rs)) e
found_here rs i r e h is s = rw (drop-cons rs i r h, ← is, s) refl

pub found_later : (rs : List (Arc PlanData Global)) (i : ℕ) (r : Arc PlanData Global) (e : Bound) → i < length rs → r ≡ get_or rs i r → same_bound (r.value).expr e ≡ false → find_plan (plans_of (drop i rs)) e ≡ find_plan (plans_of (drop (i + 1) rs)) e
found_later rs i r e h is s = rw (drop-cons rs i r h, ← is, s, add-one) refl

pub found_past : (rs : List (Arc PlanData Global)) (i : ℕ) (e : Bound) → length rs ≤ i → find_plan (plans_of (drop i rs)) e ≡ None
found_past [] zero e h = refl
found_past [] (suc i) e h = refl
found_past (r ∷ rs) zero e h = absurd (omega arith)
found_past (r ∷ rs) (suc i) e h = found_past rs i e (omega arith)

-- ---- a plan more
stays_by : (b : Bool) (r p : PlanData) (x y : Option PlanData) → (x ≡ Some p → y ≡ Some p) → (if b then Some r else x) ≡ Some p → (if b then Some r else y) ≡ Some p
stays_by true r p x y f h = h
stays_by false r p x y f h = f h

pub stays_same : (k : Kept) → Stay k k
stays_same k = record { stay = λ e p h. h }

stays_found : (ps : List PlanData) (q : PlanData) (e : Bound) (p : PlanData) → find_plan ps e ≡ Some p → find_plan (ps ++ q ∷ []) e ≡ Some p
stays_found [] q e p h = absurd (let z : None ≡ Some p = h in cc)
stays_found (r ∷ ps) q e p h = stays_by (same_bound r.expr e) r p (find_plan ps e) (find_plan (ps ++ q ∷ []) e) (stays_found ps q e p) h

last_by : (b : Bool) (r q : PlanData) (x y : Option PlanData) → (x ≡ None → y ≡ Some q) → (if b then Some r else x) ≡ None → (if b then Some r else y) ≡ Some q
last_by true r q x y f h = absurd (let z : Some r ≡ None = h in cc)
last_by false r q x y f h = f h

pub found_last : (ps : List PlanData) (q : PlanData) (e : Bound) → find_plan ps e ≡ None → q.expr ≡ e → find_plan (ps ++ q ∷ []) e ≡ Some q
found_last [] q e h is = rw ((same_bound-Decides q.expr e).1 is) refl
found_last (r ∷ ps) q e h is = last_by (same_bound r.expr e) r q (find_plan ps e) (find_plan (ps ++ q ∷ []) e) (λ n. found_last ps q e n is) h

-- ---- what holds of each
holds_by : (P : PlanData → Type 0) (b : Bool) (q p : PlanData) (e : Bound) (x : Option PlanData) → P q → (b ≡ true → q.expr ≡ e) → (x ≡ Some p → P p × (p.expr ≡ e)) → (if b then Some q else x) ≡ Some p → P p × (p.expr ≡ e)
holds_by P true q p e x h is f s = let same : q ≡ p = cc in subst (λ (z : PlanData). P z × (z.expr ≡ e)) same (h, is refl)
holds_by P false q p e x h is f s = f s

pub found_holds : (P : PlanData → Type 0) (ps : List PlanData) (e : Bound) (p : PlanData) → EachPlan P ps → find_plan ps e ≡ Some p → P p × (p.expr ≡ e)
found_holds P [] e p each h = absurd (let z : None ≡ Some p = h in cc)
found_holds P (q ∷ ps) e p each h = holds_by P (same_bound q.expr e) q p e (find_plan ps e) each.0 (same_bound-Decides q.expr e).0 (found_holds P ps e p each.1) h

pub each_more : (P : PlanData → Type 0) (ps : List PlanData) (q : PlanData) → EachPlan P ps → P q → EachPlan P (ps ++ q ∷ [])
each_more P [] q each h = (h, tt)
each_more P (p ∷ ps) q each h = (each.0, each_more P ps q each.1 h)

-- ---- what a call that makes a plan keeps
pub kept_each : {A E : Type 0} (P : PlanData → Type 0) (old new : List PlanData) (q : PlanData) (r : Result A E) → EachPlan P old → P q → OnOk r (new ≡ old ++ q ∷ []) → OnErr r (new ≡ old) → EachPlan P new
kept_each P old new q (Ok x) each h ok err = subst (EachPlan P) (sym ok) (each_more P old q each h)
kept_each P old new q (Err e) each h ok err = subst (EachPlan P) (sym err) each

pub makes_stay : (old new : List PlanData) (e : Bound) (r : Result (Arc PlanData Global) NoMemory) → Makes old new e r → Stay (find_plan old) (find_plan new)
makes_stay old new e (Ok p) m = subst (λ (ps : List PlanData). Stay (find_plan old) (find_plan ps)) (sym m.1) (record { stay = stays_found old p.value })
makes_stay old new e (Err f) m = subst (λ (ps : List PlanData). Stay (find_plan old) (find_plan ps)) (sym m) (stays_same (find_plan old))

pub makes_kept : (old new : List PlanData) (e : Bound) (r : Result (Arc PlanData Global) NoMemory) → find_plan old e ≡ None → Makes old new e r → IfOk r (λ p. find_plan new e ≡ Some p.value)
makes_kept old new e (Ok p) h m = ap (λ (ps : List PlanData). find_plan ps e) m.1 ∙ found_last old p.value e h m.0
makes_kept old new e (Err f) h m = tt

-- ---- plans of a reader
pub found_plan : (s : ReaderState) (ps : List PlanData) (e : Bound) (p : PlanData) → EachPlan (λ q. IsPlanOf s q.expr q) ps → find_plan ps e ≡ Some p → IsPlanOf s e p
found_plan s ps e p each h =
    let here = found_holds (λ (q : PlanData). IsPlanOf s q.expr q) ps e p each h in
    subst (λ (z : Bound). IsPlanOf s z p) here.1 here.0

pub own_plan : (s : ReaderState) (e : Bound) (p : PlanData) → IsPlanOf s e p → IsPlanOf s p.expr p
own_plan s e p h = subst (λ (z : Bound). IsPlanOf s z p) (sym h.expr) h

pub given_plan : {E : Type 0} (s : ReaderState) (e : Bound) (q : PlanData) (r : Result (Arc PlanData Global) E) → IsPlanOf s e q → IfOk r (λ p. p.value ≡ q) → IfOk r (λ p. IsPlanOf s e p.value)
given_plan s e q (Ok p) h same = subst (λ (z : PlanData). IsPlanOf s e z) (sym same) h
given_plan s e q (Err f) h same = tt
