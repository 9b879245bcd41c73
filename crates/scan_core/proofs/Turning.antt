-- Plans of the conjuncts of a filter.
use Rattle.std.proofs.Common.{◌≡◌, ℕ, zero, suc, ◌+◌, ◌<◌, ◌≤◌, Bool, true, false, not, List, [], ◌∷◌, ◌++◌, length, drop, filter, get_or, append_assoc, Result, Ok, Err, IfOk, refl, ap, sym, subst, ◌∙◌, arith}
use Rattle.std.specs.declared.alloc.Global.{Global}
use Rattle.std.specs.declared.sync.Arc.{Arc}
use Rattle.std.proofs.lemmas.List.{append-nil}
use Rattle.scan_expr.specs.Bound.{Bound}
use Rattle.scan_plans.specs.PlanData.{PlanData, plans_of}
use Rattle.scan_plans.specs.Pruning.{is_numbered}
use Rattle.scan_plans.proofs.OffsetChecks.{next_item}
use Rattle.scan_readers.specs.PlanOf.{IsPlanOf}
use Rattle.scan_readers.specs.Readers.{ReaderState, numbers_alone}
use Rattle.scan_readers.specs.RowIdxData.{numbered_state}
use Rattle.scan_core.specs.BuilderData.{AreFilters}
use Rattle.scan_core.specs.Prepared.{numbered_first}
use Rattle.scan_core.specs.SplitMeaning.{ArePlansOf, in_turn}

-- ---- expression by expression
-- the first i expressions have these plans over a reader whose rows are numbered from n on; the reader's state stayed
pub record Walked (n : ℕ) (s t : ReaderState) (es : List Bound) (i : ℕ) (made : List PlanData) : Type 0 where
  pub same : t ≡ s
  pub filters : AreFilters s.dtype (drop i es)
  pub plans : (rest : List PlanData) → ArePlansOf (numbered_state n s) (drop i es) rest → ArePlansOf (numbered_state n s) es (made ++ rest)

-- one more of them
pub walk_step : (n : ℕ) (s t u : ReaderState) (es : List Bound) (i : ℕ) (made : List PlanData) (e : Bound) (p : PlanData)
    → Walked n s t es i made → i < length es → e ≡ get_or es i e → u ≡ t → IsPlanOf (numbered_state n t) e p → Walked n s u es (i + 1) (made ++ p ∷ [])
walk_step n s t u es i made e p w below at same plan =
    let numbered = numbered_state n s in
    let next : drop i es ≡ e ∷ drop (i + 1) es = next_item i es e below at in
    let own : IsPlanOf numbered e p = subst (λ (z : ReaderState). IsPlanOf (numbered_state n z) e p) w.same plan in
    let filters : AreFilters s.dtype (e ∷ drop (i + 1) es) = subst (λ (xs : List Bound). AreFilters s.dtype xs) next w.filters in
    record {
      same = same ∙ w.same;
      filters = filters.1;
      plans = λ rest h. subst (λ (ps : List PlanData). ArePlansOf numbered es ps) (sym (append_assoc made (p ∷ []) rest))
          (w.plans (p ∷ rest) (subst (λ (xs : List Bound). ArePlansOf numbered xs (p ∷ rest)) (sym next) ((own, (filters.0).bool), h)));
    }

pub pushed_plan : (made : List (Arc PlanData Global)) (a : Arc PlanData Global) → plans_of (made ++ a ∷ []) ≡ plans_of made ++ a.value ∷ []
pushed_plan [] a = refl
pushed_plan (x ∷ made) a = ap (λ (ps : List PlanData). x.value ∷ ps) (pushed_plan made a)

dropped_all : (es : List Bound) (i : ℕ) → length es ≤ i → drop i es ≡ []
dropped_all [] zero l = refl
dropped_all [] (suc i) l = refl
dropped_all (e ∷ es) zero l = absurd (omega arith)
dropped_all (e ∷ es) (suc i) l = dropped_all es i (omega arith)

pub walk_end : (n : ℕ) (s t : ReaderState) (es : List Bound) (i : ℕ) (made : List PlanData) → Walked n s t es i made → length es ≤ i → ArePlansOf (numbered_state n s) es made
walk_end n s t es i made w l =
    let numbered = numbered_state n s in
    let none : ArePlansOf numbered (drop i es) [] = subst (λ (xs : List Bound). ArePlansOf numbered xs []) (sym (dropped_all es i l)) tt in
    subst (λ (ps : List PlanData). ArePlansOf numbered es ps) (append-nil made) (w.plans [] none)

-- ---- in turn
plans_append : (s : ReaderState) (es fs : List Bound) (ps qs : List PlanData) → ArePlansOf s es ps → ArePlansOf s fs qs → ArePlansOf s (es ++ fs) (ps ++ qs)
plans_append s [] fs [] qs p q = q
plans_append s [] fs (r ∷ ps) qs p q = absurd p
plans_append s (e ∷ es) fs [] qs p q = absurd p
plans_append s (e ∷ es) fs (r ∷ ps) qs p q = (p.0, plans_append s es fs ps qs p.1 q)

-- the plans of those expressions for which it matters whether they read row numbers alone
plans_kept : (f : Bool → Bool) (s : ReaderState) (es : List Bound) (ps : List PlanData) → ArePlansOf s es ps → ArePlansOf s (filter (λ (e : Bound). f (numbers_alone s e.expr)) es) (filter (λ (p : PlanData). f (is_numbered p.tree)) ps)
plans_kept f s [] [] h = tt
plans_kept f s [] (p ∷ ps) h = absurd h
plans_kept f s (e ∷ es) [] h = absurd h
plans_kept f s (e ∷ es) (p ∷ ps) h = go (f (numbers_alone s e.expr)) refl (plans_kept f s es ps h.1)
  where
    go : (b : Bool) → f (numbers_alone s e.expr) ≡ b
        → ArePlansOf s (filter (λ (x : Bound). f (numbers_alone s x.expr)) es) (filter (λ (q : PlanData). f (is_numbered q.tree)) ps)
        → ArePlansOf s (filter (λ (x : Bound). f (numbers_alone s x.expr)) (e ∷ es)) (filter (λ (q : PlanData). f (is_numbered q.tree)) (p ∷ ps))
    go true k rest = let same : f (is_numbered p.tree) ≡ true = ap f ((h.0).0).numbered ∙ k in rw (k, same) (h.0, rest)
    go false k rest = let same : f (is_numbered p.tree) ≡ false = ap f ((h.0).0).numbered ∙ k in rw (k, same) rest

pub plans_in_turn : (s : ReaderState) (es : List Bound) (ps : List PlanData) → ArePlansOf s es ps → ArePlansOf s (in_turn s es) (numbered_first ps)
plans_in_turn s es ps h =
    let first = filter (λ (e : Bound). numbers_alone s e.expr) es in
    let others = filter (λ (e : Bound). not (numbers_alone s e.expr)) es in
    let plans = filter (λ (p : PlanData). is_numbered p.tree) ps in
    let rest = filter (λ (p : PlanData). not (is_numbered p.tree)) ps in
    plans_append s first others plans rest (plans_kept (λ b. b) s es ps h) (plans_kept not s es ps h)

pub turned_ok : {V E : Type 0} (items : V → List (Arc PlanData Global)) (s : ReaderState) (es : List Bound) (ps : List PlanData) (r : Result V E) → ArePlansOf s es ps → IfOk r (λ v. plans_of (items v) ≡ numbered_first ps) → IfOk r (λ v. ArePlansOf s (in_turn s es) (plans_of (items v)))
turned_ok items s es ps (Ok v) h e = subst (λ (qs : List PlanData). ArePlansOf s (in_turn s es) qs) (sym e) (plans_in_turn s es ps h)
turned_ok items s es ps (Err f) h e = tt

-- ---- the end of a walk over plans
pub none_left : (left : List (Arc PlanData Global)) (n : ℕ) → n ≡ length left → n ≡ 0 → left ≡ []
none_left [] n e z = refl
none_left (r ∷ left) n e z = absurd (omega (arith, e, z))

pub all_kept : (p : PlanData → Bool) (made whole : List PlanData) (left : List (Arc PlanData Global)) → left ≡ [] → made ++ filter p (plans_of left) ≡ whole → made ≡ whole
all_kept p made whole left e h = sym (append-nil made) ∙ ap (λ (rs : List (Arc PlanData Global)). made ++ filter p (plans_of rs)) (sym e) ∙ h

pub joined_ok : {V E : Type 0} (items : V → List (Arc PlanData Global)) (r : Result V E) (a b xs ys : List PlanData) → a ≡ xs → b ≡ ys → IfOk r (λ v. plans_of (items v) ≡ a ++ b) → IfOk r (λ v. plans_of (items v) ≡ xs ++ ys)
joined_ok items (Ok v) a b xs ys f g h = h ∙ ap (λ zs. zs ++ b) f ∙ ap (λ zs. xs ++ zs) g
joined_ok items (Err e) a b xs ys f g h = tt
