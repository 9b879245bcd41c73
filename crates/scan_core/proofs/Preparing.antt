-- The scan that a builder sets up.
use Rattle.std.proofs.Common.{◌≡◌, ◌<◌, ◌==◌, ℕ, zero, suc, Bool, true, false, List, [], ◌∷◌, Option, None, Result, Ok, Err, IfOk, ◌∙◌, ap, sym, subst, arith}
use Rattle.std.specs.declared.ops.Range.{Range}
use Rattle.scan_values.specs.Fits.{is_bool_type}
use Rattle.scan_values.specs.StrictSorted.{is_rising}
use Rattle.scan_values.specs.declared.selection.Selection.{Selection}
use Rattle.scan_expr.specs.Bound.{Bound}
use Rattle.scan_expr.specs.Infer.{infer}
use Rattle.scan_plans.specs.PlanData.{PlanData, EachPlan}
use Rattle.scan_readers.specs.PlanOf.{IsPlanOf}
use Rattle.scan_readers.specs.Readers.{ReaderState}
use Rattle.scan_readers.specs.RowIdxData.{numbered_state}
use Rattle.scan_core.specs.RowRanges.{is_past, UpTo}
use Rattle.scan_core.specs.ScanData.{ScanData, IsScan, IsTyped, scan_data, splits_of}
use Rattle.scan_core.specs.SplitData.{SplitData}
use Rattle.scan_streams.specs.Plans.{PlansData, IsConjunct, ReachTo}
use Rattle.scan_core.specs.SplitMeaning.{ArePlansOf, IsScanOf}

conjuncts_reach : (s : ReaderState) (cs : List Bound) (ps : List PlanData) → ArePlansOf s cs ps → EachPlan (IsConjunct s.rows) ps
conjuncts_reach s [] [] h = tt
conjuncts_reach s [] (p ∷ ps) h = absurd h
conjuncts_reach s (c ∷ cs) [] h = absurd h
conjuncts_reach s (c ∷ cs) (p ∷ ps) h =
    let plan = (h.0).0 in
    ((plan.rows, ap is_bool_type plan.dtype ∙ (h.0).1), conjuncts_reach s cs ps h.1)

pub plans_reach : (s : ReaderState) (cs : List Bound) (e : Bound) (p : PlansData) → IsScanOf s cs e p → ReachTo s.rows p
plans_reach s cs e p h = record { conjuncts = conjuncts_reach s cs p.conjuncts h.conjuncts; projection = (h.projection).rows }

-- a plan of an expression is typed
plan_typed : (s : ReaderState) (e : Bound) (p : PlanData) → IsPlanOf s e p → IsTyped p
plan_typed s e p h = h.dtype ∙ ap (λ (b : Bound). infer b.scope b.expr) (sym h.expr)

some_at_once : (c : ℕ) → (c == 0) ≡ false → 0 < c
some_at_once zero h = cc
some_at_once (suc c) h = omega arith

pub scan_is : {M : Type 0} (s : ReaderState) (offset : ℕ) (cs : List Bound) (e : Bound) (p : PlansData) (n : ℕ) (bs : List ℕ) (r : Option (Range ℕ)) (sel : Selection) (l : Option ℕ) (o : Bool) (c : ℕ) (m : M)
    → n ≡ s.rows → IsScanOf (numbered_state offset s) cs e p → is_rising bs ≡ true → UpTo s.rows bs → is_past r s.rows ≡ false → (c == 0) ≡ false
    → IsScan (scan_data p n bs r sel l o c m)
scan_is {M} s offset cs e p n bs r sel l o c m k h up within range busy =
    let whole : IsScan (scan_data p s.rows bs r sel l o c m) = record {
      plans = plans_reach (numbered_state offset s) cs e p h;
      typed = plan_typed (numbered_state offset s) e p.projection h.projection;
      rising = up;
      within = within;
      range = range;
      busy = some_at_once c busy;
    } in
    let P : ℕ → Type 0 = λ z. IsScan (scan_data p z bs r sel l o c m) in
    subst P (sym k) whole

pub built_ok : {M V E : Type 0} (P : ScanData M → Type 0) (s : ScanData M) (items : V → List (SplitData M)) (r : Result V E) → P s → IfOk r (λ v. items v ≡ splits_of s None) → IfOk r (λ v. (z : ScanData M) × (P z × (items v ≡ splits_of z None)))
built_ok P s items (Ok v) h e = (s, (h, e))
built_ok P s items (Err f) h e = tt
