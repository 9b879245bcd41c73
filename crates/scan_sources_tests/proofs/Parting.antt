-- Splits of six rows are splits that a stream may take.
use Rattle.std.proofs.Common.{◌≡◌, ℕ, ◌+◌, ◌-◌, ◌≤◌, List, [], length, map, refl, sym, ap, ◌∙◌, subst, arith}
use Rattle.std.proofs.lemmas.List.FromFn.{length-map-range_with_len}
use Rattle.scan_values.specs.Selections.{selects}
use Rattle.scan_values.specs.declared.selection.Selection.{Selection}
use Rattle.scan_plans.specs.Meaning.{Within, plan_dtype}
use Rattle.scan_plans.specs.PlanData.{PlanData, EachPlan}
use Rattle.scan_streams.specs.Plans.{PlansData, plans_data, IsConjunct, ReachTo}
use Rattle.scan_streams.specs.Queues.{AreWithin, queued, picked_mask}
use Rattle.scan_streams.specs.Splits.{AllOf, new_split, reach}
use Rattle.scan_sources_tests.specs.SixRows.{int, part, parts, AreOfSix}

reach_to : (p : PlansData) (n : ℕ) → AreOfSix p → n ≤ 6 → ReachTo n p
reach_to p n h le = record { conjuncts = subst (λ (ps : List PlanData). EachPlan (IsConjunct n) ps) (sym h.none) tt; projection = h.rows n le }

pub parts_within : (p : PlansData) (a b : ℕ) → AreOfSix p → a ≤ b → b ≤ 6 → AreWithin p (parts a b)
parts_within p a b h le six =
    let first : a ≤ 6 = omega arith in
    let zero : 0 ≤ a = omega arith in
    (((zero, reach_to p a h first)), ((le, reach_to p b h six), ((six, reach_to p 6 h (omega arith)), tt)))

pub parts_dtype : (p : PlansData) (s : Selection) (a b : ℕ) → AreOfSix p → AllOf int (map new_split (queued p s (parts a b)))
parts_dtype p s a b h = (h.dtype, (h.dtype, (h.dtype, tt)))

rows_of : (s : Selection) (a b : ℕ) → length (picked_mask s (part a b)) ≡ b - a
rows_of s a b = length-map-range_with_len (selects s) a (b - a)

pub parts_reach : (p : PlansData) (s : Selection) (a b : ℕ) → a ≤ b → b ≤ 6 → reach (map new_split (queued p s (parts a b))) ≤ 6
parts_reach p s a b le six =
    let first = rows_of s 0 a in
    let second = rows_of s a b in
    let third = rows_of s b 6 in
    omega arith

-- plans without a filter
pub of_six : (p : PlansData) (cs : List PlanData) (q : PlanData) → p ≡ plans_data cs q → cs ≡ [] → plan_dtype q.tree ≡ int → ((n : ℕ) → n ≤ 6 → Within q.tree n) → AreOfSix p
of_six p cs q e none d r = subst (λ (x : PlansData). AreOfSix x) (sym e) (record { none = none; dtype = d; rows = r })
