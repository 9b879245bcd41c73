-- Nodes and segments, one after another.
use Rattle.std.proofs.Common.{◌≡◌, ℕ, zero, suc, ◌+◌, ◌<◌, ◌≤◌, ◌==◌, List, [], ◌∷◌, ◌++◌, length, get_or, drop, false, sym, ap, ◌∙◌, subst, arith}
use Rattle.std.proofs.lemmas.Bool.{ne_eqb}
use Rattle.std.proofs.lemmas.List.{drop_more}
use Rattle.scan_values.specs.Shown.{comma}
use Rattle.scan_layout.specs.Shown.{shown_segment, shown_segments}
use Rattle.scan_plans.specs.PlanTree.{PlanTree, plans, tree_size, trees_size}
use Rattle.scan_plans.specs.Shown.{shown_below, shown_trees}

not_zero : (i : ℕ) → ((i + 1) == 0) ≡ false
not_zero i = ne_eqb (i + 1) 0 (omega arith)

-- a segment, and what is left behind it
pub next_run : (gs : List (ℕ × ℕ)) (i a n : ℕ) → i < length gs → a ≡ (get_or gs i (0, 0)).0 → n ≡ (get_or gs i (0, 0)).1
    → shown_segments (i == 0) (drop i gs) ≡ (comma (i == 0) ++ shown_segment (a, n)) ++ shown_segments ((i + 1) == 0) (drop (i + 1) gs)
next_run gs i a n h at rows =
    ap (λ xs. shown_segments (i == 0) xs) (drop_more gs i (0, 0) h)
    ∙ ap (λ b. (comma (i == 0) ++ shown_segment (get_or gs i (0, 0))) ++ shown_segments b (drop (i + 1) gs)) (sym (not_zero i))
    ∙ ap (λ m. (comma (i == 0) ++ shown_segment (m, (get_or gs i (0, 0)).1)) ++ shown_segments ((i + 1) == 0) (drop (i + 1) gs)) (sym at)
    ∙ ap (λ m. (comma (i == 0) ++ shown_segment (a, m)) ++ shown_segments ((i + 1) == 0) (drop (i + 1) gs)) (sym rows)

size_at : (ps : List PlanTree) (i : ℕ) (d : PlanTree) → i < length ps → tree_size (get_or ps i d) + 1 ≤ trees_size (plans ps)
size_at [] i d h = absurd (omega arith)
size_at (p ∷ ps) zero d h = omega arith
size_at (p ∷ ps) (suc i) d h = let e = size_at ps i d (omega arith) in omega (arith, e)

-- a node is smaller than all, and what is left behind it
pub next_plan : (d : ℕ) (ps : List PlanTree) (i : ℕ) (p : PlanTree) → i < length ps → p ≡ get_or ps i p
    → (tree_size p + 1 ≤ trees_size (plans ps)) × (shown_trees d (plans (drop i ps)) ≡ shown_below d p ++ shown_trees d (plans (drop (i + 1) ps)))
next_plan d ps i p h at = (
  subst (λ (x : PlanTree). tree_size x + 1 ≤ trees_size (plans ps)) (sym at) (size_at ps i p h),
  ap (λ xs. shown_trees d (plans xs)) (drop_more ps i p h ∙ ap (λ x. x ∷ drop (i + 1) ps) (sym at)),
)
