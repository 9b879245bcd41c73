-- A file that is opened has the groups that its opener tells.
use Rattle.std.proofs.Common.{◌≡◌, ℕ, List, [], ◌∷◌, ◌++◌, map, Option, Some, None, IfSome, refl, sym, ap, ◌∙◌, subst}
use Rattle.std.specs.Prelude.{IsSome, All}
use Rattle.std.specs.List.{flat_map}
use Rattle.scan_segments.specs.Source.{Store}
use Rattle.scan_splits.specs.Arrivals.{Arrivals}
use Rattle.scan_drive.specs.Files.{Part, grouped, over, part_in}
use Rattle.scan_drive.specs.Openers.{AreSplits, PhaseKeeps}
use Rattle.scan_drive.specs.Runs.{new_run}
use Rattle.scan_drive.specs.Slots.{RunOk}
use Rattle.scan_drive.specs.Splits.{SplitState, Event}
use Rattle.scan_drive.specs.declared.phase.Phase.TheVariants as phase
use Rattle.std.specs.declared.collections.VecDeque.{VecDeque}
use Rattle.std.proofs.Common.{Global}

module _ {W I : Type 0} (split : W → SplitState I) (comes : W → Arrivals → Store → Event → Type 0) where
  grouped_rows : (place : ℕ) (store : Store) (ws : List W) → flat_map (λ w. grouped place ((split w).rows store)) ws ≡ flat_map (grouped place) (map (λ w. (split w).rows store) ws)
  grouped_rows place store [] = refl
  grouped_rows place store (w ∷ ws) = ap (λ gs. grouped place ((split w).rows store) ++ gs) (grouped_rows place store ws)

  splits_left : (place rows : ℕ) (o : Option (Part I)) (s : Option Store) (ws : List W) → IsSome o → IsSome s → IfSome o (λ p. AreSplits split comes p rows ws) → flat_map (λ w. over s (λ store. grouped place ((split w).rows store))) ws ≡ part_in place o s
  splits_left place rows None s ws a b h = absurd cc
  splits_left place rows (Some p) None ws a b h = absurd cc
  splits_left place rows (Some p) (Some store) ws a b h = grouped_rows place store ws ∙ ap (flat_map (grouped place)) (h.splits store)

  split_ok : (rows : ℕ) (o : Option (Part I)) (s : Option Store) (ws : List W) → IfSome o (λ p. AreSplits split comes p rows ws) → All (λ w. IfSome o (λ p. IfSome s (λ store. RunOk split comes p store (new_run w)))) ws
  split_ok rows None s ws h k d l = tt
  split_ok rows (Some p) None ws h k d l = tt
  split_ok rows (Some p) (Some store) ws h k d l = h.ok store k d l

  count_ok : (rows : ℕ) (o : Option (Part I)) (ws : List W) → IfSome o (λ p. AreSplits split comes p rows ws) → IfSome o (λ p. rows ≡ p.row_count)
  count_ok rows None ws h = tt
  count_ok rows (Some p) ws h = h.count

  pub opened_keeps : {F : Type 0} (gives : Option (Part I)) (rows : ℕ) (ws : VecDeque W Global) → IfSome gives (λ p. AreSplits split comes p rows ws.items) → PhaseKeeps {F = F} split comes gives phase.Unopened (phase.Queued ws rows)
  opened_keeps gives rows ws h = record {
    left = λ place t e tells. splits_left place rows t.part t.store ws.items tells.0 tells.1 (subst (λ (o : Option (Part I)). IfSome o (λ p. AreSplits split comes p rows ws.items)) (sym e) h);
    ok = λ t e old. (let k : IfSome t.part (λ p. AreSplits split comes p rows ws.items) = subst (λ (o : Option (Part I)). IfSome o (λ p. AreSplits split comes p rows ws.items)) (sym e) h in
        (split_ok rows t.part t.store ws.items k, count_ok rows t.part ws.items k));
  }
