use Rattle.std.proofs.Common.{◌≡◌, ◌++◌, ◌∷◌, [], map, drop}
use Rattle.scan_core.specs.FieldMasks.{onto, lent_names}
use Rattle.scan_core.proofs.field_masks.add_paths.Given as goal

abbrev pub invariant-loop-end : goal.invariant-loop-end
invariant-loop-end l = l.paths.items ++ map (λ e. onto (lent_names l.names) (e ∷ [])) (drop l.end-index l.chosen) ≡ l.initial.paths.items ++ map (λ e. onto (lent_names l.names) (e ∷ [])) l.chosen
