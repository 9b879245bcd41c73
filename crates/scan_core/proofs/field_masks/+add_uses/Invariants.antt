use Rattle.std.proofs.Common.{◌≡◌, ◌++◌, drop}
use Rattle.std.specs.List.{flat_map}
use Rattle.scan_expr.specs.Expr.{expr_size}
use Rattle.scan_core.specs.FieldMasks.{used_paths}
use Rattle.scan_core.proofs.field_masks.+add_uses.Given as goal

abbrev pub decreases-add_uses : goal.decreases-add_uses
decreases-add_uses l = expr_size l.expr.now.expr

abbrev pub invariant-loop-part : goal.invariant-loop-part
invariant-loop-part l = l.paths.items ++ flat_map used_paths (drop l.part-index l.parts) ≡ l.initial.paths.items ++ flat_map used_paths l.parts
