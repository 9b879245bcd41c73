use Rattle.std.proofs.Common.{◌≡◌, true, refl, sym, ◌∙◌}
use Rattle.scan_values.specs.DataType.{Fields, struct_type}
use Rattle.scan_values.specs.declared.ptype.Nullability.{Nullability}
use Rattle.scan_values.specs.Paths.{Path}
use Rattle.scan_expr.specs.Expr.{Expr}
use Rattle.scan_expr.specs.Needs.{whole, needs}
use Rattle.scan_partition.specs.Expand.{expand}
use Rattle.scan_partition.specs.Rows.{Distinct}
use Rattle.scan_partition.proofs.Tested.{needs_told, needs_tests}
use Rattle.scan_partition.proofs.Needed.{expand_needs}
use Rattle.scan_partition.proofs.NoUses.{named_is}
use Rattle.scan_partition.proofs.laws.expansion_needs_no_more.Goals as goal

no_more : (fs : Fields) (n : Nullability) (e : Expr) → Distinct fs → (p : Path) → needs (struct_type fs n) (expand (struct_type fs n) e) whole p ≡ true → needs (struct_type fs n) e whole p ≡ true
no_more fs n e d p h = needs_tests (struct_type fs n) e whole p (expand_needs fs n d e whole p (λ _. refl) (needs_told (struct_type fs n) (expand (struct_type fs n) e) whole p h))

pub returns : goal.returns
returns c = λ fs n e d p. (no_more fs n e d p, λ h. named_is fs n e p ∙ no_more fs n e d p (sym (named_is fs n (expand (struct_type fs n) e) p) ∙ h))
