-- The parts of a pack are smaller than the pack, by the measure of its drop.
use Rattle.std.proofs.Common.{◌+◌, ◌*◌, ◌<◌, ◌≤◌, List, [], ◌∷◌, Vec, Global, arith}
use denote.Param.Weighed.{most, w_this}
use Rattle.scan_values.specs.declared.ptype.Nullability.{Nullability}
use Rattle.scan_values.specs.declared.text.Names.{Names}
use Rattle.scan_expr.specs.Expr.{expr_size}
use Rattle.scan_expr.specs.declared.expression.Node.TheVariants.{Pack}
use Rattle.scan_expr.specs.declared.expression.Expression.{Expression}
use Rattle.scan_expr.specs.declared.expression.Expression.TheDeep.{size-Expression, size-Node}

twice_most : (es : List Expression) → most (w_this.weight Expression size-Expression) es ≤ 2 * most (λ e. expr_size e + 1) es
twice_most [] = omega arith
twice_most (e ∷ es) = omega (arith, twice_most es)

pub parts_of_pack_fall : (ns : Names) (es : Vec Expression Global) (n : Nullability) → most (w_this.weight Expression size-Expression) es.items < size-Node (Pack ns es n)
parts_of_pack_fall ns es n = omega (arith, twice_most es.items)
