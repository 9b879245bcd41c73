use borrow.Author.Rules.{rules}
use Rattle.std.proofs.Common.{refl}
use Rattle.scan_expr.specs.declared.bound.Op.TheVariants.{Pack}
use Rattle.scan_expr.proofs.Placing.{pack_places}
use Rattle.scan_expr.proofs.Faultless.{pack_faultless}
use Rattle.scan_expr.proofs.bound.BoundExpression.over_many.Goals as goal

pub invariant_of-result : goal.invariant_of-result
invariant_of-result c =
    record {
      arity = c.requires.even;
      scopes = c.requires.scopes;
      typed = c.requires.typed;
      faultless = pack_faultless c.args.scope.value c.args.names c.args.children.items c.args.nullability c.requires.scopes c.requires.faultless;
      placed = pack_places c.args.children.items (Pack c.args.names c.args.nullability) _ (search rules) (λ b cs. refl);
    }
