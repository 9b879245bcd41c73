use Rattle.std.proofs.Common.{[], ◌∷◌, ◌++◌, ◌≡◌, ◌≤◌, ap, sym, subst, ◌∙◌}
use Rattle.std.specs.List.{All}
use Rattle.scan_values.specs.DataType.{depth_of}
use Rattle.scan_values.specs.declared.ptype.Nullability.TheVariants.{NonNullable}
use Rattle.scan_expr.specs.Expr.{pack}
use Rattle.scan_expr.specs.Infer.{infer}
use Rattle.scan_expr.specs.Bound.{Bound, bound_of}
use Rattle.scan_partition.specs.Rewritings.{rules_of}
use Rattle.scan_partition.proofs.Loops.{map_done, map_step, scopes_of, if_ok}
use Rattle.scan_partition.proofs.Numbered.{decimals_step, lent_again, numbered_made, numbered_fit_at, even_made}
use Rattle.scan_partition.proofs.parts.numbered_parts.Goals as goal

pub rewritten-requires : goal.rewritten-requires
rewritten-requires c = numbered_fit_at c.args.scope.now.value (rules_of c.args.what c.args.scope.now.value) c.args.parts.now c.loop-number.number c.index-parts-number.result c.loop-number-test.true c.index-parts-number.is c.requires

pub loop-number-preserved : goal.loop-number-preserved
loop-number-preserved c =
    let r = rules_of c.args.what c.args.scope.now.value in
    let s = c.args.scope.now.value in
    record {
      names = c.in_ok-push.ensures.items ∙ (λ i. c.loop-number.invariant.names i ++ c.in_ok-name.ensures i ∷ []) ∙ decimals_step c.args.parts.now c.loop-number.number c.loop-number-test.true;
      made = c.in_ok-push-2.ensures.items ∙ (λ i. c.loop-number.invariant.made i ++ c.in_ok-again.ensures i ∷ []) ∙ map_step (lent_again r s) c.args.parts.now c.loop-number.number c.index-parts-number.result c.loop-number-test.true c.index-parts-number.is;
    }

pub pack-requires-clause-even : goal.pack-requires-clause-even
pack-requires-clause-even c = even_made (rules_of c.args.what c.args.scope.now.value) c.args.scope.now.value c.args.parts.now _ _ c.loop-number.number c.loop-number-test.false (c.new.ensures ∙ c.loop-number.invariant.names) c.loop-number.invariant.made

pub pack-requires-clause-scopes : goal.pack-requires-clause-scopes
pack-requires-clause-scopes c =
    let r = rules_of c.args.what c.args.scope.now.value in
    let s = c.args.scope.now.value in
    subst (All (λ (b : Bound). b.scope ≡ s)) (sym (map_done (lent_again r s) c.args.parts.now c.loop-number.made.items c.loop-number.number c.loop-number-test.false c.loop-number.invariant.made)) (scopes_of s _ c.args.parts.now)

pub pack-requires-clause-shallow : goal.pack-requires-clause-shallow
pack-requires-clause-shallow c =
    let r = rules_of c.args.what c.args.scope.now.value in
    let s = c.args.scope.now.value in
    subst (λ ps. depth_of (infer s (pack ps NonNullable)) ≤ 66) (sym (numbered_made r s c.args.parts.now _ c.loop-number.made.items c.loop-number.number c.loop-number-test.false (c.new.ensures ∙ c.loop-number.invariant.names) c.loop-number.invariant.made)) c.requires.0

pub returns : goal.returns
returns c =
    let r = rules_of c.args.what c.args.scope.now.value in
    let s = c.args.scope.now.value in
    if_ok _ _ c.pack.result (λ b h. h ∙ ap (λ ps. bound_of s (pack ps NonNullable)) (numbered_made r s c.args.parts.now _ c.loop-number.made.items c.loop-number.number c.loop-number-test.false (c.new.ensures ∙ c.loop-number.invariant.names) c.loop-number.invariant.made)) c.pack.ensures
