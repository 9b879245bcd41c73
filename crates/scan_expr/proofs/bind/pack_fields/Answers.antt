use Rattle.std.proofs.Common.{◌≡◌, None, map, take, ap, ◌∙◌, arith, subst}
use Rattle.std.specs.List.{All}
use Rattle.std.proofs.lemmas.Grind.{common_steps}
use Rattle.std.proofs.lemmas.List.Elements.{All-more}
use Rattle.scan_expr.specs.Bound.{Bound}
use Rattle.scan_expr.specs.Typing.{typing_fault}
use Rattle.scan_expr.proofs.Binds.{inferred, fields-zip}
use Rattle.scan_expr.proofs.bind.pack_fields.Goals as goal

pub loop-child-preserved : goal.loop-child-preserved
loop-child-preserved c =
    let bs = c.args.children.now in
    let i = c.loop-child.child-index in
    let b = c.child-item.result in
    record {
      dtypes = grind (arith, common_steps);
      faultless = All-more (λ (b : Bound). typing_fault b.scope b.expr ≡ None) bs i b (omega arith) c.loop-child.invariant.faultless (subst (λ (b : Bound). typing_fault b.scope b.expr ≡ None) c.child-item.is c.dtype.ensures.faultless);
    }

pub returns-clause-fields : goal.returns-clause-fields
returns-clause-fields c = λ s h.
    let d : c.loop-child.dtypes.items ≡ map inferred c.args.children.now = c.loop-child.invariant.dtypes ∙ ap (map inferred) (grind (arith, common_steps)) in
    let n : c.into_vec.result.items ≡ c.args.names.now = c.into_vec.ensures ∙ c.in_ok-try_clone-2.ensures in
    rw (c.new.ensures, n, d) (fields-zip s c.args.names.now c.args.children.now c.requires.even h)

pub returns-clause-faultless : goal.returns-clause-faultless
returns-clause-faultless c =
    let all : take c.loop-child.child-index c.args.children.now ≡ c.args.children.now = grind (arith, common_steps) in
    subst (All (λ (b : Bound). typing_fault b.scope b.expr ≡ None)) all c.loop-child.invariant.faultless
