use Rattle.std.proofs.Common.{◌≡◌, List, [], ◌∷◌, Bor, map, zip, refl, ap, ◌∙◌, arith}
use Rattle.std.proofs.lemmas.Grind.{common_steps}
use Rattle.scan_values.specs.DataType.{DataType, Name}
use Rattle.scan_values.proofs.dtype.StructFields.from_pairs.Goals as goal

pairs-zip : (ps : List (Bor Name × DataType)) → zip (map (λ p. p.0.now) ps) (map (λ p. p.1) ps) ≡ map (λ p. (p.0.now, p.1)) ps
pairs-zip [] = refl
pairs-zip (p ∷ ps) = ap (λ fs. (p.0.now, p.1) ∷ fs) (pairs-zip ps)

pub returns : goal.returns
returns c =
    let ps = c.args.pairs.items in
    let names : c.loop-pair.names.items ≡ map (λ p. p.0.now) ps = grind (arith, common_steps, c.loop-pair.invariant.names) in
    let dtypes : c.loop-pair.dtypes.items ≡ map (λ p. p.1) ps = grind (arith, common_steps, c.loop-pair.invariant.dtypes) in
    c.new.ensures ∙ (rw (names, dtypes) (pairs-zip ps))
