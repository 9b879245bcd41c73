use Rattle.std.proofs.Common.{◌∙◌, ◌++◌, ◌∷◌, [], ap}
use Rattle.scan_expr.specs.Infer.{struct_fields}
use Rattle.scan_partition.proofs.Placing.{none_read, one_read}
use Rattle.scan_partition.proofs.direct.places_read.Goals as goal

pub returns-in-None : goal.returns-in-None
returns-in-None c =
    none_read (struct_fields c.args.scope.now) c.args.parts.now c.loop-part.read.items c.loop-part.part-index c.part-item.result c.loop-part-test.true c.part-item.is c.in-None.ensures c.loop-part.invariant

pub loop-part-preserved : goal.loop-part-preserved
loop-part-preserved c =
    one_read (struct_fields c.args.scope.now) c.args.parts.now c.loop-part.read.items c.push.new.self.items c.loop-part.part-index c.part-item.result c.in-Some.name.now c.loop-part-test.true c.part-item.is c.in-Some.ensures
    (c.in_ok-push-in-Some.ensures.items ∙ ap (λ i. c.loop-part.read.items ++ i ∷ []) c.place.ensures) c.loop-part.invariant
