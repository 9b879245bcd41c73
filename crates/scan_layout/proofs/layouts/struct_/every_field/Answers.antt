use Rattle.std.proofs.Common.{◌+◌, ◌-◌, ◌∙◌, sym, ap, ◌++◌, [], ◌∷◌, append_assoc}
use Rattle.scan_values.specs.declared.field_path.FieldMask.TheVariants.{All}
use Rattle.scan_layout.specs.Slots.{every_field}
use Rattle.scan_layout.proofs.Matches.{every_at}
use Rattle.scan_layout.proofs.layouts.struct_.every_field.Goals as goal

pub loop-i-preserved : goal.loop-i-preserved
loop-i-preserved c =
    ap (λ xs. xs ++ every_field (c.loop-i.i + 1) (c.args.count - (c.loop-i.i + 1))) c.in_ok-push.ensures.items
    ∙ append_assoc c.loop-i.found.items ((All, c.loop-i.i) ∷ []) (every_field (c.loop-i.i + 1) (c.args.count - (c.loop-i.i + 1)))
    ∙ ap (λ r. c.loop-i.found.items ++ r) (sym (every_at c.args.count c.loop-i.i c.loop-i-test.true))
    ∙ c.loop-i.invariant
